-- What holds of every store of the right form, also one that a caller passes in.
use mathlib.Core.Path.{◌≡◌, refl, ap, ◌∙◌}
use Prim.Native.Nat.{ℕ, ◌+◌, ◌-◌, ◌≤◌}
use native.Mathlib.Omega.{arith}
use mathlib.Core.Bool.{Bool, true, false}
use mathlib.Core.List.{List, [], ◌∷◌, ◌++◌}
use mathlib.Core.Option.{Option, some}
use lib.ListN.{length, replicate}
use lib.Dec.{ltb}
use borrow.Author.Tests.{ltb-false}
use Rattle.common.specs.Choice.{pick}
use Rattle.common.specs.Outcome.{Outcome}
use Rattle.tree.specs.Reading.{ReadOne, read_tree}
use Rattle.tree.specs.Accepted.{element}
use Rattle.tree.proofs.Sound.{tree_refusal}
use Rattle.drafts.specs.Store.{is_name, tag_for, has_tag, fields_of, field_bytes, store_of, without_tag, draft_of, save_tree, save_of, forget_of, return_found}
use Rattle.drafts.specs.Store.{return_of}
use Rattle.drafts.specs.Promises.{name_in, OfForm, DraftCall, answer_to, store_after, last_saved, Formed}
use Rattle.drafts.proofs.Fields.{read_store, fields_without, without_gone, without_shorter, joined_last, fields_last, element_field}
use Rattle.drafts.proofs.Formed.{store_parsed, used_and_zeros}
use Rattle.drafts.proofs.Series.{name_tag, is_name_lem, StoreState, state_reads, state_length, other_noted, NextCall, call_next, series}

of_form : {n : ℕ} {o : List ℕ} → StoreState n o → OfForm n o
of_form x = record { fields = x.fs; reads = state_reads x; long = state_length x }

-- a store of the right form, whoever made it
module _ (o : List ℕ) (fs : List (List ℕ)) (e : fields_of o ≡ some fs) where
  form : Formed o fs
  form = store_parsed o fs e

  within : length (field_bytes fs) ≤ length o
  within = omega (arith, used_and_zeros o fs form)

  packed : o ≡ store_of (length o) fs
  unfolding store_of
  packed =
      let z : form.zeros ≡ length o - length (field_bytes fs) = omega (arith, used_and_zeros o fs form) in
      form.is ∙ ap (λ (k : ℕ). field_bytes fs ++ replicate k 0) z

  abbrev start : (k : ℕ) (name : is_name k ≡ true) → NextCall (length o) k name o (draft_of (tag_for k) fs)
  start k name = record { state = record { fs = fs; good = form.good; room = within; is = packed }; holds = refl }

  -- ---- one call

  -- the store is of the right form again, and as long
  pub call_form : (c : DraftCall) → OfForm (length o) (answer_to o c).memory
  call_form c = of_form (call_next (length o) 65 is_name_lem o (draft_of (tag_for 65) fs) (start 65 is_name_lem) c).state

  -- "other drafts keep their bytes": a call under another name does not change what the name gives back
  pub others_stay : (k : ℕ) → is_name k ≡ true → (c : DraftCall) → (name_in c ≡ k → ⊥) → (out : List ℕ)
      → return_of (answer_to o c).memory k out ≡ return_of o k out
  unfolding return_of
  others_stay k name c d out =
      let f = call_next (length o) k name o (draft_of (tag_for k) fs) (start k name) c in
      rw (e, state_reads f.state, name)
      (ap (λ (m : Option (List ℕ)). return_found m out) (f.holds ∙ other_noted k (answer_to o c).answer c (draft_of (tag_for k) fs) d))

  abbrev Gives : Outcome ℕ (List ℕ) → List (List ℕ) → Type 0
  Gives r gs = r.answer ≡ 0 → fields_of r.memory ≡ some gs

  -- "Saving drops an older draft of that name and puts the new one last"
  pub save_last : (n : ℕ) (tree : List ℕ) → (save_of o n tree).answer ≡ 0
      → fields_of (save_of o n tree).memory ≡ some (without_tag (tag_for n) fs ++ (element (tag_for n) tree ∷ []))
  unfolding save_of
  save_last n tree = rw e (named (is_name n) refl)
    where
      gs : List (List ℕ)
      gs = without_tag (tag_for n) fs ++ (element (tag_for n) tree ∷ [])

      room : (c : Bool) → is_name n ≡ true → ltb (length o) (length (field_bytes (without_tag (tag_for n) fs)) + (3 + length tree)) ≡ c
          → Gives (pick c (record { answer = 20; memory = o }) (record { answer = 0; memory = store_of (length o) gs })) gs
      room true p q h = absurd (omega arith)
      room false p q h =
          let g = without_tag (tag_for n) fs in
          let f = element (tag_for n) tree in
          read_store (length o) gs
          (fields_last g f (fields_without (tag_for n) fs form.good) (element_field (tag_for n) tree (name_tag n p))
          (without_gone (tag_for n) fs form.good))
          (omega (arith, joined_last g f, ltb-false (length o) (length (field_bytes g) + (3 + length tree)) q))

      read : (y : ReadOne) → read_tree tree ≡ y → is_name n ≡ true → Gives (save_tree o fs (tag_for n) tree y) gs
      read (ReadOne.refused k) q p h = absurd (omega (arith, tree_refusal tree k q))
      read (ReadOne.one t z w) q p h = room (ltb (length o) (length (field_bytes (without_tag (tag_for n) fs)) + (3 + length tree))) p refl h

      named : (c : Bool) → is_name n ≡ c → Gives (pick c (save_tree o fs (tag_for n) tree (read_tree tree)) (record { answer = 19; memory = o })) gs
      named true p h = read (read_tree tree) refl p h
      named false p h = absurd (omega arith)

  -- "forgetting closes the gap"
  pub forget_closes : (n : ℕ) → (forget_of o n).answer ≡ 0 → fields_of (forget_of o n).memory ≡ some (without_tag (tag_for n) fs)
  unfolding forget_of
  forget_closes n = rw e (named (is_name n) (has_tag (tag_for n) fs))
    where
      named : (c d : Bool) → Gives (pick c (pick d (record { answer = 0; memory = store_of (length o) (without_tag (tag_for n) fs) })
          (record { answer = 19; memory = o })) (record { answer = 19; memory = o })) (without_tag (tag_for n) fs)
      named true true h = read_store (length o) (without_tag (tag_for n) fs) (fields_without (tag_for n) fs form.good) (omega
          (arith, without_shorter (tag_for n) fs, within))
      named true false h = absurd (omega arith)
      named false d h = absurd (omega arith)

  -- ---- a series of calls

  pub series_form : (cs : List DraftCall) → OfForm (length o) (store_after o cs)
  series_form cs = of_form (series (length o) 65 is_name_lem cs o (draft_of (tag_for 65) fs) (start 65 is_name_lem)).state

  -- a return gives the tree of the last accepted save under the name, not forgotten since, or what the store held under it at first
  pub series_gives : (cs : List DraftCall) (k : ℕ) → is_name k ≡ true → (out : List ℕ)
      → return_of (store_after o cs) k out ≡ return_found (last_saved k o cs (draft_of (tag_for k) fs)) out
  unfolding return_of
  series_gives cs k name out = let f = series (length o) k name cs o (draft_of (tag_for k) fs) (start k name) in rw (state_reads f.state, name, f.holds)
