-- What holds of every store, of the right form or not.
use mathlib.Core.Path.{◌≡◌, refl}
use Prim.Native.Nat.{ℕ, ◌+◌}
use native.Mathlib.Omega.{arith}
use mathlib.Core.Bool.{Bool, true, false}
use mathlib.Core.List.{List}
use mathlib.Core.Option.{Option, some, none}
use lib.ListN.{length}
use lib.Dec.{ltb}
use Rattle.common.specs.Choice.{pick}
use Rattle.common.specs.Outcome.{Outcome}
use Rattle.tree.specs.Reading.{ReadOne, read_tree, tree_answer}
use Rattle.drafts.specs.declared.Returned.{Returned}
use Rattle.drafts.specs.Store.{is_name, tag_for, has_tag, fields_of, field_bytes, without_tag, draft_of, save_tree, save_in, save_of, forget_in, forget_of}
use Rattle.drafts.specs.Store.{no_return}
use Rattle.drafts.specs.Store.{return_found, return_in, return_of}
use Rattle.drafts.specs.Promises.{TreeRead, DraftCall, save, forget, return, answer_to}
use Rattle.drafts.proofs.OpenedStore.{tree_read}

abbrev Keeps : List ℕ → Outcome ℕ (List ℕ) → Type 0
Keeps o a = (a.answer ≡ 0 → ⊥) → a.memory ≡ o

keeps_pick : (o : List ℕ) (c : Bool) (a b : Outcome ℕ (List ℕ)) → Keeps o a → Keeps o b → Keeps o (pick c a b)
keeps_pick o true a b p q = p
keeps_pick o false a b p q = q

keeps_refused : (o : List ℕ) (n : ℕ) → Keeps o (record { answer = n; memory = o })
keeps_refused o n h = refl

keeps_saved : (o s : List ℕ) → Keeps o (record { answer = 0; memory = s })
keeps_saved o s h = absurd (h refl)

save_keeps : (o : List ℕ) (n : ℕ) (tree : List ℕ) → Keeps o (save_of o n tree)
unfolding save_of
save_keeps o n tree = go (fields_of o)
  where
    read : (fs : List (List ℕ)) (y : ReadOne) → Keeps o (save_tree o fs (tag_for n) tree y)
    read fs (ReadOne.refused k) = keeps_refused o k
    read fs (ReadOne.one t z w) =
        keeps_pick o (ltb (length o) (length (field_bytes (without_tag (tag_for n) fs)) + (3 + length tree))) _ _ (keeps_refused o 20) (keeps_saved o _)

    go : (x : Option (List (List ℕ))) → Keeps o (save_in o x n tree)
    go none = keeps_refused o 18
    go (some fs) = keeps_pick o (is_name n) _ _ (read fs (read_tree tree)) (keeps_refused o 19)

forget_keeps : (o : List ℕ) (n : ℕ) → Keeps o (forget_of o n)
unfolding forget_of
forget_keeps o n = go (fields_of o)
  where
    go : (x : Option (List (List ℕ))) → Keeps o (forget_in o x n)
    go none = keeps_refused o 18
    go (some fs) = keeps_pick o (is_name n) _ _ (keeps_pick o (has_tag (tag_for n) fs) _ _ (keeps_saved o _) (keeps_refused o 19)) (keeps_refused o 19)

-- a refusal changes no byte of the store
pub refused_keeps : (o : List ℕ) (c : DraftCall) → ((answer_to o c).answer ≡ 0 → ⊥) → (answer_to o c).memory ≡ o
unfolding answer_to
refused_keeps o (save n tree) = save_keeps o n tree
refused_keeps o (forget n) = forget_keeps o n
refused_keeps o (return n out) = λ h. refl

abbrev KeepsOut : List ℕ → Outcome Returned (List ℕ) → Type 0
KeepsOut out r = (r.answer.number ≡ 0 → ⊥) → r ≡ no_return r.answer.number out

out_pick : (out : List ℕ) (c : Bool) (a b : Outcome Returned (List ℕ)) → KeepsOut out a → KeepsOut out b → KeepsOut out (pick c a b)
out_pick out true a b p q = p
out_pick out false a b p q = q

-- nor one of the buffer
pub return_keeps : (o : List ℕ) (n : ℕ) (out : List ℕ) → ((return_of o n out).answer.number ≡ 0 → ⊥)
    → return_of o n out ≡ no_return (return_of o n out).answer.number out
unfolding return_of
return_keeps o n out = go (fields_of o)
  where
    found : (x : Option (List ℕ)) → KeepsOut out (return_found x out)
    found none = λ h. refl
    found (some tree) = out_pick out (ltb (length out) (length tree)) _ _ (λ h. refl) (λ h. absurd (h refl))

    go : (x : Option (List (List ℕ))) → KeepsOut out (return_in x n out)
    go none = λ h. refl
    go (some fs) = out_pick out (is_name n) _ _ (found (draft_of (tag_for n) fs)) (λ h. refl)

-- a tree is saved only if the tree reader accepts it
pub saved_read : (o : List ℕ) (n : ℕ) (tree : List ℕ) → (save_of o n tree).answer ≡ 0 → TreeRead tree
unfolding save_of
saved_read o n tree h = tree_read tree (go (fields_of o) h)
  where
    read : (fs : List (List ℕ)) (y : ReadOne) → (save_tree o fs (tag_for n) tree y).answer ≡ 0 → (tree_answer y).number ≡ 0
    read fs (ReadOne.refused k) h = h
    read fs (ReadOne.one t z w) h = refl

    named : (fs : List (List ℕ)) (c : Bool) → (pick c (save_tree o fs (tag_for n) tree (read_tree tree)) (record { answer = 19; memory = o })).answer ≡ 0
        → (tree_answer (read_tree tree)).number ≡ 0
    named fs true h = read fs (read_tree tree) h
    named fs false h = absurd (omega arith)

    go : (x : Option (List (List ℕ))) → (save_in o x n tree).answer ≡ 0 → (tree_answer (read_tree tree)).number ≡ 0
    go none h = absurd (omega arith)
    go (some fs) h = named fs (is_name n) h
