-- Drafts of alike trees: equal numbers and counts from every call, and stores that stay alike.
use mathlib.Core.Path.{◌≡◌, refl, sym, ap, ◌∙◌}
use Prim.Native.Nat.{ℕ, ◌+◌, ◌≤◌}
use native.Mathlib.Omega.{arith}
use mathlib.Core.Bool.{Bool, true, false}
use mathlib.Core.List.{List, [], ◌∷◌, ◌++◌}
use mathlib.Core.Option.{Option, some, none}
use lib.ListN.{length, drop, length-append}
use lib.Dec.{eqb, ltb}
use borrow.Author.Tests.{ltb-false}
use Rattle.common.specs.Choice.{pick}
use Rattle.common.specs.Outcome.{Outcome}
use Rattle.tree.specs.Reading.{ReadOne, read_tree}
use Rattle.tree.specs.Accepted.{element}
use Rattle.drafts.specs.Store.{is_name, tag_for, tag_in, has_tag, fields_of, field_bytes, store_of, without_tag, draft_of, save_tree, save_in, save_of}
use Rattle.drafts.specs.Store.{forget_of, no_return}
use Rattle.drafts.specs.Store.{return_found, return_in, return_of}
use Rattle.drafts.specs.declared.Returned.{Returned}
use Rattle.drafts.specs.Promises.{DraftCall, answer_to, store_after, Fields, Formed}
use Rattle.drafts.proofs.Fields.{read_store, store_of_length, fields_without, without_gone, without_shorter, joined_last, fields_last, element_field}
use Rattle.drafts.proofs.Formed.{store_parsed, used_and_zeros}
use Rattle.drafts.proofs.Series.{name_tag}
use Rattle.alike.specs.Pairs as pairs
use Rattle.alike.specs.Pairs.{AlikeBytes, SameRead, SameField, SameFields, FormedStores, AlikeStores, SameStoreAnswer, SameCall, SameCalls}
use Rattle.alike.specs.Lent.{BothReturn}
use Rattle.alike.proofs.Readers.{length_alike}
use Rattle.alike.proofs.Pairs.{reads_alike}
use Rattle.alike.proofs.Lent.{lent_none, lent_front, both_pick}

-- the same number, and stores of the right form again
record FormedAnswer (x y : Outcome ℕ (List ℕ)) : Type 0 where
  number : x.answer ≡ y.answer
  stores : FormedStores x.memory y.memory

-- ---- fields

same_fields : (fs : List (List ℕ)) → SameFields fs fs
same_fields [] = pairs.none
same_fields (f ∷ fs) = pairs.more (record { tag = refl; long = refl; draft = pairs.same (drop 3 f) }) (same_fields fs)

same_length : {fs gs : List (List ℕ)} → SameFields fs gs → length (field_bytes fs) ≡ length (field_bytes gs)
unfolding field_bytes
same_length pairs.none = refl
same_length (pairs.more {f} {g} {fs} {gs} x k) = omega (arith, x.long, same_length k, length-append f (field_bytes fs), length-append g (field_bytes gs))

same_has : (n : ℕ) {fs gs : List (List ℕ)} → SameFields fs gs → has_tag n fs ≡ has_tag n gs
unfolding has_tag
same_has n pairs.none = refl
same_has n (pairs.more x k) = rw (x.tag, same_has n k)

same_without : (n : ℕ) {fs gs : List (List ℕ)} → SameFields fs gs → SameFields (without_tag n fs) (without_tag n gs)
unfolding without_tag
same_without n pairs.none = pairs.none
same_without n (pairs.more {f} {g} {fs} {gs} x k) = rw x.tag (go (eqb (tag_in g) n) (same_without n k))
  where
    go : (c : Bool) → SameFields (without_tag n fs) (without_tag n gs) → SameFields (pick c fs (f ∷ without_tag n fs)) (pick c gs (g ∷ without_tag n gs))
    go true ih = k
    go false ih = pairs.more x ih

same_last : {fs gs : List (List ℕ)} {f g : List ℕ} → SameFields fs gs → SameField f g → SameFields (fs ++ (f ∷ [])) (gs ++ (g ∷ []))
same_last pairs.none y = pairs.more y pairs.none
same_last (pairs.more x k) y = pairs.more x (same_last k y)

-- ---- the draft of one name

data SameFound : Option (List ℕ) → Option (List ℕ) → Type 0 where
  no_draft : SameFound none none
  a_draft : {d e : List ℕ} → AlikeBytes d e → SameFound (some d) (some e)

same_found : (n : ℕ) {fs gs : List (List ℕ)} → SameFields fs gs → SameFound (draft_of n fs) (draft_of n gs)
unfolding draft_of
same_found n pairs.none = no_draft
same_found n (pairs.more {f} {g} {fs} {gs} x k) = rw x.tag (go (eqb (tag_in g) n) (same_found n k))
  where
    go : (c : Bool) → SameFound (draft_of n fs) (draft_of n gs)
        → SameFound (pick c (some (drop 3 f)) (draft_of n fs)) (pick c (some (drop 3 g)) (draft_of n gs))
    go true ih = a_draft x.draft
    go false ih = ih

-- ---- return, to two buffers of one length

module _ (o r : List ℕ) (l : length o ≡ length r) where
  nothing : (k : ℕ) → BothReturn AlikeBytes o r (no_return k o) (no_return k r)
  nothing k = record { answer = refl; lent = lent_none AlikeBytes o r (pairs.same []) }

  returned : {x y : Option (List ℕ)} → SameFound x y → BothReturn AlikeBytes o r (return_found x o) (return_found y r)
  returned no_draft = nothing 19
  returned (a_draft {d} {e = f} s) =
      let e : length f ≡ length d = sym (length_alike s) in
      rw (l, e)
      (both_pick AlikeBytes o r (ltb (length r) (length d)) (nothing 8) (record { answer = refl; lent = lent_front AlikeBytes o r (length d) d f refl e s }))

  returned_in : (n : ℕ) {fs gs : List (List ℕ)} → SameFields fs gs → BothReturn AlikeBytes o r (return_in (some fs) n o) (return_in (some gs) n r)
  returned_in n k = both_pick AlikeBytes o r (is_name n) (returned (same_found (tag_for n) k)) (nothing 19)

-- ---- stores

store_formed : (o : List ℕ) (fs : List (List ℕ)) → fields_of o ≡ some fs → FormedStores o o
store_formed o fs e = record { fields = fs; others = fs; reads = e; other_reads = e; same = same_fields fs; long = refl }

-- stores of n bytes made of such fields
made : (n : ℕ) {fs gs : List (List ℕ)} → Fields fs → Fields gs → SameFields fs gs → length (field_bytes fs) ≤ n → FormedStores (store_of n fs) (store_of n gs)
made n {fs} {gs} p q k h =
    let l : length (field_bytes gs) ≤ n = omega (arith, same_length k) in
    record {
      fields = fs;
      others = gs;
      reads = read_store n fs p h;
      other_reads = read_store n gs q l;
      same = k;
      long = store_of_length n fs h
          ∙ sym (store_of_length n gs l);
    }

module _ {o r : List ℕ} (a : FormedStores o r) where
  abbrev fs : List (List ℕ)
  fs = a.fields

  abbrev gs : List (List ℕ)
  gs = a.others

  left_formed : Formed o fs
  left_formed = store_parsed o fs a.reads

  right_formed : Formed r gs
  right_formed = store_parsed r gs a.other_reads

  -- ---- forget

  forgotten : (n : ℕ) → FormedStores (store_of (length o) (without_tag n fs)) (store_of (length o) (without_tag n gs))
  forgotten n =
      made (length o) (fields_without n fs left_formed.good) (fields_without n gs right_formed.good) (same_without n a.same)
      (omega (arith, without_shorter n fs, used_and_zeros o fs left_formed))

  forget_formed : (n : ℕ) → FormedAnswer (forget_of o n) (forget_of r n)
  unfolding forget_of
  forget_formed n =
      let e : length r ≡ length o = sym a.long in
      rw (a.reads, a.other_reads, e, ← same_has (tag_for n) a.same) (go (is_name n) (has_tag (tag_for n) fs))
    where
      go : (c d : Bool) → FormedAnswer
          (pick c (pick d (record { answer = 0; memory = store_of (length o) (without_tag (tag_for n) fs) }) (record { answer = 19; memory = o }))
          (record { answer = 19; memory = o }))
          (pick c (pick d (record { answer = 0; memory = store_of (length o) (without_tag (tag_for n) gs) }) (record { answer = 19; memory = r }))
          (record { answer = 19; memory = r }))
      go true true = record { number = refl; stores = forgotten (tag_for n) }
      go true false = record { number = refl; stores = a }
      go false d = record { number = refl; stores = a }

  -- ---- save

  module _ {p q : List ℕ} (b : AlikeBytes p q) (n : ℕ) where
    abbrev k : ℕ
    k = tag_for n

    pair : SameField (element k p) (element k q)
    pair = record { tag = refl; long = omega (arith, length_alike b); draft = b }

    saved : is_name n ≡ true → length (field_bytes (without_tag k fs)) + (3 + length p) ≤ length o
        → FormedStores (store_of (length o) (without_tag k fs ++ (element k p ∷ []))) (store_of (length o) (without_tag k gs ++ (element k q ∷ [])))
    saved name h =
        made (length o)
        (fields_last (without_tag k fs) (element k p) (fields_without k fs left_formed.good) (element_field k p (name_tag n name))
        (without_gone k fs left_formed.good))
        (fields_last (without_tag k gs) (element k q) (fields_without k gs right_formed.good) (element_field k q (name_tag n name))
        (without_gone k gs right_formed.good))
        (same_last (same_without k a.same) pair) (omega (arith, joined_last (without_tag k fs) (element k p)))

    room : (c : Bool) → is_name n ≡ true → ltb (length o) (length (field_bytes (without_tag k fs)) + (3 + length p)) ≡ c → FormedAnswer
        (pick c (record { answer = 20; memory = o }) (record { answer = 0; memory = store_of (length o) (without_tag k fs ++ (element k p ∷ [])) }))
        (pick c (record { answer = 20; memory = r }) (record { answer = 0; memory = store_of (length o) (without_tag k gs ++ (element k q ∷ [])) }))
    room true name e = record { number = refl; stores = a }
    room false name e = record { number = refl; stores = saved name (ltb-false (length o) (length (field_bytes (without_tag k fs)) + (3 + length p)) e) }

    read : is_name n ≡ true → {x y : ReadOne} → SameRead x y → FormedAnswer (save_tree o fs k p x) (save_tree r gs k q y)
    read name (pairs.both_refused j) = record { number = refl; stores = a }
    read name (pairs.both_read t u z w h) =
        let e₁ : length r ≡ length o = sym a.long in
        let e₂ : length (field_bytes (without_tag k gs)) + (3 + length q) ≡ length (field_bytes (without_tag k fs)) + (3 + length p) =
        omega (arith, same_length (same_without k a.same), length_alike b) in
        rw (e₁, e₂) (room (ltb (length o) (length (field_bytes (without_tag k fs)) + (3 + length p))) name refl)

    save_formed : FormedAnswer (save_of o n p) (save_of r n q)
    unfolding save_of
    save_formed = rw (a.reads, a.other_reads) (go (is_name n) refl)
      where
        go : (c : Bool) → is_name n ≡ c → FormedAnswer (pick c (save_tree o fs k p (read_tree p)) (record { answer = 19; memory = o }))
            (pick c (save_tree r gs k q (read_tree q)) (record { answer = 19; memory = r }))
        go true name = read name (reads_alike b)
        go false name = record { number = refl; stores = a }

-- ---- two stores of the right form, or one of any

formed_answer : {x y : Outcome ℕ (List ℕ)} → FormedAnswer x y → SameStoreAnswer x y
formed_answer k = record { number = k.number; stores = pairs.two_stores k.stores }

module _ {p q : List ℕ} (b : AlikeBytes p q) (n : ℕ) where
  save_one : (o : List ℕ) → SameStoreAnswer (save_of o n p) (save_of o n q)
  unfolding save_of
  save_one o = go (fields_of o) refl
    where
      go : (x : Option (List (List ℕ))) → fields_of o ≡ x → SameStoreAnswer (save_in o x n p) (save_in o x n q)
      go none e = record { number = refl; stores = pairs.one_store o }
      go (some fs) e = let k = formed_answer (save_formed (store_formed o fs e) b n) in rw e at k

  pub save_draft_alike : {o r : List ℕ} → AlikeStores o r → SameStoreAnswer (save_of o n p) (save_of r n q)
  save_draft_alike (pairs.one_store o) = save_one o
  save_draft_alike (pairs.two_stores a) = formed_answer (save_formed a b n)

pub forget_draft_alike : {o r : List ℕ} → AlikeStores o r → (n : ℕ) → SameStoreAnswer (forget_of o n) (forget_of r n)
forget_draft_alike (pairs.one_store o) n = record { number = refl; stores = pairs.one_store (forget_of o n).memory }
forget_draft_alike (pairs.two_stores a) n = formed_answer (forget_formed a n)

pub return_draft_alike : {o r : List ℕ} → AlikeStores o r → (n : ℕ) (out other : List ℕ) → length out ≡ length other
    → BothReturn AlikeBytes out other (return_of o n out) (return_of r n other)
unfolding return_of
return_draft_alike (pairs.one_store o) n out other e = go (fields_of o)
  where
    go : (x : Option (List (List ℕ))) → BothReturn AlikeBytes out other (return_in x n out) (return_in x n other)
    go none = nothing out other e 18
    go (some fs) = returned_in out other e n (same_fields fs)
return_draft_alike (pairs.two_stores a) n out other e = rw (a.reads, a.other_reads) (returned_in out other e n a.same)

-- ---- series of calls

pub call_alike : {o r : List ℕ} → AlikeStores o r → {c d : DraftCall} → SameCall c d → SameStoreAnswer (answer_to o c) (answer_to r d)
unfolding answer_to
call_alike a (pairs.both_save n b) = save_draft_alike b n a
call_alike a (pairs.both_forget n) = forget_draft_alike a n
call_alike a (pairs.both_return n out other e) = record { number = ap (λ (k : Returned). k.number) (return_draft_alike a n out other e).answer; stores = a }

-- after them the stores are alike again
pub series_alike : {o r : List ℕ} → AlikeStores o r → {cs ds : List DraftCall} → SameCalls cs ds → AlikeStores (store_after o cs) (store_after r ds)
unfolding store_after
series_alike a pairs.no_calls = a
series_alike {o = o} {r = r} a (pairs.more_calls {c = c} {d = d} {cs = cs} {ds = ds} x k) =
    series_alike {o = (answer_to o c).memory} {r = (answer_to r d).memory} (call_alike a x).stores {cs = cs} {ds = ds} k
