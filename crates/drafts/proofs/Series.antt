-- After any series of calls from a store of zero bytes, each name gives back the tree of its last accepted save, not forgotten since.
use mathlib.Core.Path.{◌≡◌, refl, sym, ap, ◌∙◌}
use Prim.Native.Nat.{ℕ, ◌+◌, ◌-◌, ◌≤◌, ◌<◌}
use native.Mathlib.Omega.{arith}
use mathlib.Core.Bool.{Bool, true, false}
use mathlib.Core.List.{List, [], ◌∷◌, ◌++◌}
use mathlib.Core.Option.{Option, some, none}
use lib.ListN.{length, replicate}
use lib.Dec.{ltb, eqb}
use borrow.Author.Tests.{ltb-true, ltb-false, eqb-true, eqb-false, ne_eqb, lt-ltb, le-ltb}
use Rattle.common.specs.Choice.{pick}
use Rattle.common.specs.Outcome.{Outcome}
use Rattle.tree.specs.Tree.{Tree}
use Rattle.tree.specs.Reading.{ReadOne, read_tree}
use Rattle.tree.specs.Accepted.{element}
use Rattle.tree.proofs.Sound.{tree_refusal}
use Rattle.drafts.specs.Store.{is_name, tag_for, is_tag, has_tag, fields_of, field_bytes, store_of, without_tag, draft_of, save_tree, save_of, forget_of}
use Rattle.drafts.specs.Store.{return_found}
use Rattle.drafts.specs.Store.{return_of}
use Rattle.drafts.specs.Promises.{name_in, DraftCall, save, forget, return, answer_to, store_after, noted, last_saved, Fields}
use Rattle.drafts.proofs.Fields.{read_store, store_of_length, fields_without, without_gone, without_shorter, joined_last, fields_last, found_other}
use Rattle.drafts.proofs.Fields.{found_none, found_last, found_before, element_field}

-- ---- names

name_range : (n : ℕ) → is_name n ≡ true → (65 ≤ n) × (n ≤ 72)
unfolding is_name
name_range n h = go (ltb n 65) (ltb n 73) refl refl h
  where
    go : (c d : Bool) → ltb n 65 ≡ c → ltb n 73 ≡ d → pick c false d ≡ true → (65 ≤ n) × (n ≤ 72)
    go true d e q h = let z : ◌≡◌ {A = ℕ} 0 1 = cc in absurd (omega arith)
    go false false e q h = let z : ◌≡◌ {A = ℕ} 0 1 = cc in absurd (omega arith)
    go false true e q h = (ltb-false n 65 e, omega (arith, ltb-true n 73 q))

pub name_tag : (n : ℕ) → is_name n ≡ true → is_tag (tag_for n) ≡ true
unfolding is_tag tag_for
name_tag n h =
    let r = name_range n h in
    let a : 32 ≤ n - 33 = omega (arith, r) in
    let b : n - 33 < 40 = omega (arith, r) in
    rw (le-ltb _ _ a, lt-ltb _ _ b)

tag_name : (n k : ℕ) → is_name n ≡ true → is_name k ≡ true → tag_for n ≡ tag_for k → n ≡ k
unfolding tag_for
tag_name n k h j e = omega (arith, name_range n h, name_range k j)

pub is_name_lem : is_name 65 ≡ true
unfolding is_name
is_name_lem = refl

-- ---- a store that calls have left

pub record StoreState (n : ℕ) (o : List ℕ) : Type 0 where
  pub fs : List (List ℕ)
  pub good : Fields fs
  pub room : length (field_bytes fs) ≤ n
  pub is : o ≡ store_of n fs

module _ {n : ℕ} {o : List ℕ} (x : StoreState n o) where
  pub state_reads : fields_of o ≡ some x.fs
  state_reads = ap fields_of x.is ∙ read_store n x.fs x.good x.room

  pub state_length : length o ≡ n
  state_length = ap length x.is ∙ store_of_length n x.fs x.room

pub state_zeros : (n : ℕ) → StoreState n (replicate n 0)
unfolding store_of field_bytes
state_zeros n = let e : n ≡ n - 0 = omega arith in record { fs = []; good = tt; room = omega arith; is = ap (λ (z : ℕ). replicate z 0) e }

-- ---- one call, and the draft named k

pub other_noted : (k q : ℕ) (c : DraftCall) (m : Option (List ℕ)) → (name_in c ≡ k → ⊥) → noted k q c m ≡ m
unfolding noted name_in
other_noted k q (save j tree) m d = rw (ne_eqb j k d)
other_noted k q (forget j) m d = rw (ne_eqb j k d)
other_noted k q (return j out) m d = refl

module _ (n k : ℕ) (name : is_name k ≡ true) where
  pub record NextCall (o : List ℕ) (m : Option (List ℕ)) : Type 0 where
    pub state : StoreState n o
    pub holds : draft_of (tag_for k) state.fs ≡ m

  -- a refusal
  kept_noted : (q : ℕ) → (q ≡ 0 → ⊥) → (c : DraftCall) (m : Option (List ℕ)) → m ≡ noted k q c m
  unfolding noted
  kept_noted q d (save j tree) m = rw (ne_eqb q 0 d) (go (eqb j k))
    where
      go : (c : Bool) → m ≡ pick c m m
      go true = refl
      go false = refl
  kept_noted q d (forget j) m = rw (ne_eqb q 0 d) (go (eqb j k))
    where
      go : (c : Bool) → m ≡ pick c m m
      go true = refl
      go false = refl
  kept_noted q d (return j out) m = refl

  stay : (o : List ℕ) (m : Option (List ℕ)) → NextCall o m → (q : ℕ) → (q ≡ 0 → ⊥) → (c : DraftCall) → NextCall o (noted k q c m)
  stay o m x q d c = record { state = x.state; holds = x.holds ∙ kept_noted q d c m }

  abbrev CallNext : Outcome ℕ (List ℕ) → DraftCall → Option (List ℕ) → Type 0
  CallNext r c m = NextCall r.memory (noted k r.answer c m)

  module _ (o : List ℕ) (m : Option (List ℕ)) (x : NextCall o m) where
    abbrev fs : List (List ℕ)
    fs = x.state.fs

    saved : (j : ℕ) (tree : List ℕ) → is_name j ≡ true → length (field_bytes (without_tag (tag_for j) fs)) + (3 + length tree) ≤ length o
        → NextCall (store_of (length o) (without_tag (tag_for j) fs ++ (element (tag_for j) tree ∷ []))) (noted k 0 (save j tree) m)
    unfolding noted
    saved j tree p h =
        let g = without_tag (tag_for j) fs in
        let e = element (tag_for j) tree in
        let l = state_length x.state in
        let a = fields_last g e (fields_without (tag_for j) fs x.state.good) (element_field (tag_for j) tree (name_tag j p))
        (without_gone (tag_for j) fs x.state.good) in
        let r : length (field_bytes (g ++ (e ∷ []))) ≤ n = omega (arith, joined_last g e) in
        record {
          state = record { fs = g ++ (e ∷ []); good = a; room = r; is = ap (λ (z : ℕ). store_of z (g ++ (e ∷ []))) l };
          holds = go (eqb j k) refl;
        }
      where
        go : (c : Bool) → eqb j k ≡ c → draft_of (tag_for k) (without_tag (tag_for j) fs ++ (element (tag_for j) tree ∷ [])) ≡ pick c (some tree) m
        go true e =
            let i : j ≡ k = eqb-true j k e in
            found_last (tag_for k) (without_tag (tag_for j) fs) (element (tag_for j) tree) (rw i (without_gone (tag_for k) fs x.state.good)) (ap tag_for i)
        go false e =
            let d : tag_for j ≡ tag_for k → ⊥ = λ z. eqb-false j k e (tag_name j k p name z) in
            found_before (tag_for k) (without_tag (tag_for j) fs) (element (tag_for j) tree) d ∙ found_other (tag_for k) (tag_for j) fs (λ z. d (sym z))
            ∙ x.holds

    save_next : (j : ℕ) (tree : List ℕ) → CallNext (save_of o j tree) (save j tree) m
    unfolding save_of
    save_next j tree = rw (state_reads x.state) (named (is_name j) refl)
      where
        room : (c : Bool) → is_name j ≡ true → ltb (length o) (length (field_bytes (without_tag (tag_for j) fs)) + (3 + length tree)) ≡ c
            → CallNext (pick c (record { answer = 20; memory = o })
            (record { answer = 0; memory = store_of (length o) (without_tag (tag_for j) fs ++ (element (tag_for j) tree ∷ [])) })) (save j tree) m
        room true p e = stay o m x 20 (λ z. omega arith) (save j tree)
        room false p e = saved j tree p (ltb-false (length o) (length (field_bytes (without_tag (tag_for j) fs)) + (3 + length tree)) e)

        read : (y : ReadOne) → read_tree tree ≡ y → is_name j ≡ true → CallNext (save_tree o fs (tag_for j) tree y) (save j tree) m
        read (ReadOne.refused q) e p = stay o m x q (λ z. omega (arith, tree_refusal tree q e)) (save j tree)
        read (ReadOne.one t z w) e p = room (ltb (length o) (length (field_bytes (without_tag (tag_for j) fs)) + (3 + length tree))) p refl

        named : (c : Bool) → is_name j ≡ c → CallNext (pick c (save_tree o fs (tag_for j) tree (read_tree tree)) (record { answer = 19; memory = o }))
            (save j tree) m
        named true p = read (read_tree tree) refl p
        named false p = stay o m x 19 (λ z. omega arith) (save j tree)

    forgot : (j : ℕ) → is_name j ≡ true → NextCall (store_of (length o) (without_tag (tag_for j) fs)) (noted k 0 (forget j) m)
    unfolding noted
    forgot j p =
        let l = state_length x.state in
        record {
          state = record {
            fs = without_tag (tag_for j) fs;
            good = fields_without (tag_for j) fs x.state.good;
            room = omega (arith, without_shorter (tag_for j) fs, x.state.room);
            is = ap (λ (z : ℕ). store_of z (without_tag (tag_for j) fs)) l;
          };
          holds = go (eqb j k) refl;
        }
      where
        go : (c : Bool) → eqb j k ≡ c → draft_of (tag_for k) (without_tag (tag_for j) fs) ≡ pick c none m
        go true e =
            let i : j ≡ k = eqb-true j k e in
            found_none (tag_for k) (without_tag (tag_for j) fs) (rw i (without_gone (tag_for k) fs x.state.good))
        go false e =
            let d : tag_for j ≡ tag_for k → ⊥ = λ z. eqb-false j k e (tag_name j k p name z) in
            found_other (tag_for k) (tag_for j) fs (λ z. d (sym z)) ∙ x.holds

    forget_next : (j : ℕ) → CallNext (forget_of o j) (forget j) m
    unfolding forget_of
    forget_next j = rw (state_reads x.state) (named (is_name j) refl)
      where
        there : (c : Bool) → is_name j ≡ true → CallNext (pick c (record { answer = 0; memory = store_of (length o) (without_tag (tag_for j) fs) })
            (record { answer = 19; memory = o })) (forget j) m
        there true p = forgot j p
        there false p = stay o m x 19 (λ z. omega arith) (forget j)

        named : (c : Bool) → is_name j ≡ c → CallNext (pick c
            (pick (has_tag (tag_for j) fs) (record { answer = 0; memory = store_of (length o) (without_tag (tag_for j) fs) })
            (record { answer = 19; memory = o }))
            (record { answer = 19; memory = o })) (forget j) m
        named true p = there (has_tag (tag_for j) fs) p
        named false p = stay o m x 19 (λ z. omega arith) (forget j)

    pub call_next : (c : DraftCall) → CallNext (answer_to o c) c m
    unfolding answer_to noted
    call_next (save j tree) = save_next j tree
    call_next (forget j) = forget_next j
    call_next (return j out) = x

  pub series : (cs : List DraftCall) (o : List ℕ) (m : Option (List ℕ)) → NextCall o m → NextCall (store_after o cs) (last_saved k o cs m)
  unfolding store_after last_saved
  series [] o m x = x
  series (c ∷ cs) o m x = series cs (answer_to o c).memory (noted k (answer_to o c).answer c m) (call_next o m x c)

-- ---- from a store of zero bytes

module _ (n : ℕ) (cs : List DraftCall) where
  abbrev store : List ℕ
  store = store_after (replicate n 0) cs

  abbrev draft : ℕ → Option (List ℕ)
  draft k = last_saved k (replicate n 0) cs none

  end : (k : ℕ) (name : is_name k ≡ true) → NextCall n k name store (draft k)
  unfolding draft_of state_zeros
  end k name = series n k name cs (replicate n 0) none (record { state = state_zeros n; holds = refl })

  -- a return: the tree of the last accepted save under that name, not forgotten since; 19 where there is none, 8 where the buffer is too short
  pub return_gives : (k : ℕ) → is_name k ≡ true → (out : List ℕ) → return_of store k out ≡ return_found (draft k) out
  unfolding return_of
  return_gives k name out = let e = end k name in rw (state_reads e.state, name, e.holds)

  pub ours : StoreState n store
  ours = (end 65 is_name_lem).state

  -- no byte is added or lost, and the store is always of the right form
  pub store_length : length store ≡ n
  store_length = state_length ours

  pub store_reads : fields_of store ≡ some ours.fs
  store_reads = state_reads ours

  -- a save of a tree that is read is refused for the name, or for lack of room and nothing else: by the other fields, 3 and the tree
  pub save_room : (k : ℕ) → is_name k ≡ true → (tree : List ℕ) (t : Tree) (z w : ℕ) → read_tree tree ≡ ReadOne.one t z w
      → (save_of store k tree).answer ≡ pick (ltb n (length (field_bytes (without_tag (tag_for k) ours.fs)) + (3 + length tree))) 20 0
  unfolding save_of
  save_room k name tree t z w e =
      rw (store_reads, name, e, store_length) (go (ltb n (length (field_bytes (without_tag (tag_for k) ours.fs)) + (3 + length tree))))
    where
      go : (c : Bool) → (pick {X = Outcome ℕ (List ℕ)} c (record { answer = 20; memory = store })
          (record { answer = 0; memory = store_of n (without_tag (tag_for k) ours.fs ++ (element (tag_for k) tree ∷ [])) })).answer ≡ pick c 20 0
      go true = refl
      go false = refl
