-- What the calls do on a store that was opened for a name.
use mathlib.Core.Path.{◌≡◌, refl, sym, ap, ◌∙◌}
use Prim.Native.Nat.{ℕ, ◌+◌, ◌-◌, ◌≤◌, ◌<◌}
use native.Mathlib.Omega.{arith}
use mathlib.Core.Bool.{Bool, true, false}
use mathlib.Core.List.{List, [], ◌∷◌, ◌++◌, append_assoc, append-nil}
use mathlib.Core.Option.{Option as Maybe, some, none}
use Rattle.std.specs.Prelude.{Option, Some, None, Ok, Err, MatchOption, ok_or}
use lib.ListN.{length, take, drop, replicate, length-append}
use lib.Seq.{sets, take_at, drop-append-add}
use borrow.Author.Tests.{lt-ltb, le-ltb}
use Rattle.common.specs.Choice.{pick}
use Rattle.common.specs.Refusals.{number_of, refusal_of}
use Rattle.common.specs.declared.refusal.Refusal.{Refusal}
use Rattle.common.proofs.Padded.{drop_replicate}
use Rattle.tree.specs.declared.ReadTree.{ReadTree}
use Rattle.common.proofs.Stores.{sets_front}
use Rattle.tree.specs.Reading.{ReadOne, read_tree, tree_answer}
use Rattle.tree.specs.Accepted.{element}
use Rattle.tree.proofs.Sound.{tree_refusal, tree_sound}
use Rattle.drafts.specs.Store.{is_name, tag_for, has_tag, fields_of, field_bytes, store_of, without_tag, draft_of, save_tree, save_in, save_of, forget_in}
use Rattle.drafts.specs.Store.{forget_of}
use Rattle.drafts.specs.Store.{no_return, return_found, return_in, return_of}
use Rattle.drafts.specs.Clauses.{field_from, scan_of, opened_of}
use Rattle.drafts.specs.Promises.{TreeRead, Field, Fields, Formed}
use Rattle.drafts.specs.declared.scan.FieldAt.{FieldAt}
use Rattle.drafts.specs.declared.scan.Scan.{Scan}
use Rattle.drafts.proofs.Formed.{store_parsed, FieldIn, field_in, field_absent, used_and_zeros, zeros_behind, at_within, at_used, gap_store, body_is}
use Rattle.drafts.proofs.Formed.{others_is, size_low}

fields_mid : (front : List (List ℕ)) (f : List ℕ) (back : List (List ℕ)) → Fields (front ++ (f ∷ back)) → Field f
fields_mid [] f back k = k.0
fields_mid (g ∷ front) f back k = fields_mid front f back k.2

joined_more : (fs : List (List ℕ)) (f : List ℕ) → field_bytes (fs ++ (f ∷ [])) ≡ field_bytes fs ++ f
unfolding field_bytes
joined_more [] f = append-nil f
joined_more (g ∷ fs) f = ap (λ (l : List ℕ). g ++ l) (joined_more fs f) ∙ sym (append_assoc g (field_bytes fs) f)

-- a field added after the others
put_store : (n : ℕ) (fs : List (List ℕ)) (f : List ℕ) (m : ℕ) → length f ≡ m → length (field_bytes fs) + m ≤ n
    → take (length (field_bytes fs)) (store_of n fs) ++ (f ++ drop (length (field_bytes fs) + m) (store_of n fs)) ≡ store_of n (fs ++ (f ∷ []))
unfolding store_of
put_store n fs f m q h =
    let a : take (length (field_bytes fs)) (field_bytes fs ++ replicate (n - length (field_bytes fs)) 0) ≡ field_bytes fs =
    take_at (field_bytes fs) (replicate (n - length (field_bytes fs)) 0) (length (field_bytes fs)) refl in
    let b : drop (length (field_bytes fs) + m) (field_bytes fs ++ replicate (n - length (field_bytes fs)) 0) ≡ replicate (n - length (field_bytes fs) - m) 0 =
    drop-append-add (field_bytes fs) (replicate (n - length (field_bytes fs)) 0) m ∙ drop_replicate m (n - length (field_bytes fs)) 0 in
    let l : length (field_bytes fs ++ f) ≡ length (field_bytes fs) + length f = length-append (field_bytes fs) f in
    let z : n - length (field_bytes fs) - m ≡ n - length (field_bytes fs ++ f) = omega arith in
    rw (a, b, joined_more fs f, z) (sym (append_assoc (field_bytes fs) f (replicate (n - length (field_bytes fs ++ f)) 0)))

-- ---- from a scan

abbrev opened_at : ℕ → List (List ℕ) → Scan
opened_at n fs = record { used = length (field_bytes fs); spot = field_from (tag_for n) 0 fs }

module _ (n : ℕ) (x : Maybe (List (List ℕ))) (k : ℕ) (h : k ≡ tag_for n) where
  pub open_18 : (s : Option Scan) → s ≡ scan_of k x → (r : Refusal) → Err r ≡ ok_or s Refusal.BadStore → Err r ≡ opened_of n x
  unfolding refusal_of
  open_18 s e r q = go x (rw e at q)
    where
      go : (x : Maybe (List (List ℕ))) → Err r ≡ ok_or (scan_of k x) Refusal.BadStore → Err r ≡ opened_of n x
      go none q = q
      go (some fs) q = absurd (cc)

  pub open_19 : (s : Option Scan) → s ≡ scan_of k x → (p : Scan) → Ok p ≡ ok_or s Refusal.BadStore → is_name n ≡ false → Err Refusal.NoDraft ≡ opened_of n x
  unfolding refusal_of
  open_19 s e p q m = go x (rw e at q)
    where
      go : (x : Maybe (List (List ℕ))) → Ok p ≡ ok_or (scan_of k x) Refusal.BadStore → Err Refusal.NoDraft ≡ opened_of n x
      go none q = absurd (cc)
      go (some fs) q = rw m

-- what `ok_or` refuses
pub none_there : {A E : Type 0} (s : Option A) (d r : E) → Err r ≡ ok_or s d → (s ≡ None) × (r ≡ d)
none_there None d r e = (refl, cc)
none_there (Some x) d r e = absurd (cc)

-- ---- refused

-- the store is not of the right form, or the name is none of those that it may have
data Unopened (o : List ℕ) (n k : ℕ) : Type 0 where
  bad_store : fields_of o ≡ none → k ≡ 18 → Unopened o n k
  no_name : (fs : List (List ℕ)) → fields_of o ≡ some fs → is_name n ≡ false → k ≡ 19 → Unopened o n k

unopened : (o : List ℕ) (n : ℕ) (r : Refusal) → Err r ≡ opened_of n (fields_of o) → Unopened o n (number_of r)
unfolding refusal_of
unopened o n r e = go (fields_of o) refl e
  where
    named : (fs : List (List ℕ)) → fields_of o ≡ some fs → (c : Bool) → is_name n ≡ c
        → Err r ≡ pick c (Ok (opened_at n fs)) (Err (refusal_of 19)) → Unopened o n (number_of r)
    named fs p true m q = absurd (cc)
    named fs p false m q = no_name fs p m (let z : r ≡ refusal_of 19 = cc in ap number_of z)

    go : (x : Maybe (List (List ℕ))) → fields_of o ≡ x → Err r ≡ opened_of n x → Unopened o n (number_of r)
    go none p q = let z : r ≡ refusal_of 18 = cc in bad_store p (ap number_of z)
    go (some fs) p q = named fs p (is_name n) refl q

module _ (o : List ℕ) (n : ℕ) (r : Refusal) (e : Err r ≡ opened_of n (fields_of o)) where
  pub refused_return : (out : List ℕ) → no_return (number_of r) out ≡ return_of o n out
  unfolding return_of
  refused_return out = go (unopened o n r e)
    where
      go : Unopened o n (number_of r) → no_return (number_of r) out ≡ return_in (fields_of o) n out
      go (bad_store p q) = rw (q, p)
      go (no_name fs p m q) = rw (q, p, m)

  pub refused_save : (tree : List ℕ) → record { answer = number_of r; memory = o } ≡ save_of o n tree
  unfolding save_of
  refused_save tree = go (unopened o n r e)
    where
      go : Unopened o n (number_of r) → record { answer = number_of r; memory = o } ≡ save_in o (fields_of o) n tree
      go (bad_store p q) = rw (q, p)
      go (no_name fs p m q) = rw (q, p, m)

  pub refused_forget : record { answer = number_of r; memory = o } ≡ forget_of o n
  unfolding forget_of
  refused_forget = go (unopened o n r e)
    where
      go : Unopened o n (number_of r) → record { answer = number_of r; memory = o } ≡ forget_in o (fields_of o) n
      go (bad_store p q) = rw (q, p)
      go (no_name fs p m q) = rw (q, p, m)

-- ---- opened

abbrev pub size_in : Option FieldAt → ℕ
size_in None = 0
size_in (Some f) = f.size

pub size_is : (q : Option FieldAt) (s : ℕ) (P : FieldAt → Type 0) → MatchOption q (s ≡ 0) P → ((f : FieldAt) → P f → s ≡ f.size) → s ≡ size_in q
size_is None s P h k = h
size_is (Some f) s P h k = k f h

pub none_is : (q : Option FieldAt) → ((f : FieldAt) → q ≡ Some f → ⊥) → q ≡ None
none_is None h = refl
none_is (Some f) h = absurd (h f refl)

-- the place of an older draft, if there is one, and the fields beside it
pub record SaveRoom (o : List ℕ) (rest : List (List ℕ)) (used : ℕ) (q : Option FieldAt) : Type 0 where
  pub low : size_in q ≤ used
  pub high : used ≤ length o
  pub others : used - size_in q ≡ length (field_bytes rest)
  pub zeros : drop used o ≡ replicate (length o - used) 0
  pub fits : (f : FieldAt) → q ≡ Some f → f.at + f.size ≤ used
  pub closed : (f : FieldAt) → q ≡ Some f → take f.at o ++ (drop (f.at + f.size) o ++ replicate f.size 0) ≡ store_of (length o) rest
  pub whole : q ≡ None → o ≡ store_of (length o) rest

pub record Openable (o : List ℕ) (n : ℕ) (p : Scan) : Type 0 where
  pub fs : List (List ℕ)
  pub reads : fields_of o ≡ some fs
  pub named : is_name n ≡ true
  pub used_is : p.used ≡ length (field_bytes fs)
  pub spot_is : p.spot ≡ field_from (tag_for n) 0 fs

pub opened_ready : (o : List ℕ) (n : ℕ) (p : Scan) → Ok p ≡ opened_of n (fields_of o) → Openable o n p
opened_ready o n p e = go (fields_of o) refl e
  where
    named : (fs : List (List ℕ)) → fields_of o ≡ some fs → (c : Bool) → is_name n ≡ c
        → Ok p ≡ pick c (Ok (opened_at n fs)) (Err (refusal_of 19)) → Openable o n p
    named fs r true m q =
        let d : p ≡ opened_at n fs = cc in
        record { fs = fs; reads = r; named = m; used_is = ap (λ (y : Scan). y.used) d; spot_is = ap (λ (y : Scan). y.spot) d }
    named fs r false m q = absurd (cc)

    go : (x : Maybe (List (List ℕ))) → fields_of o ≡ x → Ok p ≡ opened_of n x → Openable o n p
    go none r q = absurd (cc)
    go (some fs) r q = named fs r (is_name n) refl q

-- what the tree reader answers
pub tree_read : (tree : List ℕ) → (tree_answer (read_tree tree)).number ≡ 0 → TreeRead tree
tree_read tree h = go (read_tree tree) refl h
  where
    go : (x : ReadOne) → read_tree tree ≡ x → (tree_answer x).number ≡ 0 → TreeRead tree
    go (ReadOne.refused k) e q = absurd (omega (arith, tree_refusal tree k e))
    go (ReadOne.one t z w) e q = record { tree_is = t; size = z; nodes = w; reads = e; short = (tree_sound tree t z w e).short }

pub got_tree : (tree : List ℕ) (a : ReadTree) → a ≡ tree_answer (read_tree tree) → a.number ≡ 0 → TreeRead tree
got_tree tree a e h = tree_read tree (sym (ap (λ (y : ReadTree). y.number) e) ∙ h)

module _ (o : List ℕ) (n : ℕ) (p : Scan) (r : Openable o n p) where
  formed : Formed o r.fs
  formed = store_parsed o r.fs r.reads

  -- ---- no draft of that name

  module _ (h : p.spot ≡ None) where
    absent : (has_tag (tag_for n) r.fs ≡ false) × (without_tag (tag_for n) r.fs ≡ r.fs) × (draft_of (tag_for n) r.fs ≡ none)
    absent = field_absent (tag_for n) 0 r.fs (sym r.spot_is ∙ h)

    pub forget_absent : record { answer = 19; memory = o } ≡ forget_of o n
    unfolding forget_of
    forget_absent = let a = absent in rw (r.reads, r.named, a.0)

    pub return_absent : (out : List ℕ) → no_return 19 out ≡ return_of o n out
    unfolding return_of
    return_absent out = let a = absent in rw (r.reads, r.named, a.2)

  -- ---- a draft of that name

  module _ (f : FieldAt) (h : p.spot ≡ Some f) where
    draft_there : FieldIn (tag_for n) 0 r.fs f
    draft_there = field_in (tag_for n) 0 r.fs f (sym r.spot_is ∙ h)

    pub forget_there : (e : List ℕ) → e ≡ take f.at o ++ (drop (f.at + f.size) o ++ replicate f.size 0) → record { answer = 0; memory = e } ≡ forget_of o n
    unfolding forget_of
    forget_there e q =
        let g : e ≡ store_of (length o) (without_tag (tag_for n) r.fs) = q ∙ gap_store o (tag_for n) r.fs f formed draft_there in
        rw (r.reads, r.named, draft_there.there, g)

    pub field_place : (3 ≤ f.size) × (f.at + f.size ≤ length o)
    field_place =
        let a = draft_there in
        let k = fields_mid a.front a.field a.back (rw a.is at formed.good) in
        (omega (arith, k.ends, a.size_is), at_within o (tag_for n) r.fs f formed a)

    -- the part of the store that is copied
    abbrev part : List ℕ
    part = take (f.at + f.size - (f.at + 3)) (drop (f.at + 3) o)

    part_is : part ≡ drop 3 draft_there.field
    part_is =
        let c : f.at + f.size - (f.at + 3) ≡ f.size - 3 = omega (arith, field_place) in
        rw c (body_is o (tag_for n) r.fs f formed draft_there field_place.0)

    returns_part : (out : List ℕ) → return_of o n out ≡ return_found (some part) out
    unfolding return_of
    returns_part out = let b = draft_there.body in rw (r.reads, r.named, b, part_is)

    pub return_short : (out : List ℕ) → length out < length part → no_return 8 out ≡ return_of o n out
    return_short out l = rw (returns_part out, lt-ltb (length out) (length part) l)

    pub return_there : (out e : List ℕ) → length part ≤ length out → e ≡ sets out 0 part
        → record { answer = record { number = 0; count = length part }; memory = e } ≡ return_of o n out
    return_there out e l q =
        let g : e ≡ part ++ drop (length part) out = q ∙ sets_front part out l in
        rw (returns_part out, le-ltb (length out) (length part) l, g)

  -- ---- saving

  abbrev rest : List (List ℕ)
  rest = without_tag (tag_for n) r.fs

  zeros_is : o ≡ store_of (length o) r.fs
  unfolding store_of
  zeros_is =
      let z : formed.zeros ≡ length o - length (field_bytes r.fs) = omega (arith, used_and_zeros o r.fs formed) in
      formed.is ∙ ap (λ (k : ℕ). field_bytes r.fs ++ replicate k 0) z

  used_low : length (field_bytes r.fs) ≤ length o
  used_low = omega (arith, used_and_zeros o r.fs formed)

  behind : drop p.used o ≡ replicate (length o - p.used) 0
  behind = rw r.used_is (zeros_behind o r.fs formed)

  -- both where there is an older draft of that name and where there is none
  pub opened_room : SaveRoom o rest p.used p.spot
  opened_room = go p.spot refl
    where
      go : (q : Option FieldAt) → p.spot ≡ q → SaveRoom o rest p.used q
      go None h =
          let a = field_absent (tag_for n) 0 r.fs (sym r.spot_is ∙ h) in
          rw a.1 (record {
            low = omega arith;
            high = omega (arith, r.used_is, used_low);
            others = omega (arith, r.used_is);
            zeros = behind;
            fits = λ f e. absurd (cc);
            closed = λ f e. absurd (cc);
            whole = λ e. zeros_is;
          })
      go (Some f) h =
          let a = field_in (tag_for n) 0 r.fs f (sym r.spot_is ∙ h) in
          let q = others_is o (tag_for n) r.fs f formed a in
          let w = size_low o (tag_for n) r.fs f formed a in
          record {
            low = omega (arith, r.used_is);
            high = omega (arith, r.used_is, used_low);
            others = ap (λ (k : ℕ). k - f.size) r.used_is ∙ sym q;
            zeros = behind;
            fits = λ g e. let z : f ≡ g = cc in let w : f.at + f.size ≤ p.used = omega (arith, r.used_is, at_used o (tag_for n) r.fs f formed a) in rw z at w;
            closed = λ g e. let z : f ≡ g = cc in rw z at (gap_store o (tag_for n) r.fs f formed a);
            whole = λ e. absurd (cc);
          }

  save_fault : (tree : List ℕ) → ((tree_answer (read_tree tree)).number ≡ 0 → ⊥) → record { answer = (tree_answer (read_tree tree)).number; memory = o }
      ≡ save_of o n tree
  unfolding save_of
  save_fault tree h = rw (r.reads, r.named) (go (read_tree tree) h)
    where
      go : (x : ReadOne) → ((tree_answer x).number ≡ 0 → ⊥) → record { answer = (tree_answer x).number; memory = o } ≡ save_tree o r.fs (tag_for n) tree x
      go (ReadOne.refused k) q = refl
      go (ReadOne.one t z w) q = absurd (q refl)

  pub bad_tree : (tree : List ℕ) (a : ReadTree) → a ≡ tree_answer (read_tree tree) → (a.number ≡ 0 → ⊥) → record { answer = a.number; memory = o }
      ≡ save_of o n tree
  bad_tree tree a e h = let q : a.number ≡ (tree_answer (read_tree tree)).number = ap (λ (y : ReadTree). y.number) e in
      ap (λ (k : ℕ). record { answer = k; memory = o }) q ∙ save_fault tree (λ z. h (q ∙ z))

  pub save_full : (tree : List ℕ) → TreeRead tree → length o < p.used - size_in p.spot + (3 + length tree)
      → record { answer = 20; memory = o } ≡ save_of o n tree
  unfolding save_of
  save_full tree x h =
      let m : length o < length (field_bytes rest) + (3 + length tree) = omega (arith, opened_room.others) in
      rw (r.reads, r.named, x.reads, lt-ltb (length o) (length (field_bytes rest) + (3 + length tree)) m)

  pub save_there : (tree : List ℕ) → TreeRead tree → p.used - size_in p.spot + (3 + length tree) ≤ length o → (s e : List ℕ) (k : ℕ) → k ≡ tag_for n
      → s ≡ store_of (length o) rest
      → e ≡ take (p.used - size_in p.spot) s ++ (element k tree ++ drop (p.used - size_in p.spot + (3 + length tree)) s)
      → record { answer = 0; memory = e } ≡ save_of o n tree
  unfolding save_of
  save_there tree x h s e k j q b =
      let m : length (field_bytes rest) + (3 + length tree) ≤ length o = omega (arith, opened_room.others) in
      let g : e ≡ store_of (length o) (rest ++ (element (tag_for n) tree ∷ [])) = b
      ∙ rw (opened_room.others, q, j) (put_store (length o) rest (element (tag_for n) tree) (3 + length tree) (omega arith) m) in
      rw (r.reads, r.named, x.reads, le-ltb (length o) (length (field_bytes rest) + (3 + length tree)) m, g)
