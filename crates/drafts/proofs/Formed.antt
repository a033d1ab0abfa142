-- A store of the right form is its fields and zero bytes; where a field is in it, and what is left when it is taken out.
use mathlib.Core.Path.{◌≡◌, refl, sym, ap, ap₂, ◌∙◌}
use Prim.Native.Nat.{ℕ, zero, suc, ◌+◌, ◌-◌, ◌≤◌}
use native.Mathlib.Omega.{arith}
use mathlib.Core.Bool.{Bool, true, false}
use mathlib.Core.List.{List, [], ◌∷◌, ◌++◌, append_assoc}
use mathlib.Core.Option.{Option as Maybe, some, none}
use Rattle.std.specs.Prelude.{Some, None}
use lib.ListN.{length, take, drop, replicate, length-append, length-replicate, length-drop, take-append-drop, replicate-append-replicate}
use lib.Seq.{take_at, drop_at, drop-drop, drop-append-le}
use lib.Dec.{eqb}
use borrow.Author.Tests.{eqb-true, eqb-false}
use Rattle.common.specs.Choice.{pick}
use Rattle.tree.specs.Bytes.{length_at}
use Rattle.drafts.specs.Store.{all_zero, tag_in, has_tag, whole_field, field_then, read_fields, fields_of, field_bytes, store_of, without_tag, draft_of}
use Rattle.drafts.specs.Clauses.{field_from}
use Rattle.drafts.specs.declared.scan.FieldAt.{FieldAt}
use Rattle.drafts.specs.Promises.{Field, Formed}
use Rattle.drafts.proofs.Scans.{at_zero, at_bad, field_at, front_of, taken_field}

-- ---- the fields and zero bytes

zeros_are : (l : List ℕ) → all_zero l ≡ true → l ≡ replicate (length l) 0
unfolding all_zero
zeros_are [] h = refl
zeros_are (b ∷ l) h = go (eqb b 0) refl h (zeros_are l)
  where
    go : (c : Bool) → eqb b 0 ≡ c → pick c (all_zero l) false ≡ true → (all_zero l ≡ true → l ≡ replicate (length l) 0) → b ∷ l ≡ 0 ∷ replicate (length l) 0
    go true e q r = ap₂ (λ (x : ℕ) (y : List ℕ). x ∷ y) (eqb-true b 0 e) (r q)
    go false e q r = let z : ◌≡◌ {A = ℕ} 0 1 = cc in absurd (omega arith)

formed_zeros : (b : ℕ) (s : List ℕ) (fs : List (List ℕ)) → b ≡ 0 → pick (all_zero s) (some []) none ≡ some fs → Formed (b ∷ s) fs
unfolding field_bytes
formed_zeros b s fs e q = go (all_zero s) refl q
  where
    go : (c : Bool) → all_zero s ≡ c → pick c (some []) none ≡ some fs → Formed (b ∷ s) fs
    go true z q =
        let f : fs ≡ [] = cc in
        rw f (record { good = tt; zeros = suc (length s); is = ap₂ (λ (x : ℕ) (y : List ℕ). x ∷ y) e (zeros_are s z) })
    go false z q = let y : ◌≡◌ {A = ℕ} 0 1 = cc in absurd (omega arith)

formed_more : (g r : List ℕ) (x : Maybe (List (List ℕ))) (fs : List (List ℕ)) → Field g → ((gs : List (List ℕ)) → x ≡ some gs → Formed r gs)
    → field_then g x ≡ some fs → Formed (g ++ r) fs
unfolding field_bytes
formed_more g r none fs k ih q = let y : ◌≡◌ {A = ℕ} 0 1 = cc in absurd (omega arith)
formed_more g r (some gs) fs k ih q = go (has_tag (tag_in g) gs) refl q
  where
    go : (c : Bool) → has_tag (tag_in g) gs ≡ c → pick c none (some (g ∷ gs)) ≡ some fs → Formed (g ++ r) fs
    go true e q = let y : ◌≡◌ {A = ℕ} 0 1 = cc in absurd (omega arith)
    go false e q =
        let f : fs ≡ g ∷ gs = cc in
        let p = ih gs refl in
        rw f (record {
          good = (k, e, p.good);
          zeros = p.zeros;
          is = ap (λ (l : List ℕ). g ++ l) p.is
              ∙ sym (append_assoc g (field_bytes gs) (replicate p.zeros 0));
        })

formed : (fuel : ℕ) (s : List ℕ) (fs : List (List ℕ)) → read_fields fuel s ≡ some fs → Formed s fs
unfolding read_fields field_bytes
formed zero s fs e = let y : ◌≡◌ {A = ℕ} 0 1 = cc in absurd (omega arith)
formed (suc f) [] fs e = let g : fs ≡ [] = cc in rw g (record { good = tt; zeros = 0; is = refl })
formed (suc f) (b ∷ s) fs e = go (eqb b 0) (whole_field (b ∷ s)) refl refl (formed f (drop (3 + length_at (b ∷ s)) (b ∷ s)))
  where
    go : (c d : Bool) → eqb b 0 ≡ c → whole_field (b ∷ s) ≡ d
        → ((gs : List (List ℕ)) → read_fields f (drop (3 + length_at (b ∷ s)) (b ∷ s)) ≡ some gs → Formed (drop (3 + length_at (b ∷ s)) (b ∷ s)) gs)
        → Formed (b ∷ s) fs
    go true d p q ih = let z : b ≡ 0 = eqb-true b 0 p in formed_zeros b s fs z (sym (at_zero f b s z) ∙ e)
    go false false p q ih = let n = at_bad f b s (eqb-false b 0 p) q in absurd (cc)
    go false true p q ih =
        let r : field_then (take (3 + length_at (b ∷ s)) (b ∷ s)) (read_fields f (drop (3 + length_at (b ∷ s)) (b ∷ s))) ≡ some fs =
        sym (field_at f (b ∷ s) (eqb-false b 0 p) q) ∙ e in
        let m : Formed (take (3 + length_at (b ∷ s)) (b ∷ s) ++ drop (3 + length_at (b ∷ s)) (b ∷ s)) fs =
        formed_more (take (3 + length_at (b ∷ s)) (b ∷ s)) (drop (3 + length_at (b ∷ s)) (b ∷ s)) (read_fields f (drop (3 + length_at (b ∷ s)) (b ∷ s))) fs
        (taken_field (b ∷ s) (front_of (b ∷ s) q)) ih r in
        rw (take-append-drop (3 + length_at (b ∷ s)) (b ∷ s)) at m

pub store_parsed : (o : List ℕ) (fs : List (List ℕ)) → fields_of o ≡ some fs → Formed o fs
unfolding fields_of
store_parsed o fs e = formed (length o + 1) o fs e

-- ---- a field among others

pub record FieldIn (k i : ℕ) (fs : List (List ℕ)) (p : FieldAt) : Type 0 where
  pub front : List (List ℕ)
  pub field : List ℕ
  pub back : List (List ℕ)
  pub is : fs ≡ front ++ (field ∷ back)
  pub there : has_tag k fs ≡ true
  pub at_is : p.at ≡ i + length (field_bytes front)
  pub size_is : p.size ≡ length field
  pub gone : without_tag k fs ≡ front ++ back
  pub body : draft_of k fs ≡ some (drop 3 field)

pub field_in : (k i : ℕ) (fs : List (List ℕ)) (p : FieldAt) → field_from k i fs ≡ Some p → FieldIn k i fs p
unfolding has_tag field_from without_tag draft_of field_bytes
field_in k i [] p e = absurd (cc)
field_in k i (f ∷ fs) p e = go (eqb (tag_in f) k) refl e (field_in k (i + length f) fs p)
  where
    go : (c : Bool) → eqb (tag_in f) k ≡ c → pick c (Some (record { at = i; size = length f })) (field_from k (i + length f) fs) ≡ Some p
        → (field_from k (i + length f) fs ≡ Some p → FieldIn k (i + length f) fs p) → FieldIn k i (f ∷ fs) p
    go true e q r =
        let z : p ≡ record { at = i; size = length f } = cc in
        rw z (record { front = []; field = f; back = fs; is = refl; there = rw e; at_is = omega arith; size_is = refl; gone = rw e; body = rw e })
    go false e q r =
        let a = r q in
        record {
          front = f ∷ a.front;
          field = a.field;
          back = a.back;
          is = ap (λ (l : List (List ℕ)). f ∷ l) a.is;
          there = rw e a.there;
          at_is = omega (arith, a.at_is, length-append f (field_bytes a.front));
          size_is = a.size_is;
          gone = rw e (ap (λ (l : List (List ℕ)). f ∷ l) a.gone);
          body = rw e a.body;
        }

pub field_absent : (k i : ℕ) (fs : List (List ℕ)) → field_from k i fs ≡ None → (has_tag k fs ≡ false) × (without_tag k fs ≡ fs) × (draft_of k fs ≡ none)
unfolding has_tag field_from without_tag draft_of
field_absent k i [] h = (refl, refl, refl)
field_absent k i (f ∷ fs) h = go (eqb (tag_in f) k) refl h (field_absent k (i + length f) fs)
  where
    go : (c : Bool) → eqb (tag_in f) k ≡ c → pick c (Some (record { at = i; size = length f })) (field_from k (i + length f) fs) ≡ None
        → (field_from k (i + length f) fs ≡ None → (has_tag k fs ≡ false) × (without_tag k fs ≡ fs) × (draft_of k fs ≡ none))
        → (has_tag k (f ∷ fs) ≡ false) × (without_tag k (f ∷ fs) ≡ f ∷ fs) × (draft_of k (f ∷ fs) ≡ none)
    go true e q r = absurd (cc)
    go false e q r = let a = r q in rw e (a.0, ap (λ (l : List (List ℕ)). f ∷ l) a.1, a.2)

joined_append : (a b : List (List ℕ)) → field_bytes (a ++ b) ≡ field_bytes a ++ field_bytes b
unfolding field_bytes
joined_append [] b = refl
joined_append (f ∷ a) b = ap (λ (l : List ℕ). f ++ l) (joined_append a b) ∙ sym (append_assoc f (field_bytes a) (field_bytes b))

pub used_and_zeros : (o : List ℕ) (fs : List (List ℕ)) (x : Formed o fs) → length o ≡ length (field_bytes fs) + x.zeros
used_and_zeros o fs x = ap length x.is ∙ length-append (field_bytes fs) (replicate x.zeros 0)
    ∙ ap (λ (k : ℕ). length (field_bytes fs) + k) (length-replicate x.zeros 0)

pub zeros_behind : (o : List ℕ) (fs : List (List ℕ)) → Formed o fs → drop (length (field_bytes fs)) o ≡ replicate (length o - length (field_bytes fs)) 0
zeros_behind o fs x =
    let z : x.zeros ≡ length o - length (field_bytes fs) = omega (arith, used_and_zeros o fs x) in
    ap (drop (length (field_bytes fs))) x.is ∙ drop_at (field_bytes fs) (replicate x.zeros 0) (length (field_bytes fs)) refl
    ∙ ap (λ (k : ℕ). replicate k 0) z

-- the field taken out, and the gap closed
module _ (o : List ℕ) (k : ℕ) (fs : List (List ℕ)) (p : FieldAt) (x : Formed o fs) (a : FieldIn k 0 fs p) where
  whole : o ≡ field_bytes a.front ++ (a.field ++ (field_bytes a.back ++ replicate x.zeros 0))
  unfolding field_bytes
  whole = x.is ∙ ap (λ (l : List (List ℕ)). field_bytes l ++ replicate x.zeros 0) a.is
      ∙ rw (joined_append a.front (a.field ∷ a.back), append_assoc, append_assoc)

  lengths : length o ≡ length (field_bytes a.front) + (length a.field + (length (field_bytes a.back) + x.zeros))
  lengths =
      ap length whole ∙ length-append (field_bytes a.front) (a.field ++ (field_bytes a.back ++ replicate x.zeros 0))
      ∙ ap (λ (n : ℕ). length (field_bytes a.front) + n) (length-append a.field (field_bytes a.back ++ replicate x.zeros 0)
      ∙ ap (λ (n : ℕ). length a.field + n)
      (length-append (field_bytes a.back) (replicate x.zeros 0) ∙ ap (λ (n : ℕ). length (field_bytes a.back) + n) (length-replicate x.zeros 0)))

  pub at_within : p.at + p.size ≤ length o
  at_within = omega (arith, lengths, a.at_is, a.size_is)

  pub at_used : p.at + p.size ≤ length (field_bytes fs)
  at_used = omega (arith, lengths, a.at_is, a.size_is, used_and_zeros o fs x)

  before : take p.at o ≡ field_bytes a.front
  before = ap (take p.at) whole
      ∙ take_at (field_bytes a.front) (a.field ++ (field_bytes a.back ++ replicate x.zeros 0)) p.at (omega (arith, a.at_is))

  behind : drop (p.at + p.size) o ≡ field_bytes a.back ++ replicate x.zeros 0
  behind =
      ap (drop (p.at + p.size)) (whole ∙ sym (append_assoc (field_bytes a.front) a.field (field_bytes a.back ++ replicate x.zeros 0)))
      ∙ drop_at (field_bytes a.front ++ a.field) (field_bytes a.back ++ replicate x.zeros 0) (p.at + p.size)
      (length-append (field_bytes a.front) a.field ∙ omega (arith, a.at_is, a.size_is))

  others : length (field_bytes (without_tag k fs)) ≡ length (field_bytes a.front) + length (field_bytes a.back)
  others = ap length (ap field_bytes a.gone ∙ joined_append a.front a.back) ∙ length-append (field_bytes a.front) (field_bytes a.back)

  pub gap_store : take p.at o ++ (drop (p.at + p.size) o ++ replicate p.size 0) ≡ store_of (length o) (without_tag k fs)
  unfolding store_of
  gap_store =
      let n : x.zeros + p.size ≡ length o - length (field_bytes (without_tag k fs)) = omega (arith, lengths, others, a.size_is) in
      rw (before, behind, append_assoc, replicate-append-replicate, n)
      (sym (append_assoc (field_bytes a.front) (field_bytes a.back) (replicate (length o - length (field_bytes (without_tag k fs))) 0))
      ∙ ap (λ (l : List ℕ). l ++ replicate (length o - length (field_bytes (without_tag k fs))) 0)
      (sym (ap field_bytes a.gone ∙ joined_append a.front a.back)))

  -- the draft's own bytes
  pub body_is : 3 ≤ p.size → take (p.size - 3) (drop (p.at + 3) o) ≡ drop 3 a.field
  body_is h =
      let r : List ℕ = field_bytes a.back ++ replicate x.zeros 0 in
      let d : drop p.at o ≡ a.field ++ r = ap (drop p.at) whole ∙ drop_at (field_bytes a.front) (a.field ++ r) p.at (omega (arith, a.at_is)) in
      let e : drop (p.at + 3) o ≡ drop 3 a.field ++ r = sym (drop-drop 3 p.at o) ∙ ap (drop 3) d
      ∙ drop-append-le 3 a.field r (omega (arith, a.size_is)) in
      rw e (take_at (drop 3 a.field) r (p.size - 3) (length-drop 3 a.field ∙ omega (arith, a.size_is)))

  pub others_is : length (field_bytes (without_tag k fs)) ≡ length (field_bytes fs) - p.size
  unfolding field_bytes
  others_is =
      let l : length (field_bytes fs) ≡ length (field_bytes a.front) + (length a.field + length (field_bytes a.back)) =
      ap length (ap field_bytes a.is ∙ joined_append a.front (a.field ∷ a.back))
      ∙ length-append (field_bytes a.front) (a.field ++ field_bytes a.back)
      ∙ ap (λ (n : ℕ). length (field_bytes a.front) + n) (length-append a.field (field_bytes a.back)) in
      omega (arith, others, a.size_is)

  pub size_low : p.size ≤ length (field_bytes fs)
  unfolding field_bytes
  size_low =
      let l : length (field_bytes fs) ≡ length (field_bytes a.front) + (length a.field + length (field_bytes a.back)) =
      ap length (ap field_bytes a.is ∙ joined_append a.front (a.field ∷ a.back))
      ∙ length-append (field_bytes a.front) (a.field ++ field_bytes a.back)
      ∙ ap (λ (n : ℕ). length (field_bytes a.front) + n) (length-append a.field (field_bytes a.back)) in
      omega (arith, a.size_is)
