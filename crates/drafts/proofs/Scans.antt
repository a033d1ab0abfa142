-- A store scanned field by field.
use mathlib.Core.Path.{◌≡◌, refl, sym, ap, ap₂, ◌∙◌}
use Prim.Native.Nat.{ℕ, zero, suc, ◌+◌, ◌-◌, ◌≤◌, ◌<◌}
use native.Mathlib.Omega.{arith}
use native.Mathlib.Numerals.{add-one}
use mathlib.Core.Bool.{Bool, true, false}
use mathlib.Core.List.{List, [], ◌∷◌, ◌++◌}
use mathlib.Core.Option.{Option as Maybe, some, none}
use Rattle.std.specs.Prelude.{Option, Some, None}
use Rattle.std.specs.Bool.{then_some}
use lib.ListN.{length, get_or, set, take, drop, replicate, length-append, length-drop, length-set, drop_of_length-le, get_or-replicate}
use lib.Seq.{drop-cons, drop-drop, get_or-set_same, get_or-set_other, length-take-le, get_or-take}
use borrow.Author.Rules.{part_to_end}
use lib.Dec.{ltb, leb, eqb}
use borrow.Author.Tests.{ne_eqb, eq-eqb, ltb-true, ltb-false, leb-true, eqb-true, eqb-false}
use Rattle.common.specs.Choice.{pick}
use Rattle.tree.specs.Bytes.{length_at}
use Rattle.drafts.specs.Store.{is_tag, all_zero, tag_in, has_tag, whole_field, field_then, read_fields, fields_of, field_bytes}
use Rattle.drafts.specs.Clauses.{field_size, field_from, scan_of}
use Rattle.drafts.specs.declared.scan.FieldAt.{FieldAt}
use Rattle.drafts.proofs.Fields.{fields_last, joined_last, absent}
use Rattle.drafts.specs.Promises.{Field, Fields}

-- ---- zero bytes

pub zero_here : (s : List ℕ) (i : ℕ) → i < length s → get_or s i 0 ≡ 0 → all_zero (drop i s) ≡ all_zero (drop (i + 1) s)
unfolding all_zero
zero_here s i h e = rw (drop-cons s i 0 h, add-one i, e)

pub zero_not : (s : List ℕ) (i : ℕ) → i < length s → (get_or s i 0 ≡ 0 → ⊥) → all_zero (drop i s) ≡ false
unfolding all_zero
zero_not s i h e = rw (drop-cons s i 0 h, ne_eqb (get_or s i 0) 0 e)

pub zero_end : (s : List ℕ) (i : ℕ) → length s ≤ i → all_zero (drop i s) ≡ true
unfolding all_zero
zero_end s i h = rw (drop_of_length-le s h)

-- ---- what one byte leads to

module _ (f : ℕ) (b : ℕ) (s : List ℕ) where
  pub at_zero : b ≡ 0 → read_fields (suc f) (b ∷ s) ≡ pick (all_zero s) (some []) none
  unfolding read_fields
  at_zero e = rw (eq-eqb b 0 e, read_fields)

  pub at_bad : (b ≡ 0 → ⊥) → whole_field (b ∷ s) ≡ false → read_fields (suc f) (b ∷ s) ≡ none
  unfolding read_fields
  at_bad d e = rw (ne_eqb b 0 d, e, read_fields)

  at_field : (b ≡ 0 → ⊥) → whole_field (b ∷ s) ≡ true
      → read_fields (suc f) (b ∷ s) ≡ field_then (take (3 + length_at (b ∷ s)) (b ∷ s)) (read_fields f (drop (3 + length_at (b ∷ s)) (b ∷ s)))
  unfolding read_fields
  at_field d e = rw (ne_eqb b 0 d, e, read_fields)

pub field_at : (f : ℕ) (s : List ℕ) → (tag_in s ≡ 0 → ⊥) → whole_field s ≡ true
    → read_fields (suc f) s ≡ field_then (take (3 + length_at s) s) (read_fields f (drop (3 + length_at s) s))
field_at f [] d e = absurd (d refl)
field_at f (b ∷ s) d e = at_field f b s d e

-- ---- fields done, before others

unfoldable pub all_then : List (List ℕ) → Maybe (List (List ℕ)) → Maybe (List (List ℕ))
all_then [] x = x
all_then (f ∷ fs) x = field_then f (all_then fs x)

onto_last : (fs : List (List ℕ)) (g : List ℕ) (x : Maybe (List (List ℕ))) → all_then (fs ++ (g ∷ [])) x ≡ all_then fs (field_then g x)
unfolding all_then
onto_last [] g x = refl
onto_last (f ∷ fs) g x = ap (field_then f) (onto_last fs g x)

onto_none : (fs : List (List ℕ)) → all_then fs none ≡ none
unfolding all_then
onto_none [] = refl
onto_none (f ∷ fs) = ap (field_then f) (onto_none fs)

onto_done : (fs : List (List ℕ)) → Fields fs → all_then fs (some []) ≡ some fs
unfolding all_then
onto_done [] k = refl
onto_done (f ∷ fs) k = ap (field_then f) (onto_done fs k.2) ∙ rw k.1

abbrev Holds : ℕ → Maybe (List (List ℕ)) → Type 0
Holds k none = Unit {0}
Holds k (some fs) = has_tag k fs ≡ true

then_holds : (f : List ℕ) (x : Maybe (List (List ℕ))) → Holds (tag_in f) (field_then f x)
unfolding has_tag
then_holds f none = tt
then_holds f (some fs) = go (has_tag (tag_in f) fs)
  where
    go : (c : Bool) → Holds (tag_in f) (pick c none (some (f ∷ fs)))
    go true = tt
    go false = rw (eq-eqb (tag_in f) (tag_in f) refl)

then_keeps : (k : ℕ) (f : List ℕ) (x : Maybe (List (List ℕ))) → Holds k x → Holds k (field_then f x)
unfolding has_tag
then_keeps k f none h = tt
then_keeps k f (some fs) h = go (has_tag (tag_in f) fs)
  where
    either : (d : Bool) → pick d true (has_tag k fs) ≡ true
    either true = refl
    either false = h

    go : (c : Bool) → Holds k (pick c none (some (f ∷ fs)))
    go true = tt
    go false = either (eqb (tag_in f) k)

onto_holds : (k : ℕ) (fs : List (List ℕ)) (x : Maybe (List (List ℕ))) → Holds k x → Holds k (all_then fs x)
unfolding all_then
onto_holds k [] x h = h
onto_holds k (f ∷ fs) x h = then_keeps k f (all_then fs x) (onto_holds k fs x h)

then_none : (f : List ℕ) (x : Maybe (List (List ℕ))) → Holds (tag_in f) x → field_then f x ≡ none
then_none f none h = refl
then_none f (some fs) h = rw h

onto_again : (fs : List (List ℕ)) (g : List ℕ) (x : Maybe (List (List ℕ))) → has_tag (tag_in g) fs ≡ true → all_then fs (field_then g x) ≡ none
unfolding has_tag all_then
onto_again [] g x h = let z : ◌≡◌ {A = ℕ} 0 1 = cc in absurd (omega arith)
onto_again (f ∷ fs) g x h = go (eqb (tag_in f) (tag_in g)) refl h (onto_again fs g x)
  where
    go : (c : Bool) → eqb (tag_in f) (tag_in g) ≡ c → pick c true (has_tag (tag_in g) fs) ≡ true
        → (has_tag (tag_in g) fs ≡ true → all_then fs (field_then g x) ≡ none)
        → field_then f (all_then fs (field_then g x)) ≡ none
    go true e q r =
        let i : tag_in f ≡ tag_in g = eqb-true (tag_in f) (tag_in g) e in
        then_none f (all_then fs (field_then g x)) (rw i (onto_holds (tag_in g) fs (field_then g x) (then_holds g x)))
    go false e q r = ap (field_then f) (r q)

-- ---- the place of a field

abbrev pub next_field : Option FieldAt → Bool → ℕ → ℕ → Option FieldAt
next_field p is at size = pick is (Some (record { at = at; size = size })) p

field_from_last : (k i : ℕ) (fs : List (List ℕ)) (g : List ℕ) → has_tag (tag_in g) fs ≡ false
    → field_from k i (fs ++ (g ∷ [])) ≡ next_field (field_from k i fs) (eqb (tag_in g) k) (i + length (field_bytes fs)) (length g)
unfolding field_from field_bytes has_tag
field_from_last k i [] g h = let e : i + 0 ≡ i = omega arith in rw e
field_from_last k i (f ∷ fs) g h = go (eqb (tag_in f) k) refl (absent (tag_in g) f fs h) (field_from_last k (i + length f) fs g)
  where
    go : (c : Bool) → eqb (tag_in f) k ≡ c → (tag_in f ≡ tag_in g → ⊥) × (has_tag (tag_in g) fs ≡ false)
        → (has_tag (tag_in g) fs ≡ false
        → field_from k (i + length f) (fs ++ (g ∷ []))
        ≡ next_field (field_from k (i + length f) fs) (eqb (tag_in g) k) (i + length f + length (field_bytes fs)) (length g))
        → pick c (Some (record { at = i; size = length f })) (field_from k (i + length f) (fs ++ (g ∷ [])))
        ≡ next_field (pick c (Some (record { at = i; size = length f })) (field_from k (i + length f) fs)) (eqb (tag_in g) k)
        (i + length (f ++ field_bytes fs)) (length g)
    go true e a r = let d : tag_in f ≡ k = eqb-true (tag_in f) k e in rw (ne_eqb (tag_in g) k (λ z. a.0 (d ∙ sym z)))
    go false e a r =
        let l : i + length f + length (field_bytes fs) ≡ i + length (f ++ field_bytes fs) = omega (arith, length-append f (field_bytes fs)) in
        r a.1 ∙ ap (λ (n : ℕ). next_field (field_from k (i + length f) fs) (eqb (tag_in g) k) n (length g)) l

-- ---- the field at the front

tag_range : (b : ℕ) → is_tag b ≡ true → (32 ≤ b) × (b < 40)
unfolding is_tag
tag_range b h = go (ltb b 32) (ltb b 40) refl refl h
  where
    go : (c d : Bool) → ltb b 32 ≡ c → ltb b 40 ≡ d → pick c false d ≡ true → (32 ≤ b) × (b < 40)
    go true d e q h = let z : ◌≡◌ {A = ℕ} 0 1 = cc in absurd (omega arith)
    go false false e q h = let z : ◌≡◌ {A = ℕ} 0 1 = cc in absurd (omega arith)
    go false true e q h = (ltb-false b 32 e, ltb-true b 40 q)

-- a whole field of n bytes
pub record FrontField (s : List ℕ) (n : ℕ) : Type 0 where
  pub whole : whole_field s ≡ true
  pub tag : is_tag (tag_in s) ≡ true
  pub size_is : n ≡ 3 + length_at s
  pub fits : 3 + length_at s ≤ length s

pub front_of : (s : List ℕ) → whole_field s ≡ true → FrontField s (3 + length_at s)
unfolding whole_field
front_of s h = go (ltb (length s) 3) (is_tag (tag_in s)) (leb (3 + length_at s) (length s)) refl refl refl h
  where
    go : (a b c : Bool) → ltb (length s) 3 ≡ a → is_tag (tag_in s) ≡ b → leb (3 + length_at s) (length s) ≡ c
        → pick a false (pick b c false) ≡ true → FrontField s (3 + length_at s)
    go true b c p q r h = absurd (cc)
    go false false c p q r h = absurd (cc)
    go false true false p q r h = absurd (cc)
    go false true true p q r h = record { whole = rw (p, q, r); tag = q; size_is = refl; fits = leb-true (3 + length_at s) (length s) r }

pub field_there : (s : List ℕ) (n : ℕ) → field_size s ≡ Some n → FrontField s n
field_there s n e = go (whole_field s) refl e
  where
    go : (c : Bool) → whole_field s ≡ c → pick c (Some (3 + length_at s)) None ≡ Some n → FrontField s n
    go true h e = let m : 3 + length_at s ≡ n = cc in rw m at (front_of s h)
    go false h e = absurd (cc)

pub not_whole : (s : List ℕ) → field_size s ≡ None → whole_field s ≡ false
not_whole s e = go (whole_field s) e
  where
    go : (c : Bool) → pick c (Some (3 + length_at s)) None ≡ None → c ≡ false
    go true e = absurd (cc)
    go false e = refl

pub taken_field : (s : List ℕ) {n : ℕ} → FrontField s n → Field (take (3 + length_at s) s)
taken_field s {n} k =
    let e₀ : get_or (take (3 + length_at s) s) 0 0 ≡ get_or s 0 0 = get_or-take (3 + length_at s) s 0 0 (omega arith) in
    let e₁ : get_or (take (3 + length_at s) s) 1 0 ≡ get_or s 1 0 = get_or-take (3 + length_at s) s 1 0 (omega arith) in
    let e₂ : get_or (take (3 + length_at s) s) 2 0 ≡ get_or s 2 0 = get_or-take (3 + length_at s) s 2 0 (omega arith) in
    let l : length (take (3 + length_at s) s) ≡ 3 + length_at s = length-take-le (3 + length_at s) s k.fits in
    record { tag = rw e₀ k.tag; ends = omega (arith, e₁, e₂, l) }

has_new : (n : ℕ) (fs : List (List ℕ)) (g : List ℕ) → tag_in g ≡ n → has_tag n (fs ++ (g ∷ [])) ≡ true
unfolding has_tag
has_new n [] g e = rw (eq-eqb (tag_in g) n e)
has_new n (f ∷ fs) g e = rw (has_new n fs g e) (go (eqb (tag_in f) n))
  where
    go : (c : Bool) → pick c true true ≡ true
    go true = refl
    go false = refl

has_same : (n : ℕ) (fs : List (List ℕ)) (g : List ℕ) → (tag_in g ≡ n → ⊥) → has_tag n (fs ++ (g ∷ [])) ≡ has_tag n fs
unfolding has_tag
has_same n [] g d = rw (ne_eqb (tag_in g) n d)
has_same n (f ∷ fs) g d = rw (has_same n fs g d)

-- ---- the loop

pub record Scanning (o : List ℕ) (k : ℕ) (seen : List Bool) (p : Option FieldAt) (i : ℕ) : Type 0 where
  pub done : List (List ℕ)
  pub fuel : ℕ
  pub good : Fields done
  pub long : length (field_bytes done) ≡ i
  pub enough : length o < i + fuel
  pub within : i ≤ length o
  pub eight : length seen ≡ 8
  pub marks : (j : ℕ) → j < 8 → get_or seen j false ≡ has_tag (32 + j) done
  pub spot : p ≡ field_from k 0 done
  pub reads : fields_of o ≡ all_then done (read_fields fuel (drop i o))

pub scanning_none : (o : List ℕ) (k : ℕ) → Scanning o k (replicate 8 false) None 0
unfolding field_bytes has_tag field_from all_then fields_of
scanning_none o k = record {
  done = [];
  fuel = length o + 1;
  good = tt;
  long = refl;
  enough = omega arith;
  within = omega arith;
  eight = refl;
  marks = λ j h. get_or-replicate 8 j false false h;
  spot = refl;
  reads = refl;
}

module _ (o : List ℕ) (k : ℕ) (seen : List Bool) (p : Option FieldAt) (i : ℕ) (x : Scanning o k seen p i) where
  scanned : (b : Bool) → fields_of o ≡ all_then x.done (pick b (some []) none) → then_some b (record { used = i; spot = p }) ≡ scan_of k (fields_of o)
  scanned true e = let d = onto_done x.done x.good in rw (e, d, x.long, x.spot)
  scanned false e = rw (e, onto_none x.done)

  fuelled : (P : ℕ → Type 0) → ((f : ℕ) → length o < i + suc f → P (suc f)) → P x.fuel
  fuelled P g = go x.fuel x.enough
    where
      go : (f : ℕ) → length o < i + f → P f
      go zero h = absurd (omega (arith, x.within))
      go (suc f) h = g f h

  pub scan_end : length o ≤ i → Some (record { used = i; spot = p }) ≡ scan_of k (fields_of o)
  unfolding read_fields
  scan_end h = scanned true (x.reads ∙ ap (all_then x.done) (rw (drop_of_length-le o h) (fuelled (λ f. read_fields f [] ≡ some []) (λ f l. refl))))

  -- the same by what `all_zero` answers there
  pub scan_zero_end : (z : Bool) → z ≡ all_zero (take (length o - i) (drop i o)) → length o ≤ i
      → then_some z (record { used = i; spot = p }) ≡ scan_of k (fields_of o)
  unfolding all_zero
  scan_zero_end z a h = rw (a, part_to_end o i, drop_of_length-le o h) (scan_end h)

  module _ (h : i < length o) where
    rest : drop i o ≡ get_or o i 0 ∷ drop (i + 1) o
    rest = rw (add-one i) (drop-cons o i 0 h)

    -- a part from i on, as the code lends it
    part : take (length o - i) (drop i o) ≡ drop i o
    part = part_to_end o i

    pub scan_zero : (z : Bool) → z ≡ all_zero (take (length o - i) (drop i o)) → get_or o i 0 ≡ 0
        → then_some z (record { used = i; spot = p }) ≡ scan_of k (fields_of o)
    scan_zero z a e =
        scanned z
        (x.reads ∙ ap (all_then x.done)
        (fuelled (λ f. read_fields f (drop i o) ≡ pick z (some []) none)
        (λ f l. rw (a, part, zero_here o i h e) (ap (read_fields (suc f)) rest ∙ at_zero f (get_or o i 0) (drop (i + 1) o) e))))

    pub scan_bad : (get_or o i 0 ≡ 0 → ⊥) → None ≡ field_size (take (length o - i) (drop i o)) → None ≡ scan_of k (fields_of o)
    scan_bad d e =
        let r : whole_field (get_or o i 0 ∷ drop (i + 1) o) ≡ false = rw rest at (not_whole (drop i o) (sym (e ∙ ap field_size part))) in
        scanned false
        (x.reads ∙ ap (all_then x.done)
        (fuelled (λ f. read_fields f (drop i o) ≡ none) (λ f l. ap (read_fields (suc f)) rest ∙ at_bad f (get_or o i 0) (drop (i + 1) o) d r)))

    module _ (d : get_or o i 0 ≡ 0 → ⊥) (n : ℕ) (a : Some n ≡ field_size (take (length o - i) (drop i o))) where
      front : FrontField (drop i o) n
      front = field_there (drop i o) n (sym (a ∙ ap field_size part))

      tag_is : tag_in (drop i o) ≡ get_or o i 0
      tag_is = ap tag_in rest

      pub scan_tag : (32 ≤ get_or o i 0) × (get_or o i 0 < 40)
      scan_tag = tag_range (get_or o i 0) (rw tag_is at front.tag)

      abbrev g : List ℕ
      g = take (3 + length_at (drop i o)) (drop i o)

      g_long : length g ≡ n
      g_long = length-take-le (3 + length_at (drop i o)) (drop i o) front.fits ∙ sym front.size_is

      next : (f : ℕ) → read_fields (suc f) (drop i o) ≡ field_then g (read_fields f (drop (i + n) o))
      next f =
          let e : i + (3 + length_at (drop i o)) ≡ i + n = ap (λ (m : ℕ). i + m) (sym front.size_is) in
          field_at f (drop i o) (λ z. d (sym tag_is ∙ z)) front.whole
          ∙ ap (λ (y : List ℕ). field_then g (read_fields f y)) (drop-drop (3 + length_at (drop i o)) i o ∙ ap (λ (m : ℕ). drop m o) e)

      g_tag : tag_in g ≡ get_or o i 0
      g_tag = get_or-take (3 + length_at (drop i o)) (drop i o) 0 0 (omega arith) ∙ tag_is

      g_field : Field g
      g_field = taken_field (drop i o) front

      seen_is : get_or seen (get_or o i 0 - 32) false ≡ has_tag (tag_in g) x.done
      seen_is = let b = scan_tag in let e : 32 + (get_or o i 0 - 32) ≡ get_or o i 0 = omega arith in x.marks (get_or o i 0 - 32) (omega arith)
          ∙ ap (λ (m : ℕ). has_tag m x.done) (e ∙ sym g_tag)

      pub scan_again : get_or seen (get_or o i 0 - 32) false ≡ true → None ≡ scan_of k (fields_of o)
      scan_again e =
          scanned false
          (x.reads ∙ fuelled (λ f. all_then x.done (read_fields f (drop i o)) ≡ all_then x.done none)
          (λ f l. ap (all_then x.done) (next f) ∙ onto_again x.done g (read_fields f (drop (i + n) o)) (sym seen_is ∙ e)
          ∙ sym (onto_none x.done)))

      placed : next_field (field_from k 0 x.done) (eqb (tag_in g) k) (0 + length (field_bytes x.done)) (length g)
          ≡ next_field (field_from k 0 x.done) (eqb (get_or o i 0) k) i n
      placed =
          let z : 0 + length (field_bytes x.done) ≡ i = omega (arith, x.long) in
          ap₂ (λ (t m : ℕ). next_field (field_from k 0 x.done) (eqb t k) m (length g)) g_tag z
          ∙ ap (λ (m : ℕ). next_field (field_from k 0 x.done) (eqb (get_or o i 0) k) i m) g_long

      pub scan_more : get_or seen (get_or o i 0 - 32) false ≡ false
          → Scanning o k (set seen (get_or o i 0 - 32) true) (next_field p (eqb (get_or o i 0) k) i n) (i + n)
      scan_more e =
          fuelled (λ f. fields_of o ≡ all_then x.done (read_fields f (drop i o))
          → Scanning o k (set seen (get_or o i 0 - 32) true) (next_field p (eqb (get_or o i 0) k) i n) (i + n))
          (λ f l r.
          let gone : has_tag (tag_in g) x.done ≡ false = sym seen_is ∙ e in
          let big : 3 ≤ n = omega (arith, front.size_is) in
          record {
            done = x.done ++ (g ∷ []);
            fuel = f;
            good = fields_last x.done g x.good g_field gone;
            long = joined_last x.done g ∙ ap₂ (λ (a b : ℕ). a + b) x.long g_long;
            enough = omega arith;
            within = omega (arith, front.size_is, front.fits, length-drop i o);
            eight = length-set seen (get_or o i 0 - 32) true ∙ x.eight;
            marks = marks;
            spot = rw x.spot (sym (field_from_last k 0 x.done g gone ∙ placed));
            reads = r ∙ ap (all_then x.done) (next f) ∙ sym (onto_last x.done g (read_fields f (drop (i + n) o)));
          })
          x.reads
        where
          marks : (j : ℕ) → j < 8 → get_or (set seen (get_or o i 0 - 32) true) j false ≡ has_tag (32 + j) (x.done ++ (g ∷ []))
          marks j m = go (eqb j (get_or o i 0 - 32)) refl
            where
              go : (c : Bool) → eqb j (get_or o i 0 - 32) ≡ c → get_or (set seen (get_or o i 0 - 32) true) j false ≡ has_tag (32 + j) (x.done ++ (g ∷ []))
              go true z =
                  let b = scan_tag in
                  let y : j ≡ get_or o i 0 - 32 = eqb-true j (get_or o i 0 - 32) z in
                  rw y (get_or-set_same seen (get_or o i 0 - 32) true false (omega (arith, x.eight))) ∙ sym (has_new (32 + j) x.done g (g_tag ∙ omega arith))
              go false z =
                  let b = scan_tag in
                  let y : j ≡ get_or o i 0 - 32 → ⊥ = eqb-false j (get_or o i 0 - 32) z in
                  get_or-set_other seen (get_or o i 0 - 32) j true false y ∙ x.marks j m
                  ∙ sym (has_same (32 + j) x.done g (λ w. y (omega (arith, sym g_tag ∙ w))))

      -- the same by cases: the field looked for, or another
      pub scan_found : get_or seen (get_or o i 0 - 32) false ≡ false → get_or o i 0 ≡ k
          → Scanning o k (set seen (get_or o i 0 - 32) true) (Some (record { at = i; size = n })) (i + n)
      scan_found e m = rw (eq-eqb (get_or o i 0) k m) at (scan_more e)

      pub scan_other : get_or seen (get_or o i 0 - 32) false ≡ false → (get_or o i 0 ≡ k → ⊥)
          → Scanning o k (set seen (get_or o i 0 - 32) true) p (i + n)
      scan_other e m = rw (ne_eqb (get_or o i 0) k m) at (scan_more e)
