-- The fields of a packed store are read back.
use mathlib.Core.Path.{◌≡◌, refl, sym, ap, ap₂, ◌∙◌}
use Prim.Native.Nat.{ℕ, zero, suc, ◌+◌, ◌-◌, ◌≤◌, ◌<◌}
use native.Mathlib.Omega.{arith}
use mathlib.Core.Bool.{Bool, true, false}
use mathlib.Core.List.{List, [], ◌∷◌, ◌++◌, append_assoc}
use mathlib.Core.Option.{some, none}
use lib.ListN.{length, take, drop, replicate, length-append, length-replicate, get_or-append}
use lib.Seq.{take_at, drop_at}
use lib.Dec.{eqb}
use borrow.Author.Tests.{le-ltb, le-leb, ne_eqb, eq-eqb, eqb-true, eqb-false}
use Rattle.common.specs.Choice.{pick}
use Rattle.tree.specs.Bytes.{length_at}
use Rattle.tree.specs.Accepted.{element}
use Rattle.drafts.specs.Store.{is_tag, all_zero, tag_in, has_tag, whole_field, field_then, read_fields, fields_of, field_bytes, store_of, without_tag, draft_of}
use Rattle.drafts.specs.Promises.{Field, Fields}

zeros : (z : ℕ) → all_zero (replicate z 0) ≡ true
unfolding all_zero
zeros zero = refl
zeros (suc z) = zeros z

tag_some : (b : ℕ) → is_tag b ≡ true → b ≡ 0 → ⊥
unfolding is_tag
tag_some b h e =
    let q : ◌≡◌ {A = Bool} false true = rw e at h in
    let z : ◌≡◌ {A = ℕ} 0 1 = cc in
    omega arith

read_zeros : (fuel z : ℕ) → z < fuel → read_fields fuel (replicate z 0) ≡ some []
unfolding read_fields
read_zeros zero z h = absurd (omega arith)
read_zeros (suc fuel) zero h = refl
read_zeros (suc fuel) (suc z) h = rw (zeros z)

-- the front of a field that others follow
module _ (f r : List ℕ) (h : 3 ≤ length f) where
  length_front : length_at (f ++ r) ≡ length_at f
  length_front = rw (get_or-append f r 0 1 (omega arith), get_or-append f r 0 2 (omega arith))

  tag_front : tag_in (f ++ r) ≡ tag_in f
  tag_front = get_or-append f r 0 0 (omega arith)

  long_front : length (f ++ r) ≡ length f + length r
  long_front = length-append f r

module _ (f r : List ℕ) (k : Field f) where
  three : 3 ≤ length f
  three = omega (arith, k.ends)

  whole_front : whole_field (f ++ r) ≡ true
  unfolding whole_field
  whole_front =
      let a : 3 ≤ length (f ++ r) = omega (arith, long_front f r three) in
      let b : 3 + length_at f ≤ length (f ++ r) = omega (arith, long_front f r three, k.ends) in
      rw (length_front f r three, tag_front f r three, le-ltb _ _ a, k.tag, le-leb _ _ b)

  taken_front : take (3 + length_at (f ++ r)) (f ++ r) ≡ f
  taken_front = rw (length_front f r three) (take_at f r (3 + length_at f) (sym k.ends))

  dropped_front : drop (3 + length_at (f ++ r)) (f ++ r) ≡ r
  dropped_front = rw (length_front f r three) (drop_at f r (3 + length_at f) (sym k.ends))

field_read : (fuel : ℕ) (f r : List ℕ) → Field f → read_fields (suc fuel) (f ++ r) ≡ field_then f (read_fields fuel r)
unfolding read_fields
field_read fuel [] r k = absurd (omega (arith, k.ends))
field_read fuel (b ∷ f) r k =
    rw (ne_eqb b 0 (tag_some b k.tag), whole_front (b ∷ f) r k, read_fields)
    (ap₂ (λ (x y : List ℕ). field_then x (read_fields fuel y)) (taken_front (b ∷ f) r k) (dropped_front (b ∷ f) r k))

read_joined : (fs : List (List ℕ)) → Fields fs → (fuel z : ℕ) → length (field_bytes fs) + z < fuel
    → read_fields fuel (field_bytes fs ++ replicate z 0) ≡ some fs
unfolding field_bytes
read_joined [] k fuel z h = read_zeros fuel z (omega arith)
read_joined (f ∷ fs) k zero z h = absurd (omega arith)
read_joined (f ∷ fs) k (suc fuel) z h =
    let l : length (f ++ field_bytes fs) ≡ length f + length (field_bytes fs) = length-append f (field_bytes fs) in
    rw append_assoc
    (field_read fuel f (field_bytes fs ++ replicate z 0) k.0
    ∙ ap (field_then f) (read_joined fs k.2 fuel z (omega (arith, k.0.ends)))
    ∙ rw k.1)

pub read_store : (n : ℕ) (fs : List (List ℕ)) → Fields fs → length (field_bytes fs) ≤ n → fields_of (store_of n fs) ≡ some fs
unfolding fields_of store_of
read_store n fs k h =
    let l : length (field_bytes fs ++ replicate (n - length (field_bytes fs)) 0) ≡ n = length-append (field_bytes fs)
    (replicate (n - length (field_bytes fs)) 0)
    ∙ ap (λ (m : ℕ). length (field_bytes fs) + m) (length-replicate (n - length (field_bytes fs)) 0) ∙ omega arith in
    read_joined fs k (length (field_bytes fs ++ replicate (n - length (field_bytes fs)) 0) + 1) (n - length (field_bytes fs)) (omega arith)

pub store_of_length : (n : ℕ) (fs : List (List ℕ)) → length (field_bytes fs) ≤ n → length (store_of n fs) ≡ n
unfolding store_of
store_of_length n fs h = length-append (field_bytes fs) (replicate (n - length (field_bytes fs)) 0)
    ∙ ap (λ (m : ℕ). length (field_bytes fs) + m) (length-replicate (n - length (field_bytes fs)) 0) ∙ omega arith

-- ---- one field less, one field more

has_either : (j : ℕ) (d : Bool) (f : List ℕ) (fs ws : List (List ℕ))
    → has_tag j (pick d fs (f ∷ ws)) ≡ pick d (has_tag j fs) (pick (eqb (tag_in f) j) true (has_tag j ws))
unfolding has_tag
has_either j true f fs ws = refl
has_either j false f fs ws = refl

has_without : (j k : ℕ) (fs : List (List ℕ)) → has_tag j fs ≡ false → has_tag j (without_tag k fs) ≡ false
unfolding has_tag without_tag
has_without j k [] h = refl
has_without j k (f ∷ fs) h = has_either j (eqb (tag_in f) k) f fs (without_tag k fs)
    ∙ go (eqb (tag_in f) j) (eqb (tag_in f) k) (has_tag j fs) (has_tag j (without_tag k fs)) h (has_without j k fs)
  where
    go : (c d x w : Bool) → pick c true x ≡ false → (x ≡ false → w ≡ false) → pick d x (pick c true w) ≡ false
    go true d x w h e = let z : ◌≡◌ {A = ℕ} 0 1 = cc in absurd (omega arith)
    go false true x w h e = h
    go false false x w h e = e h

pub fields_without : (k : ℕ) (fs : List (List ℕ)) → Fields fs → Fields (without_tag k fs)
unfolding without_tag
fields_without k [] q = q
fields_without k (f ∷ fs) q = go (eqb (tag_in f) k) (fields_without k fs q.2)
  where
    go : (c : Bool) → Fields (without_tag k fs) → Fields (pick c fs (f ∷ without_tag k fs))
    go true w = q.2
    go false w = (q.0, has_without (tag_in f) k fs q.1, w)

pub without_gone : (k : ℕ) (fs : List (List ℕ)) → Fields fs → has_tag k (without_tag k fs) ≡ false
unfolding has_tag without_tag
without_gone k [] q = refl
without_gone k (f ∷ fs) q = has_either k (eqb (tag_in f) k) f fs (without_tag k fs) ∙ go (eqb (tag_in f) k) refl (without_gone k fs q.2)
  where
    go : (c : Bool) → eqb (tag_in f) k ≡ c → has_tag k (without_tag k fs) ≡ false → pick c (has_tag k fs) (pick c true (has_tag k (without_tag k fs))) ≡ false
    go true e w = let i : tag_in f ≡ k = eqb-true (tag_in f) k e in rw i at q.1
    go false e w = w

pub without_shorter : (k : ℕ) (fs : List (List ℕ)) → length (field_bytes (without_tag k fs)) ≤ length (field_bytes fs)
unfolding without_tag field_bytes
without_shorter k [] = omega arith
without_shorter k (f ∷ fs) = go (eqb (tag_in f) k) (without_shorter k fs)
  where
    go : (c : Bool) → length (field_bytes (without_tag k fs)) ≤ length (field_bytes fs)
        → length (field_bytes (pick c fs (f ∷ without_tag k fs))) ≤ length (f ++ field_bytes fs)
    go true w = omega (arith, length-append f (field_bytes fs))
    go false w = omega (arith, length-append f (field_bytes fs), length-append f (field_bytes (without_tag k fs)))

pub joined_last : (fs : List (List ℕ)) (f : List ℕ) → length (field_bytes (fs ++ (f ∷ []))) ≡ length (field_bytes fs) + length f
unfolding field_bytes
joined_last [] f = omega (arith, length-append f [])
joined_last (g ∷ fs) f = omega (arith, length-append g (field_bytes (fs ++ (f ∷ []))), length-append g (field_bytes fs), joined_last fs f)

pub has_last : (j : ℕ) (fs : List (List ℕ)) (f : List ℕ) → has_tag j fs ≡ false → (tag_in f ≡ j → ⊥) → has_tag j (fs ++ (f ∷ [])) ≡ false
unfolding has_tag
has_last j [] f h d = rw (ne_eqb (tag_in f) j d)
has_last j (g ∷ fs) f h d = go (eqb (tag_in g) j) (has_tag j fs) h (has_last j fs f)
  where
    go : (c x : Bool) → pick c true x ≡ false → (x ≡ false → (tag_in f ≡ j → ⊥) → has_tag j (fs ++ (f ∷ [])) ≡ false)
        → pick c true (has_tag j (fs ++ (f ∷ []))) ≡ false
    go true x h e = let z : ◌≡◌ {A = ℕ} 0 1 = cc in absurd (omega arith)
    go false x h e = e h d

-- no field of that tag: neither at the front nor after
pub absent : (k : ℕ) (g : List ℕ) (fs : List (List ℕ)) → has_tag k (g ∷ fs) ≡ false → (tag_in g ≡ k → ⊥) × (has_tag k fs ≡ false)
unfolding has_tag
absent k g fs h = go (eqb (tag_in g) k) refl h
  where
    go : (c : Bool) → eqb (tag_in g) k ≡ c → pick c true (has_tag k fs) ≡ false → (tag_in g ≡ k → ⊥) × (has_tag k fs ≡ false)
    go true e q = let z : ◌≡◌ {A = ℕ} 0 1 = cc in absurd (omega arith)
    go false e q = (eqb-false (tag_in g) k e, q)

pub fields_last : (fs : List (List ℕ)) (f : List ℕ) → Fields fs → Field f → has_tag (tag_in f) fs ≡ false → Fields (fs ++ (f ∷ []))
fields_last [] f q k h = (k, h, tt)
fields_last (g ∷ fs) f q k h =
    let a = absent (tag_in f) g fs h in
    (q.0, has_last (tag_in g) fs f q.1 (λ e. a.0 (sym e)), fields_last fs f q.2 k a.1)

-- ---- the drafts

found_either : (j : ℕ) (d : Bool) (f : List ℕ) (fs ws : List (List ℕ))
    → draft_of j (pick d fs (f ∷ ws)) ≡ pick d (draft_of j fs) (pick (eqb (tag_in f) j) (some (drop 3 f)) (draft_of j ws))
unfolding draft_of
found_either j true f fs ws = refl
found_either j false f fs ws = refl

pub found_other : (j k : ℕ) (fs : List (List ℕ)) → (j ≡ k → ⊥) → draft_of j (without_tag k fs) ≡ draft_of j fs
unfolding draft_of without_tag
found_other j k [] d = refl
found_other j k (f ∷ fs) d = found_either j (eqb (tag_in f) k) f fs (without_tag k fs) ∙ go (eqb (tag_in f) k) refl (found_other j k fs d)
  where
    go : (c : Bool) → eqb (tag_in f) k ≡ c → draft_of j (without_tag k fs) ≡ draft_of j fs
        → pick c (draft_of j fs) (pick (eqb (tag_in f) j) (some (drop 3 f)) (draft_of j (without_tag k fs)))
        ≡ pick (eqb (tag_in f) j) (some (drop 3 f)) (draft_of j fs)
    go true e w = let i : tag_in f ≡ k = eqb-true (tag_in f) k e in rw (ne_eqb (tag_in f) j (λ z. d (sym z ∙ i)))
    go false e w = rw w

pub found_none : (k : ℕ) (fs : List (List ℕ)) → has_tag k fs ≡ false → draft_of k fs ≡ none
unfolding draft_of has_tag
found_none k [] h = refl
found_none k (f ∷ fs) h = let a = absent k f fs h in rw (ne_eqb (tag_in f) k a.0) (found_none k fs a.1)

pub found_last : (j : ℕ) (fs : List (List ℕ)) (f : List ℕ) → has_tag j fs ≡ false → tag_in f ≡ j → draft_of j (fs ++ (f ∷ [])) ≡ some (drop 3 f)
unfolding draft_of
found_last j [] f h e = rw (eq-eqb (tag_in f) j e)
found_last j (g ∷ fs) f h e = let a = absent j g fs h in rw (ne_eqb (tag_in g) j a.0) (found_last j fs f a.1 e)

pub found_before : (j : ℕ) (fs : List (List ℕ)) (f : List ℕ) → (tag_in f ≡ j → ⊥) → draft_of j (fs ++ (f ∷ [])) ≡ draft_of j fs
unfolding draft_of
found_before j [] f d = rw (ne_eqb (tag_in f) j d)
found_before j (g ∷ fs) f d = rw (found_before j fs f d)

-- ---- a tree's field

pub element_field : (k : ℕ) (tree : List ℕ) → is_tag k ≡ true → Field (element k tree)
element_field k tree h = record { tag = h; ends = omega arith }
