-- Bytes that are equal once the texts of the Cells that a reader visits are covered are alike.
use mathlib.Core.Path.{◌≡◌, refl, sym, ap, ap₂, ◌∙◌}
use Prim.Native.Nat.{ℕ, zero, suc, ◌+◌, ◌*◌, ◌≤◌, ◌<◌}
use native.Mathlib.Omega.{arith}
use mathlib.Core.Bool.{Bool, true, false}
use mathlib.Core.List.{List, ◌++◌, map}
use lib.ListN.{length, get_or, take, drop, length-map, length-drop, length-append, get_or-append}
use lib.Seq.{take_at, drop_at, length-take-le, get_or-take}
use lib.Dec.{eqb, leb}
use borrow.Author.Tests.{eqb-true, leb-true}
use Rattle.common.specs.Choice.{pick}
use Rattle.tree.specs.Tree.{Axis, across, down}
use Rattle.tree.specs.Bytes.{length_at, tag_of}
use Rattle.tree.specs.Promises.{contents}
use Rattle.tree.specs.Reading.{is_text, read_tree}
use Rattle.tree.proofs.Fronts.{contents_length}
use Rattle.blank.specs.Alike.{covered}
use Rattle.alike.specs.Pairs as pairs
use Rattle.alike.specs.Pairs.{AlikeBytes, SameFront, after_element, SameRead}
use Rattle.alike.specs.Blurred.{whole?, group?, blurred, Clean}
use Rattle.alike.proofs.Lines.{alike_lines}
use Rattle.alike.proofs.Pairs.{reads_alike}

-- ---- one element covered: its front, something as long as its contents, something as long as what is behind

-- the parts of a covered element
module _ (f : ℕ) (s : List ℕ) where
  inside : Bool → Bool → List ℕ
  inside true b = map (covered 1) (contents s)
  inside false true = blurred f (contents s)
  inside false false = contents s

  covers : whole? s ≡ true → (a b : Bool) → eqb (get_or s 0 0) 1 ≡ a → group? (get_or s 0 0) ≡ b
      → blurred (suc f) s ≡ take 3 s ++ (inside a b ++ blurred f (after_element s))
  unfolding blurred inside
  covers w true b e k = rw (blurred, w, e)
  covers w false true e k = rw (blurred, w, e, k)
  covers w false false e k = rw (blurred, w, e, k)

  stays : whole? s ≡ false → blurred (suc f) s ≡ s
  unfolding blurred
  stays w = rw (blurred, w)

whole_le : (s : List ℕ) → whole? s ≡ true → 3 + length_at s ≤ length s
whole_le s w = leb-true (3 + length_at s) (length s) w

abbrev Long : ℕ → Type 0
Long f = (s : List ℕ) → length (blurred f s) ≡ length s

inside_length : (f : ℕ) → Long f → (s : List ℕ) → whole? s ≡ true → (a b : Bool) → length (inside f s a b) ≡ length_at s
unfolding inside
inside_length f ih s w true b = length-map (contents s) (covered 1) ∙ contents_length s (whole_le s w)
inside_length f ih s w false true = ih (contents s) ∙ contents_length s (whole_le s w)
inside_length f ih s w false false = contents_length s (whole_le s w)

next_length : (f : ℕ) → Long f → Long (suc f)
next_length f ih s = go (whole? s) refl
  where
    go : (w : Bool) → whole? s ≡ w → length (blurred (suc f) s) ≡ length s
    go true w =
        let x = inside f s (eqb (get_or s 0 0) 1) (group? (get_or s 0 0)) in
        let h = whole_le s w in
        ap length (covers f s w (eqb (get_or s 0 0) 1) (group? (get_or s 0 0)) refl refl)
        ∙ omega (
          arith,
          length-append (take 3 s) (x ++ blurred f (after_element s)),
          length-append x (blurred f (after_element s)),
          length-take-le 3 s (omega arith),
          inside_length f ih s w (eqb (get_or s 0 0) 1) (group? (get_or s 0 0)),
          ih (after_element s),
          length-drop (3 + length_at s) s,
        )
    go false w = ap length (stays f s w)

blurred_length : (f : ℕ) → Long f
unfolding blurred
blurred_length zero s = refl
blurred_length (suc f) s = next_length f (blurred_length f) s

-- ---- the front stays

front_at : (f : ℕ) (s : List ℕ) (i : ℕ) → i < 3 → get_or (blurred (suc f) s) i 0 ≡ get_or s i 0
front_at f s i h = go (whole? s) refl
  where
    go : (w : Bool) → whole? s ≡ w → get_or (blurred (suc f) s) i 0 ≡ get_or s i 0
    go true w =
        let n : length (take 3 s) ≡ 3 = length-take-le 3 s (omega (arith, whole_le s w)) in
        ap (λ (l : List ℕ). get_or l i 0) (covers f s w (eqb (get_or s 0 0) 1) (group? (get_or s 0 0)) refl refl)
        ∙ get_or-append (take 3 s) _ 0 i (omega arith) ∙ get_or-take 3 s i 0 h
    go false w = ap (λ (l : List ℕ). get_or l i 0) (stays f s w)

-- ---- no text holds a forbidden byte

module _ (f : ℕ) (s : List ℕ) (w : whole? s ≡ true) (c : Clean (suc f) s) where
  clean_cell : eqb (get_or s 0 0) 1 ≡ true → (is_text (contents s) ≡ true) × Clean f (after_element s)
  unfolding Clean
  clean_cell e = rw (Clean, w, e) at c

  clean_group : eqb (get_or s 0 0) 1 ≡ false → group? (get_or s 0 0) ≡ true → Clean f (contents s) × Clean f (after_element s)
  unfolding Clean
  clean_group e k = rw (Clean, w, e, k) at c

  clean_other : eqb (get_or s 0 0) 1 ≡ false → group? (get_or s 0 0) ≡ false → Clean f (after_element s)
  unfolding Clean
  clean_other e k = rw (Clean, w, e, k) at c

record GroupTag (n : ℕ) : Type 0 where
  axis : Axis
  is : n ≡ tag_of axis

group_tag : (n : ℕ) → group? n ≡ true → GroupTag n
group_tag n = go (eqb n 2) refl (eqb n 3) refl
  where
    go : (a : Bool) → eqb n 2 ≡ a → (b : Bool) → eqb n 3 ≡ b → pick a true b ≡ true → GroupTag n
    go true e b k h = record { axis = across; is = eqb-true n 2 e }
    go false e true k h = record { axis = down; is = eqb-true n 3 k }
    go false e false k h = let z : ◌≡◌ {A = ℕ} 0 1 = cc in absurd (omega arith)

-- ---- equal once covered

split : (n : ℕ) (x y u v : List ℕ) → length x ≡ n → length y ≡ n → x ++ u ≡ y ++ v → (x ≡ y) × (u ≡ v)
split n x y u v h k e =
    (sym (take_at x u n h) ∙ ap (take n) e ∙ take_at y v n k, sym (drop_at x u n h) ∙ ap (drop n) e ∙ drop_at y v n k)

abbrev Blurs : ℕ → Type 0
Blurs f = (p q : List ℕ) → blurred f p ≡ blurred f q → Clean f p → Clean f q → AlikeBytes p q

module _ (f : ℕ) (ih : Blurs f) (p q : List ℕ) (e : blurred (suc f) p ≡ blurred (suc f) q) (c : Clean (suc f) p) (d : Clean (suc f) q) where
  at : (i : ℕ) → i < 3 → get_or p i 0 ≡ get_or q i 0
  at i h = sym (front_at f p i h) ∙ ap (λ (l : List ℕ). get_or l i 0) e ∙ front_at f q i h

  tags : get_or p 0 0 ≡ get_or q 0 0
  tags = at 0 (omega arith)

  longs : length_at p ≡ length_at q
  longs = ap₂ (λ (h l : ℕ). 256 * h + l) (at 1 (omega arith)) (at 2 (omega arith))

  lengths : length p ≡ length q
  lengths = sym (blurred_length (suc f) p) ∙ ap length e ∙ blurred_length (suc f) q

  wholes : whole? p ≡ whole? q
  wholes = ap₂ (λ (a b : ℕ). leb (3 + a) b) longs lengths

  step : AlikeBytes p q
  unfolding inside
  step = go (whole? p) refl
    where
      whole_step : (w : whole? p ≡ true) → whole? q ≡ true → (a b : Bool) → eqb (get_or p 0 0) 1 ≡ a → group? (get_or p 0 0) ≡ b → eqb (get_or q 0 0) 1 ≡ a
          → group? (get_or q 0 0) ≡ b → AlikeBytes p q
      whole_step w v a b t u t' u' =
          let front : SameFront p q = record { tag = tags; long = longs; whole = whole_le p w; other_whole = whole_le q v } in
          let h : take 3 p ++ (inside f p a b ++ blurred f (after_element p)) ≡ take 3 q ++ (inside f q a b ++ blurred f (after_element q)) =
          sym (covers f p w a b t u) ∙ e ∙ covers f q v a b t' u' in
          let x = (split 3 (take 3 p) (take 3 q) (inside f p a b ++ blurred f (after_element p)) (inside f q a b ++ blurred f (after_element q))
          (length-take-le 3 p (omega (arith, whole_le p w))) (length-take-le 3 q (omega (arith, whole_le q v))) h).1 in
          let y = split (length_at p) (inside f p a b) (inside f q a b) (blurred f (after_element p)) (blurred f (after_element q))
          (inside_length f (blurred_length f) p w a b) (inside_length f (blurred_length f) q v a b ∙ sym longs) x in
          by a b t u t' u' front y.0 y.1
        where
          by : (a b : Bool) → eqb (get_or p 0 0) 1 ≡ a → group? (get_or p 0 0) ≡ b → eqb (get_or q 0 0) 1 ≡ a → group? (get_or q 0 0) ≡ b → SameFront p q
              → inside f p a b ≡ inside f q a b → blurred f (after_element p) ≡ blurred f (after_element q) → AlikeBytes p q
          by true b t u t' u' front x y =
              let m = clean_cell f p w c t in
              let n = clean_cell f q v d t' in
              pairs.cell front (eqb-true (get_or p 0 0) 1 t) (alike_lines (contents p) (contents q) x) (m.0 ∙ sym n.0)
              (ih (after_element p) (after_element q) y m.1 n.1)
          by false true t u t' u' front x y =
              let m = clean_group f p w c t u in
              let n = clean_group f q v d t' u' in
              let g = group_tag (get_or p 0 0) u in
              pairs.group g.axis front g.is (ih (contents p) (contents q) x m.0 n.0) (ih (after_element p) (after_element q) y m.1 n.1)
          by false false t u t' u' front x y = pairs.kept front x
              (ih (after_element p) (after_element q) y (clean_other f p w c t u) (clean_other f q v d t' u'))

      go : (w : Bool) → whole? p ≡ w → AlikeBytes p q
      go true w = whole_step w (sym wholes ∙ w) (eqb (get_or p 0 0) 1) (group? (get_or p 0 0)) refl refl (ap (λ (n : ℕ). eqb n 1) (sym tags))
          (ap group? (sym tags))
      go false w = let k : p ≡ q = sym (stays f p w) ∙ e ∙ stays f q (sym wholes ∙ w) in rw (← k) (pairs.same p)

pub blurred_alike : (f : ℕ) (p q : List ℕ) → blurred f p ≡ blurred f q → Clean f p → Clean f q → AlikeBytes p q
unfolding blurred
blurred_alike zero p q e c d = rw (← e) (pairs.same p)
blurred_alike (suc f) p q e c d = step f (blurred_alike f) p q e c d

-- the law over bytes
pub reads_blurred : (f : ℕ) (p q : List ℕ) → blurred f p ≡ blurred f q → Clean f p → Clean f q → SameRead (read_tree p) (read_tree q)
reads_blurred f p q e c d = reads_alike (blurred_alike f p q e c d)
