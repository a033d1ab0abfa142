-- Lines written over bytes: one under another, side by side, and what each place holds afterwards.
use mathlib.Core.Path.{◌≡◌, refl, sym, ap, ◌∙◌}
use Prim.Native.Nat.{ℕ, suc, ◌+◌, ◌*◌, ◌≤◌}
use native.Mathlib.Omega.{arith}
use mathlib.Core.List.{List, [], ◌∷◌, ◌++◌}
use lib.ListN.{length}
use lib.Seq.{sets}
use Rattle.common.proofs.Stores.{sets_append, sets_sets, sets_over}
use Rattle.block.specs.Content.{side_by_side}
use Rattle.paint.specs.Clauses.{pasted}
use Rattle.common.specs.Every.{Every}
use Rattle.block.proofs.Dimensions.{Dims}

-- one under another
pub pasted_append : (x y : List (List ℕ)) (o : List ℕ) (at stride : ℕ)
    → pasted o at stride (x ++ y) ≡ pasted (pasted o at stride x) (at + length x * stride) stride y
unfolding pasted
pasted_append [] y o at stride = let e : at + 0 * stride ≡ at = omega arith in rw e
pasted_append (l ∷ x) y o at stride =
    let e : at + suc (length x) * stride ≡ at + stride + length x * stride = omega arith in
    rw e (pasted_append x y (sets o at l) (at + stride) stride)

-- stores before the first line may come after all of them
pub sets_pasted : (x : List (List ℕ)) (us o : List ℕ) (i at stride : ℕ) → i + length us ≤ at
    → sets (pasted o at stride x) i us ≡ pasted (sets o i us) at stride x
unfolding pasted
sets_pasted [] us o i at stride h = refl
sets_pasted (l ∷ x) us o i at stride h = sets_pasted x us (sets o at l) i (at + stride) stride (omega arith)
    ∙ ap (λ (k : List ℕ). pasted k (at + stride) stride x) (sets_sets us l o i at h)

-- side by side
pub pasted_paired : (x y : List (List ℕ)) (o : List ℕ) (at w v stride : ℕ) → length x ≡ length y → Every (λ l. length l ≡ w) x → Every (λ l. length l ≡ v) y
    → w + v ≤ stride
    → pasted (pasted o at stride x) (at + w) stride y ≡ pasted o at stride (side_by_side x y)
unfolding pasted side_by_side
pasted_paired [] [] o at w v stride e p q h = refl
pasted_paired [] (m ∷ y) o at w v stride e p q h = absurd (omega arith)
pasted_paired (l ∷ x) [] o at w v stride e p q h = absurd (omega arith)
pasted_paired (l ∷ x) (m ∷ y) o at w v stride e p q h =
    let d : at + w + stride ≡ at + stride + w = omega arith in
    rw (sets_pasted x m (sets o at l) (at + w) (at + stride) stride (omega (arith, q.0)), d)
    (pasted_paired x y (sets (sets o at l) (at + w) m) (at + stride) w v stride (omega arith) p.1 q.1 h
    ∙ ap (λ (k : List ℕ). pasted k (at + stride) stride (side_by_side x y)) (rw (sets_append l m o at, p.0)))

pub pasted_beside : {x y : List (List ℕ)} {h w v : ℕ} (o : List ℕ) (at stride : ℕ) → Dims x h w → Dims y h v → w + v ≤ stride
    → pasted (pasted o at stride x) (at + w) stride y ≡ pasted o at stride (side_by_side x y)
pasted_beside {x} {y} {w = w} {v} o at stride d e h = pasted_paired x y o at w v stride (d.lines ∙ sym e.lines) d.columns e.columns h

-- first those on the left, or first those on the right
pasted_swap : (x y : List (List ℕ)) (o : List ℕ) (at w v stride : ℕ) → length x ≡ length y → Every (λ l. length l ≡ w) x → Every (λ l. length l ≡ v) y
    → w + v ≤ stride
    → pasted (pasted o (at + w) stride y) at stride x ≡ pasted (pasted o at stride x) (at + w) stride y
unfolding pasted
pasted_swap [] [] o at w v stride e p q h = refl
pasted_swap [] (m ∷ y) o at w v stride e p q h = absurd (omega arith)
pasted_swap (l ∷ x) [] o at w v stride e p q h = absurd (omega arith)
pasted_swap (l ∷ x) (m ∷ y) o at w v stride e p q h =
    let d : at + w + stride ≡ at + stride + w = omega arith in
    rw (
      sets_pasted y l (sets o (at + w) m) at (at + w + stride) stride (omega (arith, p.0)),
      sets_pasted x m (sets o at l) (at + w) (at + stride) stride (omega (arith, q.0)),
      sets_sets l m o at (at + w) (omega (arith, p.0)),
      d,
    )
    (pasted_swap x y (sets (sets o at l) (at + w) m) (at + stride) w v stride (omega arith) p.1 q.1 h)

pub pasted_aside : {x y : List (List ℕ)} {h w v : ℕ} (o : List ℕ) (at stride : ℕ) → Dims x h w → Dims y h v → w + v ≤ stride
    → pasted (pasted o (at + w) stride y) at stride x ≡ pasted (pasted o at stride x) (at + w) stride y
pasted_aside {x} {y} {w = w} {v} o at stride d e h = pasted_swap x y o at w v stride (d.lines ∙ sym e.lines) d.columns e.columns h

-- one over another
lines_over : (x y : List (List ℕ)) (o : List ℕ) (at w stride : ℕ) → length x ≡ length y → Every (λ l. length l ≡ w) x → Every (λ l. length l ≡ w) y → w ≤ stride
    → pasted (pasted o at stride x) at stride y ≡ pasted o at stride y
unfolding pasted
lines_over [] [] o at w stride e p q h = refl
lines_over [] (m ∷ y) o at w stride e p q h = absurd (omega arith)
lines_over (l ∷ x) [] o at w stride e p q h = absurd (omega arith)
lines_over (l ∷ x) (m ∷ y) o at w stride e p q h =
    rw (sets_pasted x m (sets o at l) at (at + stride) stride (omega (arith, q.0)), sets_over l m o at (omega (arith, p.0, q.0)))
    (lines_over x y (sets o at m) (at + stride) w stride (omega arith) p.1 q.1 h)

pub pasted_over : {x y : List (List ℕ)} {h w : ℕ} (o : List ℕ) (at stride : ℕ) → Dims x h w → Dims y h w → w ≤ stride
    → pasted (pasted o at stride x) at stride y ≡ pasted o at stride y
pasted_over {x} {y} {w = w} o at stride d e h = lines_over x y o at w stride (d.lines ∙ sym e.lines) d.columns e.columns h

-- ---- what each place holds
