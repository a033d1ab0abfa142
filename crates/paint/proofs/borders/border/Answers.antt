use mathlib.Core.Path.{◌≡◌, refl, ◌∙◌}
use Prim.Native.Nat.{ℕ, ◌+◌}
use native.Mathlib.Numerals.{add-one}
use mathlib.Core.List.{List, [], ◌∷◌, ◌++◌}
use lib.ListN.{set, replicate, length-replicate}
use lib.Seq.{sets}
use Rattle.block.specs.Block.{edge}
use Rattle.common.specs.Writing.{Wrote}
use Rattle.paint.proofs.LinesLeft.{then_sets}
use Rattle.paint.proofs.borders.border.Goals as goal

-- what comes after the corner and the marks
border_is : (o o₁ y : List ℕ) (at w corner mark p : ℕ) → Wrote p (at + 1 + w) o₁ (sets (set o at corner) (at + 1) (replicate w mark))
    → sets o₁ p y ≡ sets o at (corner ∷ (replicate w mark ++ y))
border_is o o₁ y at w corner mark p k =
    then_sets (replicate w mark) y (set o at corner) o₁ (sets o₁ p y) (at + 1) p w (length-replicate w mark) k refl ∙ rw (add-one at)

pub returns-then-right : goal.returns-then-right
unfolding edge
returns-then-right c = let a = c.args in
    rw c.if-right.true (border_is a.out.now _ (a.last ∷ []) a.at a.w a.corner a.mark _ c.fill-p.ensures)

pub returns-else-right : goal.returns-else-right
unfolding edge
returns-else-right c = let a = c.args in
    rw c.if-right.false (border_is a.out.now _ [] a.at a.w a.corner a.mark _ c.fill-p.ensures)
