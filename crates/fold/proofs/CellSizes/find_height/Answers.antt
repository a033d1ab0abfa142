use native.Mathlib.Omega.{arith}
use mathlib.Core.Path.{refl, ap, ◌∙◌}
use Rattle.fold.specs.declared.Tried.{Tried}
use Rattle.fold.proofs.Tries.{try_counts, range_low, begin_down, turn_down, over_height}
use Rattle.fold.proofs.CellSizes.find_height.Goals as goal

pub overflow_sub-one : goal.overflow_sub-one
overflow_sub-one c = range_low _ _ _ 0 0 _ _ c.requires

pub loop-t-init : goal.loop-t-init
loop-t-init c = (omega arith, λ q. begin_down _ _ _ _ _ _ _ q _ refl)

pub loop-t-preserved : goal.loop-t-preserved
loop-t-preserved c = let l = c.loop-t in (
  ap (λ (y : Tried). y.tries) (c.try_height-f.ensures c.requires.known) ∙ try_counts _ _ _ _ l.f ∙ omega (arith, l.invariant.0),
  λ q. turn_down _ _ _ _ _ _ _ q l.t l.f (omega (arith, c.min.ensures, c.loop-t-test.true)) (omega arith) (l.invariant.1 q) _ (c.try_height-f.ensures q.known),
)

pub returns : goal.returns
returns c = let l = c.loop-t in λ q. over_height _ _ _ _ _ _ _ q l.t l.f (omega (arith, c.min.ensures, c.loop-t-test.false)) (l.invariant.1 q)
