use native.Mathlib.Omega.{arith}
use Rattle.fold.proofs.Tries.{try_fits, try_fails}
use Rattle.fold.proofs.CellSizes.try_height.Goals as goal
use Rattle.fold.proofs.CellSizes.try_height.Goals.{then-r-width, else-r-width}

pub returns : goal.returns
returns c = λ q. elim c.if-r-width.branch [
  | then-r-width w ↦ rw w.result-is (try_fits _ _ _ _ c.run-r.result (c.run-r.ensures.runs q) _ (omega (arith, w.if-r-width.true)))
  | else-r-width w ↦ rw w.result-is (try_fails _ _ _ _ c.run-r.result (c.run-r.ensures.runs q) _ (omega (arith, w.if-r-width.false)))
]
