use Rattle.std.proofs.Common.{drop}
use Rattle.fold.specs.Clauses.{SmallRun, Cells}
use Rattle.fold.proofs.Running.{Ran}
use Rattle.fold.proofs.CellSizes.run.Given as goal

abbrev pub invariant-loop-i : goal.invariant-loop-i
invariant-loop-i l =
    SmallRun l.i l.r × ((q : Cells l.self.widths.now l.self.heights.now l.self.sep) → Ran q.settings l.t q.cells (drop l.i q.cells) l.r)
