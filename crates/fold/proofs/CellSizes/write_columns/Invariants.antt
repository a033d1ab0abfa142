use Rattle.std.proofs.Common.{length, drop}
use Rattle.fold.specs.Clauses.{SmallRun, ColumnsRoom}
use Rattle.fold.proofs.Running.{Writing}
use Rattle.fold.proofs.CellSizes.write_columns.Given as goal

abbrev pub invariant-loop-i : goal.invariant-loop-i
invariant-loop-i l =
    SmallRun l.i l.r
    × ((q : ColumnsRoom l.self.widths.now l.self.heights.now l.self.sep l.t (length l.initial.columns))
    → Writing q.known.settings l.t q.known.cells (drop l.i q.known.cells) l.r l.columns l.initial.columns)
