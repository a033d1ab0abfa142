use Rattle.std.proofs.Common.{◌≡◌, ◌-◌}
use Rattle.fold.specs.Clauses.{Range}
use Rattle.fold.specs.Fold.{try_down, find}
use Rattle.fold.proofs.CellSizes.find_height.Given as goal

abbrev pub invariant-loop-t : goal.invariant-loop-t
invariant-loop-t l =
    (l.f.tries ≡ l.one - l.t)
    × ((q : Range l.self.widths.now l.self.heights.now l.self.sep l.one l.least)
    → try_down q.known.settings l.width q.known.cells (l.budget - (l.one - l.t)) (l.t - l.least) l.f ≡ find q.known.settings l.width q.known.cells l.budget)
