use Rattle.std.proofs.Common.{◌≡◌, max, drop}
use Rattle.common.specs.Sums.{greatest}
use Rattle.fold.proofs.CellSizes.tallest.Given as goal

abbrev pub invariant-loop-h : goal.invariant-loop-h
invariant-loop-h l = max l.most (greatest (drop l.h-index l.self.heights.now)) ≡ greatest l.self.heights.now
