use Rattle.std.proofs.Common.{◌-◌}
use Rattle.text.specs.Clauses.{SeenBefore, Whole}
use Rattle.text.proofs.count_feeds.Given as goal

abbrev pub invariant-loop-i : goal.invariant-loop-i
invariant-loop-i l = Whole 32 l.s l.i l.end × SeenBefore l.s l.i l.r

abbrev pub decreases-loop-i : goal.decreases-loop-i
decreases-loop-i l = l.end - l.i
