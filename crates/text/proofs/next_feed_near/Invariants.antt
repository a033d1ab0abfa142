use Rattle.std.proofs.Common.{◌-◌, length}
use Rattle.text.specs.Clauses.{Onward}
use Rattle.text.proofs.next_feed_near.Given as goal

abbrev pub invariant-loop-i : goal.invariant-loop-i
invariant-loop-i l = Onward l.s l.from l.i

abbrev pub decreases-loop-i : goal.decreases-loop-i
decreases-loop-i l = length l.s - l.i
