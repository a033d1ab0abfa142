use Rattle.std.proofs.Common.{◌-◌}
use Rattle.text.specs.Clauses.{Whole, Passed}
use Rattle.text.proofs.past_plain.Given as goal

abbrev pub invariant-loop-i : goal.invariant-loop-i
invariant-loop-i l = Whole 32 l.s l.i l.end × Passed l.s l.at l.i

abbrev pub decreases-loop-i : goal.decreases-loop-i
decreases-loop-i l = l.end - l.i
