use Rattle.text.specs.Clauses.{Onward}
use Rattle.text.proofs.next_feed_bytewise.Given as goal

abbrev pub invariant-loop-i : goal.invariant-loop-i
invariant-loop-i l = Onward l.s l.from l.i
