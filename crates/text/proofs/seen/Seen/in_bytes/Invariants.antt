use Rattle.text.specs.Clauses.{SeenBefore}
use Rattle.text.proofs.seen.Seen.in_bytes.Given as goal

abbrev pub invariant-loop-i : goal.invariant-loop-i
invariant-loop-i l = SeenBefore l.s l.i l.r
