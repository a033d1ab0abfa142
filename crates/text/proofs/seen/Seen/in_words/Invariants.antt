use Rattle.text.specs.Clauses.{Whole, SeenBefore}
use Rattle.text.proofs.seen.Seen.in_words.Given as goal

abbrev pub invariant-loop-i : goal.invariant-loop-i
invariant-loop-i l = Whole 8 l.s l.i l.to × SeenBefore l.s l.i l.r
