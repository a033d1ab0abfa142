use Rattle.typed.proofs.Texts.{TextLeft}
use Rattle.typed.proofs.typed_text.write_text.Given as goal

abbrev pub invariant-loop-b : goal.invariant-loop-b
invariant-loop-b l = TextLeft l.raw l.initial.out l.out l.at l.escaped l.p l.b-index
