use Rattle.typed.proofs.Texts.{CountedText}
use Rattle.typed.proofs.typed_text.check_text.Given as goal

abbrev pub invariant-loop-i : goal.invariant-loop-i
invariant-loop-i l = CountedText l.raw l.escaped l.n l.i-counter
