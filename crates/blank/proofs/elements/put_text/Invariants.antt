use Rattle.blank.proofs.ShownBytes.{Showing}
use Rattle.blank.proofs.elements.put_text.Given as goal

abbrev pub invariant-loop-i : goal.invariant-loop-i
invariant-loop-i l = Showing l.dots l.text l.initial.out l.at l.out l.i
