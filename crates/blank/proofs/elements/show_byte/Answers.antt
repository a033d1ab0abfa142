use borrow.Author.Tests.{eq-eqb, ne_eqb}
use Rattle.blank.specs.Blank.{shown_byte}
use Rattle.blank.proofs.elements.show_byte.Goals as goal
use Rattle.blank.proofs.elements.show_byte.Goals.{else-dots-via-then-dots+else-b-ne10, else-dots-via-else-dots}

pub returns-then-b-ne10 : goal.returns-then-b-ne10
unfolding shown_byte
returns-then-b-ne10 c = rw (c.if-dots.true, ne_eqb _ 10 c.if-b-ne10.true)

pub returns-else-dots : goal.returns-else-dots
unfolding shown_byte
returns-else-dots c = elim c.else-dots.branch [
  | else-dots-via-then-dots+else-b-ne10 w ↦ rw (w.if-dots.true, eq-eqb _ 10 w.if-b-ne10.false) w.if-b-ne10.false
  | else-dots-via-else-dots w ↦ rw w.if-dots.false
]
