use mathlib.Core.Path.{◌∙◌}
use Rattle.layout.proofs.child_flags.Goals as goal

pub returns-then-across : goal.returns-then-across
returns-then-across c = λ flags e. c.row_flags.ensures flags e ∙ rw c.if-across.true

pub returns : goal.returns
returns c = λ flags e. c.column_flags.ensures flags e ∙ rw c.if-across.false
