use mathlib.Core.Path.{refl}
use Rattle.widen.specs.Widening as widening
use Rattle.widen.proofs.node.lost.Goals as goal

pub returns-then-across : goal.returns-then-across
unfolding widening.lost
returns-then-across c = rw c.if-across.true refl

pub returns-else-across : goal.returns-else-across
unfolding widening.lost
returns-else-across c = rw c.if-across.false refl
