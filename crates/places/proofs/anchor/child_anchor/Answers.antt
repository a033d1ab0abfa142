use Rattle.places.specs.Locating.{child_anchor}
use Rattle.places.proofs.Outside.{and_both}
use Rattle.places.proofs.anchor.child_anchor.Goals as goal

pub returns-then-g : goal.returns-then-g
unfolding child_anchor
returns-then-g c = rw (c.if-g.true, and_both)

pub returns-else-g : goal.returns-else-g
unfolding child_anchor
returns-else-g c = rw (c.if-g.false, and_both)
