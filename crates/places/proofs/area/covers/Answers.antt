use mathlib.Core.Path.{◌∙◌}
use Rattle.places.specs.Places.{covers}
use Rattle.places.proofs.Outside.{and_both}
use Rattle.places.proofs.area.covers.Goals as goal

pub returns : goal.returns
unfolding covers
returns c = and_both c.among.result c.among-2.result ∙ rw (c.among.ensures, c.among-2.ensures)
