use Rattle.places.specs.Locating.{area_at}
use Rattle.places.proofs.area.area_at.Goals as goal

pub returns : goal.returns
unfolding area_at
returns c = rw (c.second_mark.ensures.value, c.second_mark-2.ensures.value)
