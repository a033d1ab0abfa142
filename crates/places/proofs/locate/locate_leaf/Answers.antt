use mathlib.Core.Path.{◌∙◌}
use Rattle.places.proofs.LeafAnswers.{area_small}
use Rattle.places.proofs.locate.locate_leaf.Goals as goal

pub answer_places-requires : goal.answer_places-requires
answer_places-requires c = (rw c.area_at-a.ensures (area_small _ _ _ _ c.requires.0 c.requires.1 c.allotted_at.ensures.small), c.requires.2)

pub returns : goal.returns
returns c = c.answer_places.ensures
    ∙ rw (c.area_at-a.ensures, c.allotted_at.ensures.value)
