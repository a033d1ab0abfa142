use mathlib.Core.Path.{refl}
use Rattle.walk.proofs.Roots.{root_ready, root_walks}
use Rattle.walk.proofs.walk_tree.Goals as goal

pub walk_group-r-requires : goal.walk_group-r-requires
walk_group-r-requires c = root_ready _ _ _ _ _ c.requires _ _ refl refl _ refl

pub returns : goal.returns
returns c = λ q. root_walks _ _ _ _ _ q _ _ refl refl _ refl _ _ _ _ _ (c.walk_group-r.ensures
    (root_ready _ _ _ _ _ q _ _ refl refl _ refl))
