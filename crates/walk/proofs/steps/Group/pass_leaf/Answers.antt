use mathlib.Core.Path.{refl}
use Rattle.walk.proofs.Pieces.{leaf_passed}
use Rattle.walk.proofs.steps.Group.pass_leaf.Goals as goal

pub returns : goal.returns
returns c = let a = c.args in
    leaf_passed a.self a.g a.p a.along.now a.beside.now _ c.requires _ _ refl _ _ _ _ _ _ refl refl
    c.put_leaf-next.ensures c.give_back.ensures.0 c.give_back.ensures.1 _ c.advance.ensures
