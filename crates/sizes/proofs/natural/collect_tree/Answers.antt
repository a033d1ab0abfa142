use mathlib.Core.Path.{refl}
use native.Mathlib.Omega.{arith}
use Rattle.tree.proofs.Fronts.{front_asks, end_in}
use Rattle.sizes.proofs.Naturals.{root_kid, leaf_asks, leaf_gives, group_ready, group_gives}
use Rattle.sizes.proofs.natural.collect_tree.Goals as goal

pub read_front-t-requires : goal.read_front-t-requires
read_front-t-requires c = front_asks c.requires.tree _ c.requires.is

pub slice_bounds-inner-end : goal.slice_bounds-inner-end
slice_bounds-inner-end c = omega (arith, (end_in c.requires.tree _ c.requires.is _ c.read_front-t.ensures).1)

pub collect_leaf-requires : goal.collect_leaf-requires
collect_leaf-requires c = leaf_asks _ _ c.of-a.ensures _ _ (root_kid c.requires) _ c.read_front-t.ensures _ refl
    c.if-t.true (omega (arith, c.well_formed.0))

pub returns-then-t : goal.returns-then-t
returns-then-t c = λ q.
    leaf_gives _ _ c.of-a.ensures _ _ (root_kid q) _ c.read_front-t.ensures _
    refl c.if-t.true _ _ _ c.collect_leaf.ensures.value c.collect_leaf.ensures.stored

pub collect_group-requires : goal.collect_group-requires
collect_group-requires c = group_ready _ _ c.of-a.ensures _ _ (root_kid c.requires) _
    c.read_front-t.ensures _ refl c.if-t.false

pub returns-else-t : goal.returns-else-t
returns-else-t c = λ q.
    let h = c.if-t.false in
    group_gives _ _ c.of-a.ensures _ _ (root_kid q) _ c.read_front-t.ensures _ refl h _ _ _
    (c.collect_group.ensures (group_ready _ _ c.of-a.ensures _ _ (root_kid q) _ c.read_front-t.ensures _ refl h))
