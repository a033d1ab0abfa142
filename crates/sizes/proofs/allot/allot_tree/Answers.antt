use mathlib.Core.Path.{◌≡◌, refl}
use lib.ListN.{length}
use native.Mathlib.Omega.{arith}
use Rattle.tree.proofs.Fronts.{front_asks, end_in}
use Rattle.sizes.proofs.Allotted.{leaf_gives, group_ready, group_gives}
use Rattle.sizes.proofs.WholeTree.{root_kid, root_gives}
use borrow.Author.Rules.{rules}
use Rattle.sizes.proofs.allot.allot_tree.Goals as goal

pub read_front-t-requires : goal.read_front-t-requires
read_front-t-requires c = front_asks c.requires.tree _ c.requires.is

pub returns-then-t : goal.returns-then-t
returns-then-t c = λ q.
    let long : length c.args.list.now ≡ 2048 = search rules in
    let z = c.natural_at-z.ensures.value in
    root_gives _ _ _ q long _ z _ _
    (leaf_gives _ _ _ _ _ (root_kid _ _ _ q long _ z) _ c.read_front-t.ensures c.if-t.true _ _
    (omega arith) c.store_allotted.ensures)

pub slice_bounds-allot_group-end : goal.slice_bounds-allot_group-end
slice_bounds-allot_group-end c = omega (arith, (end_in c.requires.tree _ c.requires.is _ c.read_front-t.ensures).1)

pub allot_group-requires : goal.allot_group-requires
allot_group-requires c = let long : length c.args.list.now ≡ 2048 = search rules in
    group_ready _ _ _ _ _ (root_kid _ _ _ c.requires long _ c.natural_at-z.ensures.value) _
    c.read_front-t.ensures _ refl c.if-t.false

pub returns-else-t : goal.returns-else-t
returns-else-t c = λ q.
    let long : length c.args.list.now ≡ 2048 = search rules in
    let z = c.natural_at-z.ensures.value in
    let h = c.if-t.false in
    root_gives _ _ _ q long _ z _ _
    (group_gives _ _ _ _ _ (root_kid _ _ _ q long _ z) _ c.read_front-t.ensures _ refl h _ _
    (c.allot_group.ensures (group_ready _ _ _ _ _ (root_kid _ _ _ q long _ z) _ c.read_front-t.ensures _ refl h)))
