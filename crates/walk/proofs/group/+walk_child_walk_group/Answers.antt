use Rattle.std.proofs.Common.{arith, refl, ◌∙◌}
use Rattle.walk.proofs.Turns.{can_prepare}
use Rattle.walk.proofs.Leaves.{can_pass, leaf_passes}
use Rattle.walk.proofs.Groups.{below_asks, enter_asks, inner_in, inner_shorter, same_ready, same_asks, same_passes, other_ready, other_asks}
use Rattle.walk.proofs.Groups.{other_passes}
use Rattle.walk.proofs.Loops.{begins, turn, next, ends}
use Rattle.walk.proofs.group.+walk_child_walk_group.Goals as goal

-- ---- the next child

pub walk_child-prepare_child-p-requires : goal.walk_child-prepare_child-p-requires
walk_child-prepare_child-p-requires t c = let q = c.requires in can_prepare q.state q.tree q.later q.rest_is _ _ _ _ _ _ _ q.ready

pub walk_child-pass_leaf-requires : goal.walk_child-pass_leaf-requires
walk_child-pass_leaf-requires t c =
    let q = c.requires in
    let p = c.prepare_child-p in
    can_pass q.state q.tree q.later q.rest_is _ _ _ _ _ _ _ q.ready _ _ p.ensures p.auto.along c.if-p.true

pub walk_child-returns-then-p : goal.walk_child-returns-then-p
walk_child-returns-then-p t c = λ q.
    let p = c.prepare_child-p in
    leaf_passes q.state q.tree q.later q.rest_is _ _ _ _ _ _ _ q.ready _ _ p.ensures p.auto.along c.if-p.true _ _ _ _ _ c.pass_leaf.ensures refl

-- ---- a group: its bytes, and its part of the list along the axis

pub walk_child-below-y-requires : goal.walk_child-below-y-requires
walk_child-below-y-requires t c = let p = c.prepare_child-p in below_asks c.requires p.ensures p.auto.along c.if-p.false

pub walk_child-enter-z-requires : goal.walk_child-enter-z-requires
walk_child-enter-z-requires t c = let p = c.prepare_child-p in enter_asks c.requires p.ensures p.auto.along c.if-p.false

pub walk_child-enter-z-requires-2 : goal.walk_child-enter-z-requires-2
walk_child-enter-z-requires-2 t c = let p = c.prepare_child-p in enter_asks c.requires p.ensures p.auto.along c.if-p.false

pub walk_child-slice_bounds-walk_group-end : goal.walk_child-slice_bounds-walk_group-end
walk_child-slice_bounds-walk_group-end t c = let p = c.prepare_child-p in omega (arith, inner_in c.requires p.ensures p.auto.along c.if-p.false)

pub walk_child-slice_bounds-walk_group-end-2 : goal.walk_child-slice_bounds-walk_group-end-2
walk_child-slice_bounds-walk_group-end-2 t c = let p = c.prepare_child-p in omega (arith, inner_in c.requires p.ensures p.auto.along c.if-p.false)

-- ---- a group across as its parent is

pub walk_child-walk_group-r-requires : goal.walk_child-walk_group-r-requires
walk_child-walk_group-r-requires t c =
    let p = c.prepare_child-p in (
      omega (arith, c.decreases, inner_shorter c.requires p.ensures p.auto.along c.if-p.false),
      same_ready c.requires p.ensures p.auto.along c.if-p.false c.if-p-x.true _ refl _ c.below-y.ensures _ c.enter-z.ensures,
    )

pub walk_child-pass_group-requires : goal.walk_child-pass_group-requires
walk_child-pass_group-requires t c =
    let p = c.prepare_child-p in
    let w = c.walk_group-r in
    let q = c.requires in
    let ready = same_ready q p.ensures p.auto.along c.if-p.false c.if-p-x.true _ refl _ c.below-y.ensures _ c.enter-z.ensures in
    same_asks q p.ensures p.auto.along c.if-p.false c.if-p-x.true _ refl _ c.below-y.ensures _ c.enter-z.ensures _ _ _ _ _ (w.ensures ready) w.auto.along
    w.auto.beside

pub walk_child-returns-then-p-x : goal.walk_child-returns-then-p-x
walk_child-returns-then-p-x t c = λ q.
    let p = c.prepare_child-p in
    let w = c.walk_group-r in
    let ready = same_ready q p.ensures p.auto.along c.if-p.false c.if-p-x.true _ refl _ c.below-y.ensures _ c.enter-z.ensures in
    same_passes q p.ensures p.auto.along c.if-p.false c.if-p-x.true _ refl _ c.below-y.ensures _ c.enter-z.ensures _ _ _ _ _ (w.ensures ready) w.auto.along
    w.auto.beside _ _ refl c.pass_group.ensures.1 _ c.pass_group.ensures.0 refl

-- ---- a group across where its parent is not, or the other way round

pub walk_child-walk_group-r-requires-2 : goal.walk_child-walk_group-r-requires-2
walk_child-walk_group-r-requires-2 t c =
    let p = c.prepare_child-p in (
      omega (arith, c.decreases, inner_shorter c.requires p.ensures p.auto.along c.if-p.false),
      other_ready c.requires p.ensures p.auto.along c.if-p.false c.if-p-x.false _ refl _ c.below-y.ensures _ c.enter-z-2.ensures,
    )

pub walk_child-pass_group-requires-2 : goal.walk_child-pass_group-requires-2
walk_child-pass_group-requires-2 t c =
    let p = c.prepare_child-p in
    let w = c.walk_group-r-2 in
    let q = c.requires in
    let ready = other_ready q p.ensures p.auto.along c.if-p.false c.if-p-x.false _ refl _ c.below-y.ensures _ c.enter-z-2.ensures in
    rw c.exchanged.ensures
    (other_asks q p.ensures p.auto.along c.if-p.false c.if-p-x.false _ refl _ c.below-y.ensures _ c.enter-z-2.ensures _ _ _ _ _ (w.ensures ready)
    w.auto.beside w.auto.along)

pub walk_child-returns : goal.walk_child-returns
walk_child-returns t c = λ q.
    let p = c.prepare_child-p in
    let w = c.walk_group-r-2 in
    let ready = other_ready q p.ensures p.auto.along c.if-p.false c.if-p-x.false _ refl _ c.below-y.ensures _ c.enter-z-2.ensures in
    let e = c.exchanged.ensures in
    other_passes q p.ensures p.auto.along c.if-p.false c.if-p-x.false _ refl _ c.below-y.ensures _ c.enter-z-2.ensures _ _ _ _ _ (w.ensures ready)
    w.auto.beside w.auto.along _ _ refl (rw e at c.pass_group-2.ensures.1) _ (rw e at c.pass_group-2.ensures.0) refl

-- ---- the group's children

pub walk_group-loop-g-init : goal.walk_group-loop-g-init
walk_group-loop-g-init t c = (refl, refl, refl, λ q. begins q.state _ _ _ _ _ _ _ _ q.ready q.none_joined)

pub walk_group-walk_child-g-requires : goal.walk_group-walk_child-g-requires
walk_group-walk_child-g-requires t c =
    let m = c.loop-g in (
      omega (arith, c.decreases),
      turn c.requires.state _ _ _ _ _ _ _ _ _ _ (m.invariant.3 c.requires) c.loop-g-test.true _ m.invariant.2,
    )

pub walk_group-loop-g-smaller : goal.walk_group-loop-g-smaller
walk_group-loop-g-smaller t c =
    let m = c.loop-g in
    let v = c.walk_child-g.ensures (turn c.requires.state _ _ _ _ _ _ _ _ _ _ (m.invariant.3 c.requires) c.loop-g-test.true _ m.invariant.2) in
    omega (arith, v.forward, v.ready.within)

pub walk_group-loop-g-preserved : goal.walk_group-loop-g-preserved
walk_group-loop-g-preserved t c =
    let d = c.walk_child-g in
    let m = c.loop-g in (
      d.auto.along ∙ m.invariant.0,
      d.auto.beside ∙ m.invariant.1,
      d.auto.leaves ∙ m.invariant.2,
      λ q. next q.state _ _ _ _ _ _ _ _ _ _ (m.invariant.3 q) c.loop-g-test.true _ m.invariant.2 _ _ _ _
          (d.ensures (turn q.state _ _ _ _ _ _ _ _ _ _ (m.invariant.3 q) c.loop-g-test.true _ m.invariant.2)) m.invariant.0 m.invariant.2,
    )

pub walk_group-returns : goal.walk_group-returns
walk_group-returns t c = λ q. ends q.state _ _ _ _ _ _ _ _ _ _ (c.loop-g.invariant.3 q) c.loop-g-test.false c.loop-g.invariant.0 _ refl
