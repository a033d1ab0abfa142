use mathlib.Core.Path.{refl}
use native.Mathlib.Omega.{arith}
use Rattle.entries.proofs.Passing.{left_first, leaves_left_none, left_asks, leaves_left_on, forward}
use borrow.Author.Rules.{rules}
use Rattle.entries.proofs.paint_leaves.Goals as goal

pub loop-i-init : goal.loop-i-init
loop-i-init c = (omega arith, refl, λ q. left_first _ _ _ _ _ _ q _)

pub paint_leaf-i-requires : goal.paint_leaf-i-requires
paint_leaf-i-requires c = left_asks _ _ _ _ _ _ c.requires _ _ _
    (c.loop-i.invariant.2 c.requires) c.loop-i-test.true _
    c.loop-i.invariant.1

pub overflow_add-i : goal.overflow_add-i
overflow_add-i c = let m = c.loop-i in
    omega (
      arith,
      forward (m.invariant.2 c.requires).going c.loop-i-test.true _ (c.paint_leaf-i.ensures
          (left_asks _ _ _ _ _ _ c.requires _ _ _ (m.invariant.2 c.requires) c.loop-i-test.true _ m.invariant.1)).0,
    )

pub loop-i-smaller : goal.loop-i-smaller
loop-i-smaller c = let m = c.loop-i in
    omega (
      arith,
      forward (m.invariant.2 c.requires).going c.loop-i-test.true _ (c.paint_leaf-i.ensures
          (left_asks _ _ _ _ _ _ c.requires _ _ _ (m.invariant.2 c.requires) c.loop-i-test.true _ m.invariant.1)).0,
    )

pub loop-i-preserved : goal.loop-i-preserved
loop-i-preserved c = let m = c.loop-i in
    let t = c.loop-i-test.true in (
      omega (
        arith,
        forward (m.invariant.2 c.requires).going t _ (c.paint_leaf-i.ensures
            (left_asks _ _ _ _ _ _ c.requires _ _ _ (m.invariant.2 c.requires) t _ m.invariant.1)).0,
      ),
      search rules,
      λ q.
          let v = c.paint_leaf-i.ensures (left_asks _ _ _ _ _ _ q _ _ _ (m.invariant.2 q) t _ m.invariant.1) in
          leaves_left_on _ _ _ _ _ _ q _ _ _ (m.invariant.2 q) t _ m.invariant.1 _ v.1 _ v.0,
    )

pub returns : goal.returns
returns c = λ q. leaves_left_none _ _ _ _ _ _ q _ _ _ (c.loop-i.invariant.2 q) c.loop-i-test.false
