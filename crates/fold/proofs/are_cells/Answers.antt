use native.Mathlib.Omega.{arith}
use borrow.Author.Rules.{part_to_end}
use Rattle.fold.proofs.Lists.{look_whole, look_other, look_next, look_end}
use Rattle.fold.proofs.are_cells.Goals as goal

pub returns-then-rest-ne1 : goal.returns-then-rest-ne1
returns-then-rest-ne1 c = let m = c.loop-at in λ q.
    look_other _ _ _ (m.invariant q) c.loop-at-test.true _ (part_to_end c.args.s.now m.at) c.if-rest-ne1.true

pub length_at-requires : goal.length_at-requires
length_at-requires c = let m = c.loop-at in
    omega (arith, (look_whole _ _ _ (m.invariant c.requires) c.loop-at-test.true _ (part_to_end c.args.s.now m.at)).0)

pub loop-at-preserved : goal.loop-at-preserved
loop-at-preserved c = let m = c.loop-at in λ q.
    rw c.length_at.ensures.value
    (look_next _ _ _ (m.invariant q) c.loop-at-test.true _ (part_to_end c.args.s.now m.at) c.if-rest-ne1.false)

pub returns : goal.returns
returns c = λ q. look_end _ _ _ (c.loop-at.invariant q) c.loop-at-test.false
