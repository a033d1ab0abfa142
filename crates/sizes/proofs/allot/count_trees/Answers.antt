use borrow.Author.Rules.{part_to_end}
use native.Mathlib.Omega.{arith}
use Rattle.sizes.proofs.Counts.{whole, next, ends}
use Rattle.sizes.proofs.allot.count_trees.Goals as goal

pub length_at-requires : goal.length_at-requires
length_at-requires c = let m = c.loop-at in
    omega (arith, (whole _ _ _ _ (m.invariant.1 c.requires) c.loop-at-test.true _ (part_to_end c.args.s.now m.at)).0)

pub loop-at-preserved : goal.loop-at-preserved
loop-at-preserved c = let m = c.loop-at in (
  omega (arith, m.invariant.0),
  λ q. rw c.length_at.ensures.value (next _ _ _ _ (m.invariant.1 q) c.loop-at-test.true _ (part_to_end c.args.s.now m.at)),
)

pub returns : goal.returns
returns c = λ q. ends _ _ _ _ (c.loop-at.invariant.1 q) c.loop-at-test.false
