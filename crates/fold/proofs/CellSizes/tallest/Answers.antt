use Rattle.std.proofs.Common.{arith, sym, ◌∙◌}
use Rattle.std.proofs.lemmas.Grind.{common_steps}
use Rattle.common.proofs.Sums.{greatest_next, greatest_over}
use Rattle.fold.proofs.CellSizes.tallest.Goals as goal

pub loop-h-preserved : goal.loop-h-preserved
loop-h-preserved c = let l = c.loop-h in
    let e = greatest_next c.args.self.heights.now l.most l.h-index c.loop-h-test.true in grind (arith, common_steps, e)

pub returns : goal.returns
returns c = let l = c.loop-h in sym (greatest_over _ _ _ c.loop-h-test.false) ∙ l.invariant
