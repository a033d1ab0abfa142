use mathlib.Core.Path.{sym, ◌∙◌}
use native.Mathlib.Omega.{arith}
use Rattle.c_encoding.proofs.Fives.{five_step, five_done}
use Rattle.c_encoding.proofs.fields.put_sizes.Goals as goal

pub loop-i-preserved : goal.loop-i-preserved
loop-i-preserved c = let k = c.loop-i in
    k.invariant ∙ rw c.copy.ensures.out_is (five_step c.args.n k.i k.out _ _ c.loop-i-test.true)

pub returns : goal.returns
returns c = let k = c.loop-i in sym (k.invariant ∙ five_done c.args.n k.i k.out _ _ (omega arith))
