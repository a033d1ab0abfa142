use Rattle.common.proofs.Copies.{copied_more, copied_wrote}
use Rattle.c_encoding.proofs.lists.widen_bytes.Goals as goal

pub loop-i-preserved : goal.loop-i-preserved
loop-i-preserved c = copied_more _ _ _ _ _ c.loop-i.invariant c.loop-i-test.true _ c.from.ensures

pub returns : goal.returns
returns c = (copied_wrote _ _ _ _ _ c.loop-i.invariant c.loop-i-test.false).out_is
