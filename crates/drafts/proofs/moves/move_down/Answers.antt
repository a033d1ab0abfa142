use Rattle.drafts.proofs.MovedBytes.{down_none, down_more, down_all}
use Rattle.drafts.proofs.moves.move_down.Goals as goal

pub loop-j-init : goal.loop-j-init
loop-j-init c = down_none _ _ _ c.requires

pub loop-j-preserved : goal.loop-j-preserved
loop-j-preserved c = down_more _ _ _ c.requires _ _ c.loop-j.invariant c.loop-j-test.true

pub shape_of-s : goal.shape_of-s
shape_of-s c = c.loop-j.invariant.long

pub returns : goal.returns
returns c = down_all _ _ _ c.requires _ _ c.loop-j.invariant c.loop-j-test.false
