use Rattle.std.proofs.Common.{arith}
use Rattle.text.proofs.SeenParts.{passed_none, passed_on}
use Rattle.text.proofs.past_plain.Goals as goal

pub loop-i-init : goal.loop-i-init
loop-i-init c = (c.requires, passed_none _ _ (omega arith))

pub loop-i-preserved : goal.loop-i-preserved
loop-i-preserved c = let l = c.loop-i in
    let w = l.invariant.0 in (
      record { on = omega arith; within = w.within; parts = omega arith },
      passed_on _ _ l.i l.invariant.1 32 (omega arith) (c.is_plain.ensures c.if-not-is_plain.false),
    )
