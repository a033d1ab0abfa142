use Rattle.std.proofs.Common.{arith}
use Rattle.text.proofs.SeenParts.{reached_byte}
use Rattle.text.proofs.seen.Seen.in_bytes.Goals as goal

pub loop-i-preserved : goal.loop-i-preserved
loop-i-preserved c = let l = c.loop-i in
    reached_byte c.args.s.now l.i l.r l.invariant (omega arith) _ c.at_byte-r.ensures
