use Rattle.std.proofs.Common.{◌≡◌, length, arith}
use Rattle.text.proofs.FirstFeed.{onward_here, onward_on, onward_end}
use Rattle.text.proofs.next_feed_bytewise.Goals as goal

pub returns-then-s-i-eq10 : goal.returns-then-s-i-eq10
returns-then-s-i-eq10 c = onward_here _ _ _ c.loop-i.invariant (omega arith) c.if-s-i-eq10.true

pub loop-i-preserved : goal.loop-i-preserved
loop-i-preserved c = onward_on _ _ _ c.loop-i.invariant (omega arith) c.if-s-i-eq10.false

pub returns : goal.returns
returns c = let l = c.loop-i in let e : l.i ≡ length c.args.s.now = omega (arith, l.invariant.within) in
    rw e at (onward_end _ _ _ l.invariant (omega arith))
