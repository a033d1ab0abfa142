use Rattle.std.proofs.Common.{arith}
use Rattle.text.proofs.FirstFeed.{onward_word, onward_marked}
use Rattle.text.proofs.next_feed_near.Goals as goal

pub returns-then-marked-ne0 : goal.returns-then-marked-ne0
returns-then-marked-ne0 c = let p = c.loop-i.invariant in
    let w = p.within in
    (onward_marked _ _ _ p (omega arith) _ c.feeds_at-marked.ensures (omega arith)).1

pub loop-i-preserved : goal.loop-i-preserved
loop-i-preserved c = let p = c.loop-i.invariant in
    let w = p.within in
    onward_word _ _ _ p (omega arith) _ c.feeds_at-marked.ensures c.if-marked-ne0.false
