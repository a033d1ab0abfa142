use Rattle.std.proofs.Common.{refl, sym, ◌∙◌}
use Rattle.drafts.proofs.Scans.{zero_here, zero_not, zero_end}
use Rattle.drafts.proofs.scan.all_zero.Goals as goal

pub loop-b-init : goal.loop-b-init
loop-b-init c = refl

pub returns-then-b-ne0 : goal.returns-then-b-ne0
returns-then-b-ne0 c = let l = c.loop-b in sym (l.invariant ∙ zero_not _ l.b-index c.loop-b-test.true c.if-b-ne0.true)

pub loop-b-preserved : goal.loop-b-preserved
loop-b-preserved c = let l = c.loop-b in l.invariant ∙ zero_here _ l.b-index c.loop-b-test.true c.if-b-ne0.false

pub returns : goal.returns
returns c = let l = c.loop-b in sym (l.invariant ∙ zero_end _ l.b-index c.loop-b-test.false)
