use native.Mathlib.Omega.{arith}
use Rattle.fold.proofs.Running.{small_next, begin_ran, turn_ran, end_ran}
use Rattle.fold.proofs.CellSizes.run.Goals as goal

pub loop-i-init : goal.loop-i-init
loop-i-init c = (c.start-r.ensures.small, λ q. rw c.start-r.ensures.value (begin_ran _ _ _ q _))

pub loop-i-preserved : goal.loop-i-preserved
loop-i-preserved c = let l = c.loop-i in (
  rw c.next-r.ensures (small_next l.i l.r _ _ _ _ l.invariant.0 c.requires.thin (omega arith) (omega arith) (omega arith)),
  λ q. rw c.next-r.ensures (turn_ran _ _ _ q _ l.i l.r c.loop-i-test.true (l.invariant.1 q)),
)

pub returns-clause-runs : goal.returns-clause-runs
returns-clause-runs c = let l = c.loop-i in λ q. end_ran _ _ _ q _ l.i l.r c.loop-i-test.false (l.invariant.1 q)
