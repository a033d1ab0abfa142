use lib.ListN.{length}
use mathlib.Core.Path.{◌≡◌}
use native.Mathlib.Omega.{arith}
use Rattle.splits.proofs.Reach.{goes_on, goes_stops}
use Rattle.splits.proofs.cut.reach_in.Goals as goal

pub returns-then-end-next : goal.returns-then-end-next
returns-then-end-next c = goes_stops c.loop-i.invariant (omega arith) (λ _. omega arith)

pub loop-i-preserved : goal.loop-i-preserved
loop-i-preserved c = goes_on c.loop-i.invariant (omega arith) _ (omega arith) (omega arith) (omega arith) (omega arith)

pub returns : goal.returns
returns c = let l = c.loop-i in
    let e : l.i ≡ length c.args.pieces.now = omega arith in
    rw e at (goes_stops l.invariant (omega arith) (λ h. omega arith))
