use mathlib.Core.Path.{◌≡◌}
use native.Mathlib.Omega.{arith}
use borrow.Author.Rules.{rules}
use lib.ListN.{length}
use Rattle.splits.proofs.Reach.{tells_on, tells_stops}
use Rattle.splits.proofs.SplitList.positions_below.Goals as goal

pub returns-then-end-next : goal.returns-then-end-next
returns-then-end-next c = let list = c.args.self.now in
    let long : length list.pieces ≡ 512 = search rules in
    tells_stops list c.loop-i.invariant (omega arith) (omega arith) (λ _. omega arith)

pub loop-i-preserved : goal.loop-i-preserved
loop-i-preserved c = let list = c.args.self.now in
    let long : length list.pieces ≡ 512 = search rules in
    let l = c.loop-i in
    tells_on l.invariant (omega arith) (omega arith) (omega arith) _ (omega arith) (omega arith)

pub returns : goal.returns
returns c = let list = c.args.self.now in
    let long : length list.pieces ≡ 512 = search rules in
    let l = c.loop-i in
    let e : l.i ≡ list.count = omega arith in
    rw e at (tells_stops list l.invariant (omega arith) (omega arith) (λ h. omega arith))
