use native.Mathlib.Omega.{arith}
use lib.ListN.{replicate}
use Rattle.paint.proofs.LinesLeft.{left_step, left_done, rows_more, rows_none}
use Rattle.paint.proofs.bytes.rows.Goals as goal

pub loop-preserved : goal.loop-preserved
loop-preserved c = let a = c.args in
    let k = c.loop in
    let m = rows_more (replicate a.w a.byte) a.n k.counter (omega arith) k.invariant in
    rw c.fill.ensures.out_is (left_step _ _ m)

pub returns : goal.returns
returns c = let a = c.args in
    let k = c.loop in
    left_done (rows_none (replicate a.w a.byte) a.n k.counter (omega arith) k.invariant)
