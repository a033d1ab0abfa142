use native.Mathlib.Omega.{arith}
use mathlib.Core.List.{[], ◌∷◌}
use Rattle.paint.proofs.LinesLeft.{left_step, left_done, rows_more, rows_none}
use Rattle.paint.proofs.bytes.stack.Goals as goal

pub loop-preserved : goal.loop-preserved
loop-preserved c = let a = c.args in
    let k = c.loop in
    left_step _ _ (rows_more (a.byte ∷ []) a.n k.counter (omega arith) k.invariant)

pub returns : goal.returns
returns c = let a = c.args in
    let k = c.loop in
    left_done (rows_none (a.byte ∷ []) a.n k.counter (omega arith) k.invariant)
