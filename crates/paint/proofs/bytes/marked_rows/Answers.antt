use native.Mathlib.Numerals.{add-one}
use native.Mathlib.Omega.{arith}
use Rattle.paint.proofs.LinesLeft.{rows_step, rows_done}
use Rattle.paint.proofs.bytes.marked_rows.Goals as goal

pub loop-p-preserved : goal.loop-p-preserved
loop-p-preserved c = let k = c.loop-p in
    (k.invariant.0, rw (c.fill.ensures.out_is, add-one k.p) (rows_step k.invariant.1 (omega (arith, k.invariant.0))))

pub returns : goal.returns
returns c = let k = c.loop-p in rows_done c.requires.0 k.invariant.1 (omega (arith, k.invariant.0))
