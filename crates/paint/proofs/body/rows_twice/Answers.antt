use native.Mathlib.Omega.{arith}
use lib.ListN.{length-replicate}
use Rattle.paint.proofs.LinesLeft.{then_pasted}
use Rattle.paint.proofs.body.rows_twice.Goals as goal

pub returns : goal.returns
returns c = record {
  end_is = omega (arith, c.rows.ensures.end_is, c.rows-p.ensures.end_is);
  out_is = then_pasted _ _ _ _ _ _ _ _ _ (length-replicate _ _) c.rows-p.ensures
      c.rows.ensures.out_is;
}
