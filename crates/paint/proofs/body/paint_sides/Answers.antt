use mathlib.Core.Path.{refl}
use Rattle.paint.proofs.Ground.{sides_painted}
use Rattle.paint.proofs.body.paint_sides.Goals as goal

pub returns : goal.returns
returns c = let a = c.args in
    record {
      end_is = refl;
      out_is = sides_painted a.s a.inner a.n a.out.now _ _ _ a.at a.stride
          c.requires.right_bound
          c.rows.ensures.out_is
          c.rows-2.ensures.out_is c.rows-3.ensures.out_is;
    }
