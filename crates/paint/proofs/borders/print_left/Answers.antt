use mathlib.Core.Path.{◌∙◌}
use native.Mathlib.Omega.{arith}
use lib.ListN.{get_or}
use Rattle.splits.specs.Splits.{named}
use Rattle.paint.specs.Clauses.{left_of}
use Rattle.paint.proofs.Crossed.{marks_crossed}
use Rattle.paint.proofs.borders.print_left.Goals as goal

pub returns : goal.returns
unfolding left_of
returns c = let a = c.args in
    let m = a.b.marks in
    record {
      end_is = c.marked_rows-next.ensures.end_is;
      out_is = c.cross.ensures
          ∙ rw c.marked_rows-next.ensures.out_is
          (marks_crossed (named a.n a.pieces.now) a.out.now a.at a.stride a.n a.w (get_or m 13 0) (get_or m 2 0) (omega arith));
    }
