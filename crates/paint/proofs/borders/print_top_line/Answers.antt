use mathlib.Core.Path.{◌∙◌}
use lib.ListN.{get_or}
use Rattle.splits.specs.Splits.{named}
use Rattle.block.specs.Block.{edge}
use Rattle.paint.specs.Clauses.{top_of}
use Rattle.paint.proofs.Crossed.{row_crossed}
use Rattle.paint.proofs.borders.print_top_line.Goals as goal

pub returns : goal.returns
unfolding top_of
returns c = let a = c.args in
    let m = a.b.marks in
    c.cross.ensures
    ∙ rw c.border.ensures
    (row_crossed (named a.w a.pieces.now) (edge 1 a.b.right (get_or m 7 0)) a.out.now a.at a.w (get_or m 11 0) (get_or m 0 0) (get_or m 6 0))
