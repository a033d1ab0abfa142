use Rattle.paint.proofs.Painted.{begun_lined, begun_bare}
use Rattle.paint.proofs.paint_before.Goals as goal

pub returns-then-lines : goal.returns-then-lines
returns-then-lines c = begun_lined _ _ _ _ _ _ _ c.if-lines.true _ _ _ _ c.print_top_line.ensures c.print_left-next.ensures

pub returns-else-lines : goal.returns-else-lines
returns-else-lines c = begun_bare _ _ _ _ _ _ _ c.if-lines.false _ _ c.rows.ensures.out_is
