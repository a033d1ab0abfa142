use Rattle.paint.proofs.Painted.{ended_closed, ended_open, ended_bare}
use Rattle.paint.proofs.paint_after.Goals as goal

pub returns-then-b : goal.returns-then-b
returns-then-b c = ended_closed _ _ _ _ _ _ c.if-lines.true c.if-b.true _ _
    c.print_right.ensures c.print_bottom_line.ensures

pub returns-else-b : goal.returns-else-b
returns-else-b c = ended_open _ _ _ _ _ _ c.if-lines.true c.if-b.false _ c.print_right.ensures

pub returns-else-lines : goal.returns-else-lines
returns-else-lines c = ended_bare _ _ _ _ _ _ c.if-lines.false
