use Rattle.typed.proofs.OneLine.{plain_group, plain_quoted, plain_bare}
use Rattle.typed.proofs.line.read_node.Goals as goal

pub returns-in-Cell : goal.returns-in-Cell
returns-in-Cell c = plain_quoted _ _ c.requires.here.0 c.requires.here.1 _ c.named.ensures c.in-Cell.is _ c.if-x-n-eq39.true c.read_cell.ensures

pub returns-in-Cell-2 : goal.returns-in-Cell-2
returns-in-Cell-2 c = plain_bare _ _ c.requires.here.0 c.requires.here.1 _ c.named.ensures c.in-Cell-2.is _ c.if-x-n-eq39.false c.read_cell-in-Cell-2.ensures

pub returns-in_default : goal.returns-in_default
returns-in_default c = rw c.leveled.ensures
    (plain_group _ _ c.requires.here.0 c.requires.here.1 _ c.named.ensures c.in_default.not-Cell)
