use native.Mathlib.Omega.{arith}
use Rattle.typed.proofs.OneLine.{part_short, cell_small, cell_wrong, cell_right}
use Rattle.typed.proofs.line.read_cell.Goals as goal

pub check_text-requires : goal.check_text-requires
check_text-requires c = omega (arith, part_short c.args.x.now c.args.start)

pub overflow_add-result : goal.overflow_add-result
overflow_add-result c = omega (arith, cell_small _ _ _ c.requires.0 c.requires.1 _ c.in-Err.ensures.value)

pub returns-in-Err : goal.returns-in-Err
returns-in-Err c = cell_wrong _ _ _ c.requires.0 c.requires.1 _ c.in-Err.ensures.value

pub returns-in-Ok : goal.returns-in-Ok
returns-in-Ok c = rw c.leveled.ensures (cell_right _ _ _ c.requires.0 c.requires.1 _ c.in-Ok.ensures.value)
