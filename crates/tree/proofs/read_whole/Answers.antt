use Rattle.std.proofs.Common.{sym, ◌∙◌, arith}
use Rattle.std.proofs.lemmas.Result.{err_from_is_err_and}
use Rattle.tree.proofs.Steps.{tree_root, count_sized}
use Rattle.tree.proofs.read_whole.Goals as goal

pub returns-in_err-read_cell : goal.returns-in_err-read_cell
returns-in_err-read_cell c =
    let p = err_from_is_err_and c.from_residual.result c.from_residual.ensures.1 in
    rw (p.1, p.2) (tree_root _ _ (omega arith) (omega arith) _ c.in_err-read_cell.ensures)

pub returns-in-Leaf : goal.returns-in-Leaf
returns-in-Leaf c = let k = rw c.in-Leaf.is at c.in_ok-read_cell.ensures in tree_root _ _ (omega arith) (omega arith) _ k.is

pub returns-in-Group : goal.returns-in-Group
returns-in-Group c = sym (count_sized _ _) ∙ tree_root _ _ (omega arith) (omega arith) _ c.read_group.ensures
