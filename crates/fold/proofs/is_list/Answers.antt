use borrow.Author.Tests.{ne_eqb}
use Rattle.fold.proofs.Lists.{list_not, list_ready, list_is}
use Rattle.fold.proofs.is_list.Goals as goal

pub are_cells-requires : goal.are_cells-requires
are_cells-requires c = list_ready _ c.requires c.if-tree-eq3.true

pub returns-then-tree-eq3 : goal.returns-then-tree-eq3
returns-then-tree-eq3 c = λ q. list_is _ q c.if-tree-eq3.true _ (c.are_cells.ensures (list_ready _ q c.if-tree-eq3.true))

pub returns-else-tree-eq3 : goal.returns-else-tree-eq3
returns-else-tree-eq3 c = λ q. rw (ne_eqb _ _ c.if-tree-eq3.false) (list_not _ q c.if-tree-eq3.false)
