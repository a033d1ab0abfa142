use Rattle.typed.proofs.OneLine.{word_row, word_column, word_cell}
use Rattle.typed.proofs.line.named.Goals as goal

pub returns-then-eq : goal.returns-then-eq
returns-then-eq c = word_row _ _ c.as_slice.ensures c.if-eq.ensures

pub returns-then-eq-2 : goal.returns-then-eq-2
returns-then-eq-2 c = word_column _ _ _ c.as_slice.ensures c.as_slice-else-eq.ensures c.if-eq.ensures c.if-eq-2.ensures

pub returns-else-eq-2 : goal.returns-else-eq-2
returns-else-eq-2 c = word_cell _ _ _ c.as_slice.ensures c.as_slice-else-eq.ensures c.if-eq.ensures c.if-eq-2.ensures
