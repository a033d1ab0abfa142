use mathlib.Core.Path.{sym, ◌∙◌}
use native.Mathlib.Omega.{arith}
use Rattle.places.proofs.LeafAnswers.{answer_covered, answer_other}
use Rattle.places.proofs.Owners.{covers_in}
use Rattle.places.proofs.area.answer_place.Goals as goal

pub overflow_sub-l : goal.overflow_sub-l
overflow_sub-l c = let h = covers_in _ _ _ (sym c.covers.ensures ∙ c.if-covers.true) in omega (arith, h.lines.low)

pub overflow_sub-k : goal.overflow_sub-k
overflow_sub-k c = let h = covers_in _ _ _ (sym c.covers.ensures ∙ c.if-covers.true) in omega (arith, h.columns.low)

pub returns-then-covers : goal.returns-then-covers
returns-then-covers c = answer_covered _ _ _ _ _ c.line_of-line.ensures c.column_of-column.ensures
    (sym c.covers.ensures ∙ c.if-covers.true)

pub returns-else-covers : goal.returns-else-covers
returns-else-covers c = answer_other _ _ _ _ _ c.line_of-line.ensures c.column_of-column.ensures (sym c.covers.ensures
    ∙ c.if-covers.false)
