use mathlib.Core.Path.{ap, ◌∙◌}
use Rattle.fold.specs.declared.Folded.{Folded}
use Rattle.fold.proofs.Tries.{missed_asks, answer_short, answer_done}
use Rattle.fold.proofs.CellSizes.fold.Goals as goal

pub missed-requires : goal.missed-requires
missed-requires c = missed_asks _ _ _ _ _ _ c.requires _ c.tallest-least.ensures _
    c.find_height-f.ensures

pub returns-then-columns-n : goal.returns-then-columns-n
returns-then-columns-n c = λ q.
    let out = c.args.columns.now in
    ap (λ (a : Folded). record { answer = a; memory = out }) c.refused.ensures ∙ answer_short _ _ _ _ _ _ q _ c.tallest-least.ensures _
    c.find_height-f.ensures c.run-r.result (c.run-r.ensures.runs q.known) out c.if-columns-n.true

pub returns : goal.returns
returns c = λ q.
    answer_done _ _ _ _ _ _ q _ c.tallest-least.ensures _ c.find_height-f.ensures c.run-r.result
    (c.run-r.ensures.runs q.known) c.args.columns.now c.if-columns-n.false _
    c.write_columns.ensures _ c.missed.ensures
