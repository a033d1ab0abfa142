use borrow.Author.Rules.{rules}
use mathlib.Core.Path.{◌≡◌, sym, ◌∙◌}
use lib.ListN.{length}
use Rattle.places.proofs.Checked.{check_refused, check_made}
use Rattle.common.specs.Choice.{pick}
use Rattle.frame.specs.Clauses.{large_of}
use Rattle.places.proofs.faults.check_sheet.Goals as goal
use Rattle.places.proofs.faults.check_sheet.Goals.{then-is_large, else-is_large}

pub returns-then-m-ne0 : goal.returns-then-m-ne0
returns-then-m-ne0 c =
    let d = c.measure_tree-m in
    record { value = check_refused _ _ _ _ _ d.ensures.value d.ensures.list c.if-m-ne0.true; list = d.ensures.list }

pub returns : goal.returns
returns c =
    let d = c.measure_tree-m in
    let long : length d.new.list ≡ 2048 = search rules in
    let number : c.if-is_large.number ≡ pick (large_of c.frame_of-f.result) 6 0 =
    elim c.if-is_large.branch [
      | then-is_large w ↦ w.number-is ∙ rw (sym c.is_large.ensures ∙ w.if-is_large.true)
      | else-is_large w ↦ w.number-is ∙ rw (sym c.is_large.ensures ∙ w.if-is_large.false)
    ] in
    record {
      value = check_made _ _ _ _ _ d.ensures.value d.ensures.list c.if-m-ne0.false long _ c.natural_at.ensures.value _ c.frame_of-f.ensures _ number;
      list = d.ensures.list;
    }
