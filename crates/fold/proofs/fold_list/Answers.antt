use mathlib.Core.Path.{◌≡◌, ap, ◌∙◌}
use Rattle.sizes.specs.Input.{input_of}
use Rattle.fold.specs.Answers.{no_folds, fold_of}
use Rattle.fold.specs.declared.Folded.{Folded}
use Rattle.fold.proofs.Answered.{fold_parts, fold_refused, fold_ready, fold_other, fold_few, fold_many, fold_wide, fold_narrow, fold_made}
use borrow.Author.Rules.{rules}
use Rattle.fold.proofs.fold_list.Goals as goal
use Rattle.fold.proofs.fold_list.Goals.{then-not-is_list-via-then-not-is_list, then-not-is_list-via-else-not-is_list+then-n-lt2}
use Rattle.fold.proofs.fold_list.Goals.{then-not-is_list-via-else-not-is_list+else-n-lt2+then-n-gt201}

pub returns-then-m-ne0 : goal.returns-then-m-ne0
returns-then-m-ne0 c =
    let both = fold_parts (ap (λ (a : Folded). record { answer = a; memory = c.args.columns.now })
    c.refused.ensures
    ∙ fold_refused _ _ _ _ c.measure_tree-m.ensures.value c.measure_tree-m.ensures.list _ _ _ c.if-m-ne0.true) in
    record { value = both.0; listed = both.1 }

pub is_list-requires : goal.is_list-requires
is_list-requires c = fold_ready _ _ _ _ c.measure_tree-m.ensures.value c.measure_tree-m.ensures.list 0 0 c.args.columns.now c.if-m-ne0.false

pub returns-then-not-is_list : goal.returns-then-not-is_list
returns-then-not-is_list c =
    let out = c.args.columns.now in
    let m = c.measure_tree-m.ensures in
    let h = c.if-m-ne0.false in
    let y = c.is_list.ensures in
    let is_15 : no_folds 15 out ≡ fold_of (input_of c.args.settings.now c.args.tree.now) c.args.width c.args.budget out =
    (elim c.then-not-is_list.branch [
      | then-not-is_list-via-then-not-is_list w ↦ fold_other _ _ _ _ m.value m.list _ _ _ h _ y w.if-not-is_list.true
      | then-not-is_list-via-else-not-is_list+then-n-lt2 w ↦ fold_few _ _ _ _ m.value m.list _ _ _ h _ y w.if-not-is_list.false w.if-n-lt2.true
      | then-not-is_list-via-else-not-is_list+else-n-lt2+then-n-gt201 w ↦
          fold_many _ _ _ _ m.value m.list _ _ _ h _ y w.if-not-is_list.false w.if-n-gt201.true
    ]) in
    let both = fold_parts (ap (λ (y : Folded). record { answer = y; memory = out }) c.refused-then-not-is_list.ensures ∙ is_15) in
    record { value = both.0; listed = both.1 }

pub returns-then-width-from : goal.returns-then-width-from
returns-then-width-from c =
    let out = c.args.columns.now in
    let both = fold_parts (ap (λ (y : Folded). record { answer = y; memory = out }) c.refused-then-width-from.ensures
    ∙ fold_wide _ _ _ _ c.measure_tree-m.ensures.value c.measure_tree-m.ensures.list _ _ _
    c.if-m-ne0.false _ c.is_list.ensures c.if-not-is_list.false c.if-n-lt2.false c.if-n-gt201.false
    c.numbers_of-ws.result c.numbers_of-hs.result (search rules) (search rules) c.numbers_of-ws.ensures c.numbers_of-hs.ensures
    (rw c.from.ensures at c.if-width-from.true)) in
    record { value = both.0; listed = both.1 }

pub fold-requires : goal.fold-requires
fold-requires c = fold_narrow _ _ _ _ c.measure_tree-m.ensures.value c.measure_tree-m.ensures.list _ 0 c.args.columns.now c.if-m-ne0.false
    _ c.is_list.ensures c.if-not-is_list.false c.if-n-lt2.false c.if-n-gt201.false
    c.numbers_of-ws.result c.numbers_of-hs.result (search rules) (search rules) c.numbers_of-ws.ensures c.numbers_of-hs.ensures
    (rw c.from.ensures at c.if-width-from.false) _ c.separator.ensures.value _ c.from-2.ensures

pub returns : goal.returns
returns c =
    let l = c.args.columns.now in
    let n = rw c.from.ensures at c.if-width-from.false in
    let s = c.separator.ensures.value in
    let o = c.from-2.ensures in
    let y = c.if-not-is_list.false in
    let both = fold_parts (fold_made _ _ _ _ c.measure_tree-m.ensures.value c.measure_tree-m.ensures.list _ _ l c.if-m-ne0.false _ c.is_list.ensures y
    c.if-n-lt2.false c.if-n-gt201.false
    c.numbers_of-ws.result c.numbers_of-hs.result (search rules) (search rules) c.numbers_of-ws.ensures c.numbers_of-hs.ensures n _ s _ o _
    (c.fold.ensures
    (fold_narrow _ _ _ _ c.measure_tree-m.ensures.value c.measure_tree-m.ensures.list _ _ l c.if-m-ne0.false _ c.is_list.ensures y
    c.if-n-lt2.false c.if-n-gt201.false
    c.numbers_of-ws.result c.numbers_of-hs.result (search rules) (search rules) c.numbers_of-ws.ensures c.numbers_of-hs.ensures n _ s _ o))) in
    record { value = both.0; listed = both.1 }
