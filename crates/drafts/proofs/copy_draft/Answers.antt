use Rattle.std.proofs.Common.{◌+◌, ◌≤◌, ap, arith, length}
use Rattle.std.proofs.lemmas.Result.{err_from_is_err_and}
use Rattle.drafts.proofs.OpenedStore.{none_there, opened_ready, refused_return, return_absent, field_place, return_short, return_there}
use Rattle.drafts.proofs.copy_draft.Goals as goal
use Rattle.drafts.proofs.copy_draft.Goals.{In_ok-field}

-- where the draft is in the store
place_at : (c : In_ok-field) → let f = c.in_ok-field.field in (3 ≤ f.size) × (f.at + f.size ≤ length c.args.store.now)
place_at c = field_place _ _ _ (opened_ready _ _ _ c.in_ok-scan.ensures) _ c.in_ok-field.ensures.ok_part

pub returns-in_err-scan : goal.returns-in_err-scan
returns-in_err-scan c =
    let p = err_from_is_err_and c.from_residual.result c.from_residual.ensures.1 in
    let k = refused_return _ _ _ c.in_err-scan.ensures _ in
    record { value = rw (p.1, p.2) (ap (λ y. y.answer) k); copied = ap (λ y. y.memory) k }

pub returns-in_err-field : goal.returns-in_err-field
returns-in_err-field c =
    let p = err_from_is_err_and c.from_residual-in_err-field.result c.from_residual-in_err-field.ensures.1 in
    let n = none_there _ _ _ c.in_err-field.ensures.value in
    let k = return_absent _ _ _ (opened_ready _ _ _ c.in_ok-scan.ensures) n.0 _ in
    record { value = rw (p.1, p.2, n.1) (ap (λ y. y.answer) k); copied = ap (λ y. y.memory) k }

pub overflow_add-tree : goal.overflow_add-tree
overflow_add-tree c = omega (arith, place_at (goal.at.overflow_add-tree c).In_ok-field)

pub overflow_add-tree-2 : goal.overflow_add-tree-2
overflow_add-tree-2 c = omega (arith, place_at (goal.at.overflow_add-tree-2 c).In_ok-field)

pub slice_bounds-tree-count : goal.slice_bounds-tree-count
slice_bounds-tree-count c = omega (arith, place_at (goal.at.slice_bounds-tree-count c).In_ok-field)

pub slice_bounds-tree-start : goal.slice_bounds-tree-start
slice_bounds-tree-start c = omega (arith, place_at (goal.at.slice_bounds-tree-start c).In_ok-field)

pub slice_bounds-tree-end : goal.slice_bounds-tree-end
slice_bounds-tree-end c = omega (arith, place_at (goal.at.slice_bounds-tree-end c).In_ok-field)

pub returns-then-out-tree : goal.returns-then-out-tree
returns-then-out-tree c =
    let k = return_short _ _ _ (opened_ready _ _ _ c.in_ok-scan.ensures) _ c.in_ok-field.ensures.ok_part _ c.if-out-tree.true in
    record { value = ap (λ y. y.answer) k; copied = ap (λ y. y.memory) k }

pub returns : goal.returns
returns c =
    let k = return_there _ _ _ (opened_ready _ _ _ c.in_ok-scan.ensures) _ c.in_ok-field.ensures.ok_part _ _ c.if-out-tree.false c.copy.ensures.out_is in
    record { value = ap (λ y. y.answer) k; copied = ap (λ y. y.memory) k }
