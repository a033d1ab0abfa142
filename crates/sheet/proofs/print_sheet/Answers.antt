use mathlib.Core.Path.{◌≡◌, sym, ◌∙◌}
use Prim.Native.Nat.{ℕ, ◌-◌, ◌≤◌}
use native.Mathlib.Omega.{arith}
use native.Mathlib.Nat.{le_refl}
use mathlib.Core.List.{List, ◌++◌, append-nil}
use lib.ListN.{length, replicate, take, drop, length-drop, length-replicate, drop_of_length-le}
use lib.Seq.{length-take-le}
use borrow.Author.Rules.{part_to_end}
use Rattle.sizes.specs.Input.{input_of}
use Rattle.sizes.specs.Clauses.{size_list_of}
use Rattle.sizes.proofs.MeasuredInput.{size_list_length}
use Rattle.frame.proofs.Printers.{print_refused}
use Rattle.walk.proofs.Inputs.{Taken, taken, walk_ready, list_end_in, entries_listed}
use Rattle.sheet.specs.Clauses.{frame_refusal}
use Rattle.sheet.proofs.Refusals.{refused_some, ok_number}
use Rattle.sheet.proofs.Printed.{sheet_refused, sheet_no, sheet_fits, framed, sheet_fitting, base_in, sheet_paints, sheet_answers}
use borrow.Author.Rules.{rules}
use Rattle.sheet.proofs.print_sheet.Goals as goal
use Rattle.sheet.proofs.print_sheet.Goals.{After-natural_at, After-walk_tree-n, In_default}

-- the bytes from `a` on, and these put back
part_long : (xs : List ℕ) (a : ℕ) {n : ℕ} → length xs ≡ n → length (take (length xs - a) (drop a xs)) ≡ n - a
part_long xs a e = rw (part_to_end xs a, length-drop a xs, e)

part_back : (xs ys : List ℕ) (a : ℕ) → take a xs ++ (ys ++ drop (length xs - a) (drop a xs)) ≡ take a xs ++ ys
part_back xs ys a =
    let m : length (drop a xs) ≡ length xs - a = length-drop a xs in
    rw (drop_of_length-le (drop a xs) {i = length xs - a} (omega arith), append-nil ys)

-- the list that was lent
long : (settings tree l : List ℕ) → l ≡ size_list_of (input_of settings tree) (replicate 2048 0) → length l ≡ 2048
long settings tree l e = size_list_length (input_of settings tree) _ _ e ∙ length-replicate {A = ℕ} 2048 0

-- what is known once the sizes were measured
took : (c : After-natural_at) → let a = c.args in let d = c.measure_tree-m in Taken a.settings.now a.tree.now d.result d.new.list
took c = let d = c.measure_tree-m in taken _ _ _ _ _ d.ensures.value d.ensures.list c.if-m-ne0.false (long _ _ _ d.ensures.list)

-- the sheet is printed
none : (c : In_default) → frame_refusal c.frame_of-f.result (length c.args.out.now) ≡ 0
none c = sym c.check_room.ensures ∙ ok_number _ c.in_default.not-Err

-- the entries end in the list that was lent
front : (c : After-walk_tree-n) → c.walk_tree-n.result ≤ length c.walk_tree-n.new.leaves
front c =
    let d = c.measure_tree-m in
    let k = sheet_fitting (taken _ _ _ _ _ d.ensures.value d.ensures.list c.if-m-ne0.false (long _ _ _ d.ensures.list)) c.natural_at.ensures.value
    c.frame_of-f.ensures c.args.out.now (sym c.check_room.ensures ∙ ok_number _ c.in_default.not-Err) in
    let g = c.separator.ensures.value in
    list_end_in k _ _ g (le_refl 5120) _ _ _ (c.walk_tree-n.ensures (walk_ready k _ _ g (le_refl 5120)))

pub returns-then-m-ne0 : goal.returns-then-m-ne0
returns-then-m-ne0 c =
    let both = print_refused c.refused.ensures (sheet_refused _ _ _ _ c.measure_tree-m.ensures.value c.if-m-ne0.true) in
    record { value = both.0; shown = both.1 }

pub slice_bounds-natural_at-end : goal.slice_bounds-natural_at-end
slice_bounds-natural_at-end c = sym (long _ _ _ c.measure_tree-m.ensures.list)

pub natural_at-requires : goal.natural_at-requires
natural_at-requires c = omega (arith, long _ _ _ c.measure_tree-m.ensures.list)

pub returns-in-Err : goal.returns-in-Err
returns-in-Err c =
    let both = print_refused c.refused-in-Err.ensures (sheet_no (took (goal.at.returns-in-Err c).After-natural_at)
    c.natural_at.ensures.value c.frame_of-f.ensures _ _ (c.number.ensures ∙ c.in-Err.ensures)
    (λ z. refused_some _ (sym c.number.ensures ∙ z))) in record { value = both.0; shown = both.1 }

pub end_lines-requires : goal.end_lines-requires
end_lines-requires c = let k = took (goal.at.end_lines-requires c).After-natural_at in
    let ze = c.natural_at.ensures.value in
    let o = c.args.out.now in
    let n = none (goal.at.end_lines-requires c).In_default in
    sheet_fits k ze c.frame_of-f.ensures o n

pub margin_before-base-requires : goal.margin_before-base-requires
margin_before-base-requires c = let k = took (goal.at.margin_before-base-requires c).After-natural_at in
    let ze = c.natural_at.ensures.value in
    let o = c.args.out.now in
    let n = none (goal.at.margin_before-base-requires c).In_default in
    framed k ze c.frame_of-f.ensures o n (search rules)

pub slice_bounds-walk_tree-end : goal.slice_bounds-walk_tree-end
slice_bounds-walk_tree-end c = sym (long _ _ _ c.measure_tree-m.ensures.list)

pub walk_tree-n-requires : goal.walk_tree-n-requires
walk_tree-n-requires c = let k = took (goal.at.walk_tree-n-requires c).After-natural_at in
    let ze = c.natural_at.ensures.value in
    let o = c.args.out.now in
    let n = none (goal.at.walk_tree-n-requires c).In_default in
    walk_ready (sheet_fitting k ze c.frame_of-f.ensures o n) _ _ c.separator.ensures.value (le_refl 5120)

pub slice_bounds-paint_leaves-end : goal.slice_bounds-paint_leaves-end
slice_bounds-paint_leaves-end c = sym (long _ _ _ c.measure_tree-m.ensures.list)

pub slice_bounds-leaves-end : goal.slice_bounds-leaves-end
slice_bounds-leaves-end c = front (goal.at.slice_bounds-leaves-end c).After-walk_tree-n

pub slice_bounds-paint_leaves-end-2 : goal.slice_bounds-paint_leaves-end-2
slice_bounds-paint_leaves-end-2 c = sym (length-take-le _ _ (front (goal.at.slice_bounds-paint_leaves-end-2 c).After-walk_tree-n))

pub slice_bounds-paint_leaves-count : goal.slice_bounds-paint_leaves-count
slice_bounds-paint_leaves-count c = let k = took (goal.at.slice_bounds-paint_leaves-count c).After-natural_at in
    let ze = c.natural_at.ensures.value in
    let o = c.args.out.now in
    let n = none (goal.at.slice_bounds-paint_leaves-count c).In_default in
    let l : length c.margin_before-base.new.out ≡ length c.args.out.now = search rules in
    omega (arith, base_in k ze c.frame_of-f.ensures o n c.margin_before-base.ensures.end_is)

pub slice_bounds-paint_leaves-start : goal.slice_bounds-paint_leaves-start
slice_bounds-paint_leaves-start c = let k = took (goal.at.slice_bounds-paint_leaves-start c).After-natural_at in
    let ze = c.natural_at.ensures.value in
    let o = c.args.out.now in
    let n = none (goal.at.slice_bounds-paint_leaves-start c).In_default in
    let l : length c.margin_before-base.new.out ≡ length c.args.out.now = search rules in
    omega (arith, base_in k ze c.frame_of-f.ensures o n c.margin_before-base.ensures.end_is)

pub paint_leaves-requires : goal.paint_leaves-requires
paint_leaves-requires c = let k = took (goal.at.paint_leaves-requires c).After-natural_at in
    let ze = c.natural_at.ensures.value in
    let o = c.args.out.now in
    let n = none (goal.at.paint_leaves-requires c).In_default in
    let l : length c.margin_before-base.new.out ≡ length c.args.out.now = search rules in
    let be = c.margin_before-base.ensures.end_is in
    let le = part_long c.margin_before-base.new.out
    c.margin_before-base.result l in
    let kf = sheet_fitting k ze c.frame_of-f.ensures o n in
    let g = c.separator.ensures.value in
    let es = entries_listed kf _ _ g (le_refl 5120) _ _ _ (c.walk_tree-n.ensures (walk_ready kf _ _ g (le_refl 5120))) in
    sheet_paints k ze c.frame_of-f.ensures o n be le _ _ es

pub margin_after-requires : goal.margin_after-requires
margin_after-requires c = (
  framed (took (goal.at.margin_after-requires c).After-natural_at) c.natural_at.ensures.value c.frame_of-f.ensures c.args.out.now
      (none (goal.at.margin_after-requires c).In_default)
      (search rules),
  c.margin_before-base.ensures.end_is,
)

pub returns : goal.returns
returns c =
    let k = took (goal.at.returns c).After-natural_at in
    let ze = c.natural_at.ensures.value in
    let o = c.args.out.now in
    let n = none (goal.at.returns c).In_default in
    let l : length c.margin_before-base.new.out ≡ length c.args.out.now = search rules in
    let d = c.margin_before-base in
    let le = part_long d.new.out d.result l in
    let kf = sheet_fitting k ze c.frame_of-f.ensures o n in
    let g = c.separator.ensures.value in
    let es = entries_listed kf _ _ g (le_refl 5120) _ _ _ (c.walk_tree-n.ensures (walk_ready kf _ _ g (le_refl 5120))) in
    let both = sheet_answers k ze c.frame_of-f.ensures o n d.ensures.end_is le _ d.new.out _ _ _ _ _ _ es c.end_lines.ensures
    d.ensures.out_is l (part_to_end d.new.out d.result) (c.paint_leaves.ensures (sheet_paints k ze c.frame_of-f.ensures o n d.ensures.end_is le _ _ es))
    (part_back d.new.out c.paint_leaves.new.out d.result) c.margin_after.ensures in record { value = both.0; shown = both.1 }
