use mathlib.Core.Path.{◌≡◌, refl, sym, ◌∙◌}
use native.Mathlib.Omega.{arith}
use Prim.Native.Nat.{ℕ, ◌<◌}
use lib.ListN.{length, length-replicate}
use Rattle.sizes.specs.Input.{input_of}
use Rattle.sizes.proofs.MeasuredInput.{size_list_length}
use Rattle.sheet.proofs.Refusals.{refused_some, ok_number}
use Rattle.places.proofs.Checked.{Checked, checked}
use Rattle.places.proofs.Calls.{place_refused, tree_asks, tree_walked, owners_answer, place_fault, place_low, place_owners, place_found}
use Rattle.places.proofs.leaf_at.Goals as goal
use Rattle.places.proofs.leaf_at.Goals.{After-check_sheet-m, After-check_place, In_default}

-- the list that was lent
long : (c : After-check_sheet-m) → length c.check_sheet-m.new.list ≡ 2048
long c = let a = c.args in size_list_length (input_of a.settings.now a.tree.now) _ _ c.check_sheet-m.ensures.list
    ∙ length-replicate {A = ℕ} 2048 0

-- what is known of the sheet once the place was tested
sheet_at : (c : After-check_place) → let a = c.args in let d = c.check_sheet-m in Checked a.settings.now a.tree.now d.result d.new.list
sheet_at c =
    let d = c.check_sheet-m in
    checked _ _ _ _ _ (length-replicate {A = ℕ} 2048 0) d.ensures.value d.ensures.list c.if-m-ne0.false

low_at : (c : In_default) → let a = c.args in (a.line < 160) × (a.column < 400)
low_at c =
    let d = c.check_sheet-m in
    place_low (checked _ _ _ _ _ (length-replicate {A = ℕ} 2048 0) d.ensures.value d.ensures.list c.if-m-ne0.false) _ c.natural_at.ensures.value _
    c.frame_of-f.ensures _ _ _ c.check_place.ensures (ok_number _ c.in_default.not-Err)

pub returns-then-m-ne0 : goal.returns-then-m-ne0
returns-then-m-ne0 c = c.no_leaf_place.ensures ∙ sym (place_refused _ _ _ _ _ c.check_sheet-m.ensures.value c.if-m-ne0.true)

pub slice_bounds-natural_at-end : goal.slice_bounds-natural_at-end
slice_bounds-natural_at-end c = sym (long (goal.at.slice_bounds-natural_at-end c).After-check_sheet-m)

pub natural_at-requires : goal.natural_at-requires
natural_at-requires c = omega (arith, long (goal.at.natural_at-requires c).After-check_sheet-m)

pub returns-in-Err : goal.returns-in-Err
returns-in-Err c = c.no_leaf_place-in-Err.ensures
    ∙ sym
    (place_fault (sheet_at (goal.at.returns-in-Err c).After-check_place) _ c.natural_at.ensures.value _ c.frame_of-f.ensures _ _ _
    (λ s t x. c.number.ensures ∙ c.in-Err.ensures s t x) (λ z. refused_some _ (sym c.number.ensures ∙ z)))

pub overflow_mul-places : goal.overflow_mul-places
overflow_mul-places c = omega (arith, low_at (goal.at.overflow_mul-places c).In_default)

pub overflow_add-places : goal.overflow_add-places
overflow_add-places c = omega (arith, low_at (goal.at.overflow_add-places c).In_default)

pub locate_tree-requires : goal.locate_tree-requires
locate_tree-requires c = tree_asks (sheet_at (goal.at.locate_tree-requires c).After-check_place) _ _ refl

pub returns : goal.returns
returns c = let q = sheet_at (goal.at.returns c).After-check_place in
    let h = (ok_number _ c.in_default.not-Err) in
    let ze = c.natural_at.ensures.value in
    c.unpack.ensures
    ∙ place_found q _ ze _ c.frame_of-f.ensures _ _ _ c.check_place.ensures h _ refl _
    (owners_answer q _ _ _ _ refl (place_owners q _ ze _ c.frame_of-f.ensures _ _ _ c.check_place.ensures h _ refl)
    (tree_walked q refl (c.locate_tree.ensures (tree_asks q _ _ refl))))
