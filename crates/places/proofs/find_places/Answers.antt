use mathlib.Core.Path.{◌≡◌, sym, ◌∙◌}
use Prim.Native.Nat.{ℕ, ◌≤◌}
use native.Mathlib.Omega.{arith}
use lib.ListN.{length, take, length-replicate}
use lib.Seq.{length-take-le}
use Rattle.sizes.specs.Input.{input_of}
use Rattle.sizes.proofs.MeasuredInput.{size_list_length}
use Rattle.sheet.proofs.Refusals.{refused_some, ok_number}
use Rattle.places.proofs.Checked.{Checked, checked}
use Rattle.places.proofs.Calls.{tree_asks, tree_walked}
use Rattle.places.proofs.PlaceLists.{finds_refused, finds_many, finds_fault, finds_short, finds_whole, refusing}
use Rattle.places.proofs.find_places.Goals as goal
use Rattle.places.proofs.find_places.Goals.{After-check_sheet-m, After-check_places, Else-answers-n}

-- the list that was lent
long : (c : After-check_sheet-m) → length c.check_sheet-m.new.list ≡ 2048
long c = let a = c.args in
    size_list_length (input_of a.settings.now a.tree.now) _ _ c.check_sheet-m.ensures.list ∙ length-replicate {A = ℕ} 2048 0

-- what is known of the sheet and the places once they were tested
sheet_at : (c : After-check_places) → let a = c.args in let d = c.check_sheet-m in Checked a.settings.now a.tree.now d.result d.new.list
sheet_at c =
    let d = c.check_sheet-m in
    checked _ _ _ _ _ (length-replicate {A = ℕ} 2048 0) d.ensures.value d.ensures.list c.if-m-ne0.false

few_at : (c : After-check_places) → length c.args.places.now ≤ 256
few_at c = omega (arith, c.if-n-gt256.false)

room_at : (c : Else-answers-n) → let a = c.args in length a.places.now ≤ length a.answers.now
room_at c = omega (arith, c.if-answers-n.false)

-- the list that is lent has as many answers as there are places
lent_at : (c : Else-answers-n) → let a = c.args in length (take (length a.places.now) a.answers.now) ≡ length a.places.now
lent_at c = length-take-le _ _ (room_at c)

pub returns-then-m-ne0 : goal.returns-then-m-ne0
returns-then-m-ne0 c =
    let both = refusing _ _ _ _ c.no_places.ensures (finds_refused _ _ _ _ _ c.check_sheet-m.ensures.value c.if-m-ne0.true) in
    record { value = both.0; listed = both.1 }

pub returns-then-n-gt256 : goal.returns-then-n-gt256
returns-then-n-gt256 c =
    let d = c.check_sheet-m in
    let q = checked _ _ _ _ _ (length-replicate {A = ℕ} 2048 0) d.ensures.value d.ensures.list c.if-m-ne0.false in
    let both = refusing _ _ _ _ c.no_places-then-n-gt256.ensures (finds_many q _ _ c.if-n-gt256.true) in
    record { value = both.0; listed = both.1 }

pub slice_bounds-natural_at-end : goal.slice_bounds-natural_at-end
slice_bounds-natural_at-end c = sym (long (goal.at.slice_bounds-natural_at-end c).After-check_sheet-m)

pub natural_at-requires : goal.natural_at-requires
natural_at-requires c = omega (arith, long (goal.at.natural_at-requires c).After-check_sheet-m)

pub returns-in-Err : goal.returns-in-Err
returns-in-Err c =
    let k = (goal.at.returns-in-Err c).After-check_places in
    let both = refusing _ _ _ _ c.no_places-in-Err.ensures
    (finds_fault (sheet_at k) _ _ (few_at k) _ c.natural_at.ensures.value _ c.frame_of-f.ensures _
    (λ s t x. c.number.ensures ∙ c.in-Err.ensures s t x) (λ z. refused_some _ (sym c.number.ensures ∙ z))) in
    record { value = both.0; listed = both.1 }

pub returns-then-answers-n : goal.returns-then-answers-n
returns-then-answers-n c =
    let k = (goal.at.returns-then-answers-n c).After-check_places in
    let both = refusing _ _ _ _ c.no_places-then-answers-n.ensures
    (finds_short (sheet_at k) _ _ (few_at k) _ c.natural_at.ensures.value _ c.frame_of-f.ensures _ c.check_places.ensures (ok_number _ c.in_default.not-Err)
    c.if-answers-n.true) in
    record { value = both.0; listed = both.1 }

pub slice_bounds-locate_tree-end-2 : goal.slice_bounds-locate_tree-end-2
slice_bounds-locate_tree-end-2 c = sym (lent_at (goal.at.slice_bounds-locate_tree-end-2 c).Else-answers-n)

pub locate_tree-steps-requires : goal.locate_tree-steps-requires
locate_tree-steps-requires c =
    let p = goal.at.locate_tree-steps-requires c in
    tree_asks (sheet_at p.After-check_places) _ _ (lent_at p.Else-answers-n)

pub returns : goal.returns
returns c =
    let p = goal.at.returns c in
    let q = sheet_at p.After-check_places in
    let a = c.args in
    let l = lent_at p.Else-answers-n in
    let w = finds_whole q a.places.now a.answers.now (few_at p.After-check_places) _ c.natural_at.ensures.value _ c.frame_of-f.ensures _
    c.check_places.ensures (ok_number _ c.in_default.not-Err) (room_at p.Else-answers-n) _ _ _ l
    (tree_walked q l (c.locate_tree-steps.ensures (tree_asks q _ _ l))) in
    record { value = rw w; listed = rw w }
