use native.Mathlib.Omega.{arith}
use Prim.Native.Nat.{ℕ, ◌<◌}
use mathlib.Core.Logic.{◌⊎◌, inl, inr}
use mathlib.Core.Path.{◌≡◌, ◌∙◌}
use lib.ListN.{length, length-replicate, length-take}
use Rattle.widen.proofs.Answered.{Found, nearest_parts, nearest_refused, root_ready, all_found, nearest_short, list_asks, nearest_done}
use borrow.Author.Rules.{rules}
use Rattle.widen.proofs.nearest_cells.Goals as goal
use Rattle.widen.proofs.nearest_cells.Goals.{After-need_node, After-numbers_of-widths, then-nodes-count-via-then-nodes-count}
use Rattle.widen.proofs.nearest_cells.Goals.{then-nodes-count-via-else-nodes-count+then-letters-count}

-- the widths are read
long : (c : After-numbers_of-widths) → length c.numbers_of-widths.result ≡ 512
long c = search rules

-- the numbers are found
found_at : (c : After-need_node) → Found c.args.settings.now c.args.tree.now c.measure_tree-m.result.count c.need_node.new.needs
found_at c =
    all_found _ _ _ _ c.measure_tree-m.ensures.value c.measure_tree-m.ensures.list c.if-m-ne0.false _ (search rules) c.numbers_of-widths.ensures _
    (length-replicate {A = ℕ} 512 0) _ _ c.need_node.ensures

pub returns-then-m-ne0 : goal.returns-then-m-ne0
returns-then-m-ne0 c =
    let m = c.measure_tree-m.ensures in
    let both = nearest_parts (nearest_refused _ _ _ _ m.value m.list _ _ c.if-m-ne0.true) in
    record { value = c.refused.ensures ∙ both.0; nodes = both.1.0; letters = both.1.1 }

pub need_node-requires : goal.need_node-requires
need_node-requires c =
    let m = c.measure_tree-m.ensures in
    root_ready _ _ _ _ m.value m.list c.if-m-ne0.false _ (long (goal.at.need_node-requires c).After-numbers_of-widths)
    c.numbers_of-widths.ensures _ (length-replicate {A = ℕ} 512 0)

pub slice_bounds-needs-end : goal.slice_bounds-needs-end
slice_bounds-needs-end c =
    let f = found_at (goal.at.slice_bounds-needs-end c).After-need_node in
    omega (arith, f.few, c.need_node.auto.needs, length-replicate {A = ℕ} 512 0)

pub slice_bounds-needs-end-2 : goal.slice_bounds-needs-end-2
slice_bounds-needs-end-2 c =
    let f = found_at (goal.at.slice_bounds-needs-end-2 c).After-need_node in
    omega (arith, f.few, c.need_node.auto.needs, length-replicate {A = ℕ} 512 0, length-take {A = ℕ})

pub returns-then-nodes-count : goal.returns-then-nodes-count
returns-then-nodes-count c =
    let f = found_at (goal.at.returns-then-nodes-count c).After-need_node in
    let short : (length c.args.nodes.now < c.cells_of-count.result) ⊎ (length c.args.letters.now < c.cells_of-count.result) =
    elim c.then-nodes-count.branch [
      | then-nodes-count-via-then-nodes-count w ↦ inl w.if-nodes-count.true
      | then-nodes-count-via-else-nodes-count+then-letters-count w ↦ inr w.if-letters-count.true
    ] in
    let both = nearest_parts (nearest_short f c.args.nodes.now c.args.letters.now _ c.cells_of-count.ensures short) in
    record { value = c.refused-then-nodes-count.ensures ∙ both.0; nodes = both.1.0; letters = both.1.1 }

pub list_needs-requires : goal.list_needs-requires
list_needs-requires c =
    let f = found_at (goal.at.list_needs-requires c).After-need_node in
    list_asks f c.args.nodes.now c.args.letters.now _ c.cells_of-count.ensures c.if-nodes-count.false c.if-letters-count.false

pub returns : goal.returns
returns c =
    let f = found_at (goal.at.returns c).After-need_node in
    let both = nearest_parts
    (nearest_done f c.args.nodes.now c.args.letters.now _ c.cells_of-count.ensures c.if-nodes-count.false c.if-letters-count.false _ _ c.list_needs.ensures) in
    record { value = both.0; nodes = both.1.0; letters = both.1.1 }
