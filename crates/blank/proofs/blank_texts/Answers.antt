use mathlib.Core.Path.{sym, ap, ◌∙◌}
use Rattle.blank.proofs.Answered.{TreeHere, got_elements, refused_blank, no_cell, blank_no_room, blanks}
use Rattle.blank.proofs.Calls.{all_told}
use Rattle.blank.proofs.blank_texts.Goals as goal
use Rattle.blank.proofs.blank_texts.Goals.{Else-number-ne0}

-- the tree that was read
here_at : (c : Else-number-ne0) → TreeHere c.args.tree.now
here_at c = got_elements _ _ c.read_tree-number.ensures c.if-number-ne0.false

pub returns-then-number-ne0 : goal.returns-then-number-ne0
returns-then-number-ne0 c =
    let k = refused_blank _ _ c.read_tree-number.ensures c.if-number-ne0.true _ _ in
    let all = all_told _ _ _ _ _ c.type_inv.tree (c.refuse.ensures ∙ sym (ap (λ y. y.answer) k)) (sym (ap (λ y. y.memory) k)) in
    record { value = all.0; written = all.1.0; paper = all.1.1 }

pub find_cells-cells-requires : goal.find_cells-cells-requires
find_cells-cells-requires c = (here_at (goal.at.find_cells-cells-requires c).Else-number-ne0).elements

pub returns-in-Err : goal.returns-in-Err
returns-in-Err c =
    let q = here_at (goal.at.returns-in-Err c).Else-number-ne0 in
    let k = no_cell _ _ q _ _ (c.name_cells-named.ensures _ (c.find_cells-cells.ensures q.elements)) _ c.in-Err.is in
    let all = all_told _ _ _ _ _ c.type_inv.tree (c.refuse-in-Err.ensures ∙ rw c.number.ensures (sym (ap (λ y. y.answer) k))) (sym (ap (λ y. y.memory) k)) in
    record { value = all.0; written = all.1.0; paper = all.1.1 }

pub returns-then-out-tree : goal.returns-then-out-tree
returns-then-out-tree c =
    let q = here_at (goal.at.returns-then-out-tree c).Else-number-ne0 in
    let k = blank_no_room _ _ q _ _ (c.name_cells-named.ensures _ (c.find_cells-cells.ensures q.elements)) _ c.in-Ok.is c.if-out-tree.true in
    let all = all_told _ _ _ _ _ c.type_inv.tree (c.refuse-then-out-tree.ensures ∙ rw c.number-then-out-tree.ensures (sym (ap (λ y. y.answer) k)))
    (sym (ap (λ y. y.memory) k)) in
    record { value = all.0; written = all.1.0; paper = all.1.1 }

pub put_elements-requires : goal.put_elements-requires
put_elements-requires c = ((here_at (goal.at.put_elements-requires c).Else-number-ne0).elements, c.if-out-tree.false)

pub returns : goal.returns
returns c =
    let q = here_at (goal.at.returns c).Else-number-ne0 in
    let k = blanks _ _ q _ _ (c.name_cells-named.ensures _ (c.find_cells-cells.ensures q.elements))
    _ c.in-Ok.is c.if-out-tree.false _ (c.put_elements.ensures q.elements) in
    let all = all_told _ _ _ _ _ c.type_inv.tree (sym (ap (λ y. y.answer) k)) (sym (ap (λ y. y.memory) k)) in
    record { value = all.0; written = all.1.0; paper = all.1.1 }
