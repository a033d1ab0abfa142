use Rattle.std.proofs.Common.{refl, arith, rules}
use Rattle.common.specs.Refusals.{refusal_of}
use Rattle.blank.proofs.NamedCells.{name_none, name_wrong, name_past, name_more, names_cells}
use Rattle.blank.proofs.names.name_cells.Goals as goal
use Rattle.blank.proofs.names.name_cells.Goals.{then-n-ge512-via-then-n-ge512, then-n-ge512-via-else-n-ge512+then-not-cells-n}

pub loop-node-init : goal.loop-node-init
loop-node-init c = λ cs e. name_none _ _ _ c.is_empty-dots.ensures

pub returns-then-n-ge512 : goal.returns-then-n-ge512
unfolding refusal_of
returns-then-n-ge512 c = λ cs e.
    let k = c.loop-node.invariant cs e in
    elim c.then-n-ge512.branch [
      | then-n-ge512-via-then-n-ge512 w ↦ (name_past _ _ _ _ k _ e c.loop-node-test.true (search rules) (rw c.from-n.ensures at w.if-n-ge512.true), refl)
      | then-n-ge512-via-else-n-ge512+then-not-cells-n w ↦ (name_wrong _ _ _ _ k _ e c.loop-node-test.true (rw c.from-n.ensures at w.if-not-cells-n.true), refl)
    ]

pub loop-node-preserved : goal.loop-node-preserved
loop-node-preserved c = λ cs e.
    rw c.from-n.ensures (name_more _ _ _ _ (c.loop-node.invariant cs e) _ e c.loop-node-test.true (omega (arith, c.from-n.ensures))
    (rw c.from-n.ensures at c.if-not-cells-n.false))

pub returns : goal.returns
returns c = λ cs e. names_cells _ _ _ _ (c.loop-node.invariant cs e) _ e c.loop-node-test.false
