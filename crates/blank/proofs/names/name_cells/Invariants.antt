use Rattle.std.proofs.Common.{◌≡◌, ℕ, List}
use Rattle.blank.specs.Clauses.{cell_marks}
use Rattle.blank.proofs.NamedCells.{Naming}
use Rattle.blank.proofs.names.name_cells.Given as goal

abbrev pub invariant-loop-node : goal.invariant-loop-node
invariant-loop-node l = (cs : List ℕ) → l.cells ≡ cell_marks cs → Naming cs l.nodes l.dots l.node-index
