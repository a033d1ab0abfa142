use Prim.Native.Nat.{◌-◌}
use lib.ListN.{length}
use Rattle.tree.proofs.Passing.{Some}
use Rattle.blank.specs.Clauses.{ReadElements}
use Rattle.blank.proofs.ElementPass.{Finding}
use Rattle.blank.proofs.elements.find_cells.Given as goal

abbrev pub invariant-loop-at : goal.invariant-loop-at
invariant-loop-at l = (q : ReadElements l.tree) → Some (Finding l.tree q l.cells l.at l.node)

abbrev pub decreases-loop-at : goal.decreases-loop-at
decreases-loop-at l = length l.tree - l.at
