use Prim.Native.Nat.{◌-◌}
use lib.ListN.{length}
use Rattle.tree.proofs.Passing.{Some}
use Rattle.sizes.specs.Clauses.{ReadyCount}
use Rattle.fold.proofs.Lists.{Looking}
use Rattle.fold.proofs.are_cells.Given as goal

abbrev pub invariant-loop-at : goal.invariant-loop-at
invariant-loop-at l = (q : ReadyCount l.s) → Some (Looking l.s q.trees l.at)

abbrev pub decreases-loop-at : goal.decreases-loop-at
decreases-loop-at l = length l.s - l.at
