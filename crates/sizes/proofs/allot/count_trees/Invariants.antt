use Prim.Native.Nat.{◌-◌, ◌≤◌}
use lib.ListN.{length}
use Rattle.tree.specs.Tree.{count}
use Rattle.sizes.specs.Clauses.{ReadyCount}
use Rattle.tree.proofs.Passing.{Some}
use Rattle.sizes.proofs.Counts.{Counting}
use Rattle.sizes.proofs.allot.count_trees.Given as goal

abbrev pub invariant-loop-at : goal.invariant-loop-at
invariant-loop-at l = (l.n ≤ l.at) × ((q : ReadyCount l.s) → Some (Counting l.s (count q.trees) l.at l.n))

abbrev pub decreases-loop-at : goal.decreases-loop-at
decreases-loop-at l = length l.s - l.at
