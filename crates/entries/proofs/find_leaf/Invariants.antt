use Prim.Native.Nat.{◌-◌, ◌≤◌}
use lib.ListN.{length}
use Rattle.entries.specs.Clauses.{Lists}
use Rattle.entries.proofs.Passing.{Seeking}
use Rattle.entries.proofs.find_leaf.Given as goal

abbrev pub invariant-loop-i : goal.invariant-loop-i
invariant-loop-i l = (l.i ≤ length l.leaves) × ((q : Lists l.leaves) → Seeking l.leaves q l.node l.i)

abbrev pub decreases-loop-i : goal.decreases-loop-i
decreases-loop-i l = length l.leaves - l.i
