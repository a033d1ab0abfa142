use mathlib.Core.Path.{◌≡◌}
use Prim.Native.Nat.{◌-◌, ◌≤◌}
use lib.ListN.{length}
use Rattle.entries.specs.Clauses.{PaintsAll}
use Rattle.entries.proofs.Passing.{LeavesLeft}
use Rattle.entries.proofs.paint_leaves.Given as goal

abbrev pub invariant-loop-i : goal.invariant-loop-i
invariant-loop-i l =
    (l.i ≤ length l.leaves) × (length l.out ≡ length l.initial.out)
    × ((q : PaintsAll l.tree l.list l.leaves l.s l.stride (length l.initial.out))
    → LeavesLeft l.tree l.list l.leaves l.s l.stride (length l.initial.out) q l.initial.out l.out l.i)

abbrev pub decreases-loop-i : goal.decreases-loop-i
decreases-loop-i l = length l.leaves - l.i
