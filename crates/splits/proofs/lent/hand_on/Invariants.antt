use mathlib.Core.Path.{◌≡◌}
use mathlib.Core.List.{◌++◌}
use Prim.Native.Nat.{◌+◌, ◌≤◌}
use lib.ListN.{length, take, drop}
use Rattle.splits.proofs.lent.hand_on.Given as goal

abbrev pub invariant-loop-i : goal.invariant-loop-i
invariant-loop-i l =
    (l.to + l.n ≡ length l.initial.pieces) × (length l.pieces ≡ length l.initial.pieces) × (l.i ≤ l.n)
    × (l.pieces ≡ take (l.to + l.i) l.initial.pieces ++ drop l.i (take l.n l.initial.pieces))

abbrev pub decreases-loop-i : goal.decreases-loop-i
decreases-loop-i l = l.i
