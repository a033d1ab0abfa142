use mathlib.Core.Path.{◌≡◌}
use Prim.Native.Nat.{◌+◌, ◌-◌, ◌*◌}
use mathlib.Core.List.{◌∷◌}
use lib.ListN.{length, replicate}
use Rattle.paint.specs.Clauses.{pasted}
use Rattle.paint.proofs.LinesLeft.{RowsLeft}
use Rattle.paint.proofs.bytes.marked_rows.Given as goal

-- the lines still to come make the whole
abbrev pub invariant-loop-p : goal.invariant-loop-p
invariant-loop-p l =
    (l.end ≡ l.at + l.n * l.stride)
    × RowsLeft (pasted l.initial.out l.at l.stride (replicate l.n (l.mark ∷ replicate l.w 32))) (length l.initial.out) (l.at + l.n * l.stride) l.out l.p
    l.stride (1 + l.w) (l.mark ∷ replicate l.w 32)

abbrev pub decreases-loop-p : goal.decreases-loop-p
decreases-loop-p l = l.end - l.p
