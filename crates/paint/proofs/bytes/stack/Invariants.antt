use Prim.Native.Nat.{◌+◌, ◌-◌, ◌*◌}
use mathlib.Core.List.{[], ◌∷◌}
use lib.ListN.{length, replicate}
use Rattle.paint.specs.Clauses.{pasted}
use Rattle.paint.proofs.LinesLeft.{LinesLeft}
use Rattle.paint.proofs.bytes.stack.Given as goal

-- the lines still to come make the whole
abbrev pub invariant-loop : goal.invariant-loop
invariant-loop l =
    LinesLeft (pasted l.initial.out l.at l.stride (replicate l.n (l.byte ∷ []))) (length l.initial.out) (l.at + l.n * l.stride) l.out l.p
    l.stride 1 (replicate (l.n - l.counter) (l.byte ∷ []))
