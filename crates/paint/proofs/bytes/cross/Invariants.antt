use mathlib.Core.Path.{◌≡◌}
use Prim.Native.Nat.{◌≤◌}
use lib.ListN.{length, drop}
use Rattle.splits.specs.Splits.{named}
use Rattle.splits.proofs.Named.{named_from}
use Rattle.paint.specs.Clauses.{crossed}
use Rattle.paint.proofs.bytes.cross.Given as goal

-- the places still to come, named by the pieces from i on, make the whole
abbrev pub invariant-loop-i : goal.invariant-loop-i
invariant-loop-i l =
    (l.pos ≤ l.n) × (length l.out ≡ length l.initial.out)
    × (crossed l.initial.out l.at l.step l.n (named l.n l.pieces) l.byte ≡ crossed l.out l.at l.step l.n (named_from l.n l.pos l.i (drop l.i l.pieces)) l.byte)
