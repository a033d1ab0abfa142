use mathlib.Core.Path.{◌≡◌}
use Prim.Native.Nat.{◌+◌, ◌-◌}
use lib.ListN.{length, replicate}
use lib.Seq.{sets}
use Rattle.paint.proofs.bytes.run.Given as goal

-- the stores still to come, from i on, make the whole
abbrev pub invariant-loop-i : goal.invariant-loop-i
invariant-loop-i l =
    (length l.out ≡ length l.initial.out) × (sets l.initial.out l.at (replicate l.n l.byte) ≡ sets l.out l.i (replicate (l.at + l.n - l.i) l.byte))
