use mathlib.Core.Path.{◌≡◌}
use Prim.Native.Nat.{◌+◌}
use lib.ListN.{length, drop}
use lib.Seq.{sets}
use Rattle.common.proofs.copy.copy.Given as goal

-- the stores still to come, from element i on, make the whole
abbrev pub invariant-loop-i : goal.invariant-loop-i
invariant-loop-i g l = (length l.out ≡ length l.initial.out) × (sets l.initial.out l.at l.from ≡ sets l.out (l.at + l.i) (drop l.i l.from))
