use mathlib.Core.Path.{◌≡◌}
use Prim.Native.Nat.{◌*◌, ◌-◌}
use lib.ListN.{drop}
use lib.Seq.{sets}
use Rattle.c_encoding.specs.Clauses.{fives}
use Rattle.c_encoding.proofs.fields.put_sizes.Given as goal

abbrev pub invariant-loop-i : goal.invariant-loop-i
invariant-loop-i l =
    sets l.initial.out 0 (fives l.n l.list l.below) ≡ sets l.out (5 * l.i) (fives (l.n - l.i) (drop (4 * l.i) l.list) (drop l.i l.below))
