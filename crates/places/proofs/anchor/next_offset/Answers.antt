use Prim.Native.Nat.{◌<◌}
use native.Mathlib.Omega.{arith}
use Rattle.sizes.proofs.Sides.{sides_under}
use Rattle.places.proofs.anchor.next_offset.Goals as goal
use Rattle.places.proofs.anchor.next_offset.Goals.{After-along}

-- the extent is small
extent_low : (c : After-along) → c.along.result < 65536
extent_low c = rw c.along.ensures (sides_under _ _ c.requires.2).0

pub overflow_add-result : goal.overflow_add-result
overflow_add-result c = omega (arith, extent_low (goal.at.overflow_add-result c).After-along)

pub overflow_add-result-2 : goal.overflow_add-result-2
overflow_add-result-2 c = omega (arith, extent_low (goal.at.overflow_add-result-2 c).After-along)
