use native.Mathlib.Omega.{arith}
use Rattle.plan.specs.Ends.{range_size}
use Rattle.plan.proofs.ends.range_end.Goals as goal

pub padded-requires : goal.padded-requires
unfolding range_size
padded-requires c = let k = rw c.if-most.true at c.requires.1 in (omega (arith, k.wide), omega (arith, k.tall))

pub padded-requires-else-most : goal.padded-requires-else-most
unfolding range_size
padded-requires-else-most c = let k = rw c.if-most.false at c.requires.1 in (omega (arith, k.wide), omega (arith, k.tall))
