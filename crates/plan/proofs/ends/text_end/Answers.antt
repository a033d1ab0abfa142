use mathlib.Core.Path.{◌∙◌}
use native.Mathlib.Omega.{arith}
use Rattle.text.specs.Promises.{text_size}
use Rattle.sizes.specs.Sizes.{leaf_size}
use Rattle.plan.specs.Ends.{range_size}
use Rattle.plan.proofs.ends.text_end.Goals as goal

pub padded-requires : goal.padded-requires
unfolding leaf_size text_size range_size
padded-requires c = let k = c.requires.1 in rw c.text_size-z.ensures (omega (arith, k.wide), omega (arith, k.tall))

pub returns : goal.returns
unfolding leaf_size text_size range_size
returns c = c.padded.ensures ∙ rw c.text_size-z.ensures
