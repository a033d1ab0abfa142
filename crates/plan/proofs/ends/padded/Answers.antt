use mathlib.Core.Path.{refl}
use Rattle.plan.specs.Ends.{range_size}
use Rattle.plan.proofs.ends.padded.Goals as goal

pub returns : goal.returns
unfolding range_size
returns c = refl
