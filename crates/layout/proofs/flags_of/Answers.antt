use mathlib.Core.Path.{refl}
use Rattle.layout.specs.Clauses.{flags_at}
use Rattle.layout.proofs.flags_of.Goals as goal

pub returns : goal.returns
unfolding flags_at
returns c = refl
