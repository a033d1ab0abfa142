use Rattle.std.proofs.Common.{arith}
use Rattle.std.proofs.lemmas.Bool.Decides.{nat_tests}
use Rattle.drafts.specs.Store.{is_name}
use Rattle.drafts.proofs.is_name.Goals as goal

pub returns-then-n-ge65 : goal.returns-then-n-ge65
unfolding is_name
returns-then-n-ge65 c = grind (arith, nat_tests)

pub returns-else-n-ge65 : goal.returns-else-n-ge65
unfolding is_name
returns-else-n-ge65 c = grind (arith, nat_tests)
