use Rattle.std.proofs.Common.{arith}
use Rattle.std.proofs.lemmas.Bool.Decides.{nat_tests}
use Rattle.drafts.specs.Store.{is_tag}
use Rattle.drafts.proofs.scan.is_tag.Goals as goal

pub returns-then-b-ge32 : goal.returns-then-b-ge32
unfolding is_tag
returns-then-b-ge32 c = grind (arith, nat_tests)

pub returns-else-b-ge32 : goal.returns-else-b-ge32
unfolding is_tag
returns-else-b-ge32 c = grind (arith, nat_tests)
