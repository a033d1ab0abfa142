use Rattle.std.proofs.Common.{arith}
use Rattle.std.proofs.lemmas.Bool.Decides.{nat_tests}
use Rattle.drafts.specs.Store.{whole_field}
use Rattle.drafts.proofs.scan.field_size.Goals as goal
use Rattle.drafts.proofs.scan.field_size.Goals.{then-s-lt3-via-then-s-lt3, then-s-lt3-via-else-s-lt3+then-not-is_tag}

pub returns-then-s-lt3-clause-value : goal.returns-then-s-lt3-clause-value
unfolding whole_field
returns-then-s-lt3-clause-value c = elim c.then-s-lt3.branch [
  | then-s-lt3-via-then-s-lt3 w ↦ grind (arith, nat_tests)
  | then-s-lt3-via-else-s-lt3+then-not-is_tag w ↦ grind (arith, nat_tests)
]

pub returns-clause-value : goal.returns-clause-value
unfolding whole_field
returns-clause-value c = grind (arith, nat_tests)
