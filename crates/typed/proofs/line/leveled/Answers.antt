use borrow.Author.Tests.{ne_eqb}
use Rattle.common.specs.Refusals.{refusal_of}
use Rattle.typed.proofs.line.leveled.Goals as goal

pub returns-then-n-ne0 : goal.returns-then-n-ne0
unfolding refusal_of
returns-then-n-ne0 c = rw (ne_eqb _ _ c.if-n-ne0.true)
