use Rattle.typed.proofs.OneLine.{trimmed_is}
use Rattle.typed.proofs.line.trimmed.Goals as goal

pub returns : goal.returns
returns c = rw c.unwrap_or.ensures (trimmed_is c.args.line _ c.strip_suffix.ensures.cases)
