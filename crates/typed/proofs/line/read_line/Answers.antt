use native.Mathlib.Omega.{arith}
use Rattle.typed.proofs.OneLine.{trimmed_within, line_told}
use Rattle.typed.proofs.line.read_line.Goals as goal

pub read_plain-requires : goal.read_plain-requires
read_plain-requires c = rw c.trimmed.ensures (omega (arith, trimmed_within c.args.line.now))

pub returns : goal.returns
returns c = line_told _ _ (rw c.trimmed.ensures at c.read_plain.ensures)
