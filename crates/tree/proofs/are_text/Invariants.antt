use Rattle.std.proofs.Common.{◌≡◌, false, drop}
use Rattle.common.specs.Choice.{pick}
use Rattle.tree.specs.Reading.{is_text}
use Rattle.tree.proofs.are_text.Given as goal

abbrev pub invariant-loop-b : goal.invariant-loop-b
invariant-loop-b l = is_text l.s ≡ pick l.good (is_text (drop l.b-index l.s)) false
