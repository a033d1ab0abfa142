use Rattle.std.proofs.Common.{◌≤◌, length}
use Rattle.test_lines.proofs.contents.field.Given as goal

abbrev pub invariant-loop : goal.invariant-loop
invariant-loop l = l.at ≤ length l.s
