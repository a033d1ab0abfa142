use Rattle.std.proofs.Common.{take, drop}
use Rattle.text.proofs.Flags.{FlagsLeft}
use Rattle.text.proofs.seen.Seen.in_word.Given as goal

abbrev pub invariant-loop-left : goal.invariant-loop-left
invariant-loop-left l = FlagsLeft (take 8 (drop l.at l.s)) l.at l.initial.r l.r l.left

abbrev pub decreases-loop-left : goal.decreases-loop-left
decreases-loop-left l = l.left
