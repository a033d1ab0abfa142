use Rattle.std.proofs.Common.{ℕ, ◌+◌, ◌≤◌, length, Result}
use Rattle.common.specs.declared.refusal.Refusal.{Refusal}
use Rattle.tree.specs.Clauses.{ElementsAre}
use Rattle.tree.proofs.+read_group_read_sequence.Given as goal

abbrev pub decreases-read_group : goal.decreases-read_group
decreases-read_group l = length l.s.now

abbrev pub decreases-read_sequence : goal.decreases-read_sequence
decreases-read_sequence l = length l.s.now + 1

-- what is read of the rest is read of the whole
abbrev pub invariant-read_sequence-loop-rest : goal.invariant-read_sequence-loop-rest
invariant-read_sequence-loop-rest l = record {
  within : length l.rest ≤ length l.s;
  same : (r : Result ℕ Refusal) → ElementsAre l.planning l.depth l.nodes l.rest r → ElementsAre l.planning l.depth l.count l.s r;
}

abbrev pub decreases-read_sequence-loop-rest : goal.decreases-read_sequence-loop-rest
decreases-read_sequence-loop-rest l = length l.rest
