use Rattle.std.proofs.Common.{◌≡◌, ◌+◌, ◌-◌, length}
use Rattle.tree.proofs.Passing.{Some}
use Rattle.collector.specs.Clauses.{ReadyBranches}
use Rattle.collector.proofs.Branches.{Turn}
use Rattle.collector.proofs.below.+count_group_count_node.Given as goal

-- the bytes fall; a group's children are a part of them
abbrev pub decreases-count_group : goal.decreases-count_group
decreases-count_group l = length l.s.now + 1

abbrev pub decreases-count_node : goal.decreases-count_node
decreases-count_node l = length l.s.now

-- the children before `at` are counted
abbrev pub invariant-count_group-loop-at : goal.invariant-count_group-loop-at
invariant-count_group-loop-at l =
    (length l.below ≡ length l.initial.below) × ((q : ReadyBranches l.s l.node (length l.initial.below))
    → Some (Turn l.s l.node (length l.initial.below) q l.initial.below l.at l.next l.below))

abbrev pub decreases-count_group-loop-at : goal.decreases-count_group-loop-at
decreases-count_group-loop-at l = length l.s - l.at
