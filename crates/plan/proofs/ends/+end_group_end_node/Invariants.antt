use Rattle.std.proofs.Common.{◌+◌, ◌-◌, length}
use Rattle.plan.specs.Clauses.{ReadyPlans}
use Rattle.plan.proofs.Passing.{SomePlans}
use Rattle.plan.proofs.Turns.{Turn}
use Rattle.plan.proofs.ends.+end_group_end_node.Given as goal

-- the bytes fall; a group's plans are a part of them
abbrev pub decreases-end_group : goal.decreases-end_group
decreases-end_group l = length l.s.now + 1

abbrev pub decreases-end_node : goal.decreases-end_node
decreases-end_node l = length l.s.now

abbrev pub invariant-end_group-loop-at : goal.invariant-end_group-loop-at
invariant-end_group-loop-at l = (q : ReadyPlans l.settings l.most l.across l.s) → SomePlans (Turn l.settings l.most l.across l.s q l.at l.g)

abbrev pub decreases-end_group-loop-at : goal.decreases-end_group-loop-at
decreases-end_group-loop-at l = length l.s - l.at
