use Rattle.std.proofs.Common.{◌≡◌, ◌+◌, ◌-◌, length}
use Rattle.tree.proofs.Passing.{Some}
use Rattle.widen.specs.Clauses.{NeedGroup}
use Rattle.widen.proofs.Turns.{Turn}
use Rattle.widen.proofs.node.+need_group_need_node.Given as goal

-- the bytes fall; a group's children are a part of them
abbrev pub decreases-need_group : goal.decreases-need_group
decreases-need_group l = length l.s.now + 1

abbrev pub decreases-need_node : goal.decreases-need_node
decreases-need_node l = length l.s.now

abbrev pub invariant-need_group-loop-at : goal.invariant-need_group-loop-at
invariant-need_group-loop-at l =
    (length l.needs ≡ length l.initial.needs)
    × ((q : NeedGroup l.s l.across l.node l.slack l.widths (length l.initial.needs))
    → Some (Turn l.s l.across l.node l.slack l.widths (length l.initial.needs) q l.initial.needs l.at l.next l.needs))

abbrev pub decreases-need_group-loop-at : goal.decreases-need_group-loop-at
decreases-need_group-loop-at l = length l.s - l.at
