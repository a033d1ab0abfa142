use Rattle.std.proofs.Common.{◌≡◌, ◌+◌, ◌-◌, length}
use Rattle.places.specs.Clauses.{GroupAsks}
use Rattle.tree.proofs.Passing.{Some}
use Rattle.places.proofs.Turns.{Turn}
use Rattle.places.proofs.locate.+locate_group_locate_node.Given as goal

-- the bytes fall; a group's children are a part of them
abbrev pub decreases-locate_group : goal.decreases-locate_group
decreases-locate_group l = length l.s.now + 1

abbrev pub decreases-locate_node : goal.decreases-locate_node
decreases-locate_node l = length l.s.now

abbrev pub invariant-locate_group-loop-at : goal.invariant-locate_group-loop-at
invariant-locate_group-loop-at l =
    (length l.answers ≡ length l.initial.answers)
    × ((q : GroupAsks l.s l.g l.node (length l.places) (length l.initial.answers))
    → Some (Turn l.s l.g l.list l.node l.places l.initial.answers (length l.initial.answers) q l.at l.offset l.steps l.answers))

abbrev pub decreases-locate_group-loop-at : goal.decreases-locate_group-loop-at
decreases-locate_group-loop-at l = length l.s - l.at
