use Rattle.std.proofs.Common.{◌≡◌, ◌+◌, ◌-◌, length}
use Rattle.walk.specs.Clauses.{ReadyChildren}
use Rattle.walk.proofs.Loops.{Loop}
use Rattle.walk.proofs.group.+walk_child_walk_group.Given as goal

-- the bytes that are left: a child takes fewer than its group
abbrev pub decreases-walk_child : goal.decreases-walk_child
decreases-walk_child l = length l.s.now

abbrev pub decreases-walk_group : goal.decreases-walk_group
decreases-walk_group l = length l.s.now + 1

-- the lengths stay; for every description of the group's bytes the loop is where some children are left
abbrev pub invariant-walk_group-loop-g : goal.invariant-walk_group-loop-g
invariant-walk_group-loop-g l =
    (length l.along ≡ length l.initial.along) × (length l.beside ≡ length l.initial.beside) × (length l.leaves ≡ length l.initial.leaves)
    × ((q : ReadyChildren l.s l.list l.x l.initial.g l.initial.along l.initial.beside (length l.initial.leaves))
    → Loop q.state l.s l.list l.x l.initial.g (length l.initial.along) l.initial.leaves l.g l.along l.beside l.leaves)

abbrev pub decreases-walk_group-loop-g : goal.decreases-walk_group-loop-g
decreases-walk_group-loop-g l = length l.s - l.g.at
