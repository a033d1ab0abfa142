use Rattle.std.proofs.Common.{◌-◌, length}
use Rattle.sizes.specs.Clauses.{ReadyGroup}
use Rattle.tree.proofs.Passing.{Some}
use Rattle.sizes.proofs.Naturals.{Turn}
use Rattle.sizes.proofs.natural.+collect_group.Given as goal

-- the bytes fall
abbrev pub decreases-collect_group : goal.decreases-collect_group
decreases-collect_group l = length l.s.now

abbrev pub invariant-loop-at : goal.invariant-loop-at
invariant-loop-at l = (q : ReadyGroup l.a l.s l.across l.node) → Some (Turn l.a l.s l.across l.node q l.initial.list l.at l.next l.g l.list)

abbrev pub decreases-loop-at : goal.decreases-loop-at
decreases-loop-at l = length l.s - l.at
