use Rattle.std.proofs.Common.{◌≡◌, ◌+◌, ◌-◌, ◌*◌, ℕ, List, length}
use Rattle.sizes.specs.declared.Size.{Size}
use Rattle.sizes.specs.Clauses.{ReadyTrees, put_size, group_of}
use Rattle.tree.proofs.Passing.{Some}
use Rattle.sizes.proofs.Allotted.{Turn}
use Rattle.sizes.proofs.allot.+allot_group.Given as goal

-- the bytes fall
abbrev pub decreases-allot_group : goal.decreases-allot_group
decreases-allot_group l = length l.s.now

abbrev pub invariant-loop-at : goal.invariant-loop-at
invariant-loop-at l =
    (z : Size) (own : List ℕ) (q : ReadyTrees l.settings l.s l.across l.node z own) (le : l.initial.list ≡ put_size own (4 * l.node + 2) z)
    → l.g ≡ group_of l.settings l.across q.trees z → Some (Turn l.settings l.s l.across l.node z own q l.initial.list le l.at l.i l.child l.list)

abbrev pub decreases-loop-at : goal.decreases-loop-at
decreases-loop-at l = length l.s - l.at
