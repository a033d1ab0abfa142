use mathlib.Core.Path.{◌≡◌}
use Prim.Native.Nat.{◌-◌}
use lib.ListN.{length}
use Rattle.tree.proofs.Passing.{Some}
use Rattle.blank.specs.Clauses.{ReadElements}
use Rattle.blank.proofs.ElementPass.{PuttingBytes}
use Rattle.blank.proofs.elements.put_elements.Given as goal

abbrev pub invariant-loop-at : goal.invariant-loop-at
invariant-loop-at l = (length l.out ≡ length l.initial.out) × ((q : ReadElements l.tree) → Some (PuttingBytes l.tree q l.dots l.initial.out l.out l.at l.node))

abbrev pub decreases-loop-at : goal.decreases-loop-at
decreases-loop-at l = length l.tree - l.at
