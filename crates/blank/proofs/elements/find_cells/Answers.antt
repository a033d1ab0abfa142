use mathlib.Core.Path.{refl}
use Prim.Native.Nat.{◌+◌, ◌≤◌, ◌<◌}
use native.Mathlib.Omega.{arith}
use lib.ListN.{length}
use Rattle.blank.specs.Clauses.{text_at}
use Rattle.blank.proofs.ElementPass.{part, find_begins, find_in, find_more, find_ends}
use Rattle.blank.proofs.elements.find_cells.Goals as goal
use Rattle.blank.proofs.elements.find_cells.Goals.{In-loop-at}

in_at : (c : In-loop-at) → let s = c.args.tree.now in let m = c.loop-at in
    (3 + text_at (part s m.at) ≤ length (part s m.at)) × (m.at + (3 + text_at (part s m.at)) ≤ length s) × (m.node < 512)
in_at c = find_in _ c.requires _ _ _ (c.loop-at.invariant c.requires) c.loop-at-test.true

pub loop-at-init : goal.loop-at-init
loop-at-init c = λ q. find_begins _ q

pub bounds-cells-node : goal.bounds-cells-node
bounds-cells-node c = (in_at (goal.at.bounds-cells-node c).In-loop-at).2

pub text_length-at-requires : goal.text_length-at-requires
text_length-at-requires c = omega (arith, (in_at (goal.at.text_length-at-requires c).In-loop-at).0)

pub overflow_add-node : goal.overflow_add-node
overflow_add-node c = omega (arith, (in_at (goal.at.overflow_add-node c).In-loop-at).2)

pub loop-at-preserved : goal.loop-at-preserved
loop-at-preserved c = λ q. find_more _ q _ _ _ (c.loop-at.invariant q) c.loop-at-test.true _ _ refl c.text_length-at.ensures

pub returns : goal.returns
returns c = λ q. find_ends _ q _ _ _ (c.loop-at.invariant q) c.loop-at-test.false
