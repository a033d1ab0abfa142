use mathlib.Core.Path.{◌≡◌, ◌∙◌}
use native.Mathlib.Omega.{arith}
use Rattle.tree.specs.Tree.{nodes}
use Rattle.collector.proofs.Recorded.{array_more, array_full}
use Rattle.collector.proofs.records_of.Goals as goal

pub loop-i-init : goal.loop-i-init
loop-i-init c = λ s t old le long ne be. c.no_records-out.ensures

pub loop-i-preserved : goal.loop-i-preserved
loop-i-preserved c =
    let m = c.loop-i in
    λ s t old le long ne be. array_more s t old _ le long (omega arith) _ be m.i (omega arith) _ (m.invariant s t old le long ne be)

pub returns : goal.returns
returns c = λ s t old le long ne be.
    let e : c.loop-i.i ≡ nodes t = omega arith in
    c.loop-i.invariant s t old le long ne be ∙ rw e (array_full s t old _ le long (omega arith))
