use mathlib.Core.Path.{◌∙◌}
use Prim.Native.Nat.{◌-◌}
use native.Mathlib.Omega.{arith}
use Rattle.splits.proofs.PieceCopies.{handed_first, handed_more, handed_all}
use borrow.Author.Rules.{rules}
use Rattle.splits.proofs.lent.hand_on.Goals as goal

pub loop-i-init : goal.loop-i-init
loop-i-init c = (omega arith, search rules, omega arith, handed_first _ c.args.n _ (omega arith))

pub loop-i-preserved : goal.loop-i-preserved
loop-i-preserved c = let k = c.loop-i in
    let a = c.args in
    (k.invariant.0, search rules, omega arith, rw k.invariant.3 (handed_more a.pieces.now a.n _ k.i (k.i - 1) k.invariant.0 (omega arith) (omega arith)))

pub returns : goal.returns
returns c = let k = c.loop-i in let a = c.args in k.invariant.3 ∙ handed_all a.pieces.now a.n _ k.i k.invariant.0 (omega arith)
