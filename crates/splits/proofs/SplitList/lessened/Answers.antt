use mathlib.Core.Path.{◌≡◌}
use Prim.Native.Nat.{◌-◌}
use native.Mathlib.Omega.{arith}
use borrow.Author.Rules.{rules}
use lib.ListN.{length}
use Rattle.splits.proofs.Cuts.{loses_none, loses_first}
use Rattle.splits.proofs.SplitList.lessened.Goals as goal

pub returns-then-from-self : goal.returns-then-from-self
returns-then-from-self c = let a = c.args in
    let long : length a.self.now.pieces ≡ 512 = search rules in
    let none : a.self.now.count - a.from ≡ 0 = omega arith in
    loses_none a.self.now.pieces a.from a.self.now.count a.by _ (omega arith) (rw (none, c.no_pieces.ensures)) (omega arith)

pub returns : goal.returns
returns c = let a = c.args in
    let long : length a.self.now.pieces ≡ 512 = search rules in
    loses_first a.self.now.pieces a.from a.self.now.count a.by _ (omega arith) c.list_at-left.ensures (omega arith)
