use native.Mathlib.Omega.{arith}
use native.Mathlib.Nat.{add-sub_cancel_left}
use mathlib.Core.Path.{◌≡◌, ◌∙◌}
use lib.ListN.{length, take, drop, length-drop}
use lib.Seq.{length-take-le}
use Rattle.splits.proofs.Lists.{stored_zeros}
use Rattle.splits.proofs.lent.list_at.Goals as goal

pub returns : goal.returns
returns c = let a = c.args in
    let s = take a.n (drop a.from a.pieces.now) in
    let long : length s ≡ a.n = length-take-le a.n (drop a.from a.pieces.now) (rw length-drop (omega arith)) in
    stored_zeros s long (omega arith) (c.copy.ensures.out_is ∙ rw (add-sub_cancel_left a.from a.n))
