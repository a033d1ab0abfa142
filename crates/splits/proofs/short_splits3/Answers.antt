use mathlib.Core.Path.{◌≡◌, ◌∙◌}
use native.Mathlib.Omega.{arith}
use lib.ListN.{length, take}
use lib.Seq.{length-take-le}
use Rattle.splits.proofs.Cuts.{cut_over, cut_whole}
use borrow.Author.Rules.{rules}
use Rattle.splits.proofs.short_splits3.Goals as goal

pub returns-then-list-gt512 : goal.returns-then-list-gt512
returns-then-list-gt512 c = rw (cut_over c.args.list c.args.w c.if-list-gt512.true, c.no_pieces.ensures, c.no_pieces-then-list-gt512.ensures)

pub returns : goal.returns
returns c = let a = c.args in
    let k = c.cut_in-k in
    let long : length a.list.pieces ≡ 512 = search rules in
    let m : length (take a.list.count a.list.pieces) ≡ a.list.count = length-take-le a.list.count a.list.pieces (omega arith) in
    cut_whole a.list a.w _ _ _ k.ensures (k.auto.pieces ∙ m) (omega arith) (omega (arith, k.ensures.within)) _ _ c.list_at.ensures c.list_at-2.ensures
