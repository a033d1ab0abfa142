use borrow.Author.Rules.{rules}
use mathlib.Core.Path.{◌≡◌}
use lib.ListN.{length}
use Rattle.c_encoding.proofs.Split.{left_stored}
use Rattle.c_encoding.proofs.cuts.put_left.Goals as goal

pub returns : goal.returns
returns c = let a = c.args in
    let long : length a.left.pieces ≡ 512 = search rules in
    left_stored a.left.pieces a.out.now long c.min-n.ensures
    c.copy.ensures.out_is
