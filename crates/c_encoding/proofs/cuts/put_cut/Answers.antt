use borrow.Author.Rules.{rules}
use mathlib.Core.Path.{◌≡◌}
use lib.ListN.{length}
use Rattle.c_encoding.proofs.Split.{cut_stored}
use Rattle.c_encoding.proofs.cuts.put_cut.Goals as goal
use Rattle.c_encoding.proofs.cuts.put_cut.Goals.{After-bit}

-- as many numbers as the list has room for
long : (c : After-bit) → length c.args.cut.taken.pieces ≡ 512
long c = search rules

pub returns : goal.returns
returns c = let start = c.args in
    cut_stored start.cut start.out.now c.bit.ensures c.copy.ensures.out_is
    c.put_list.ensures (long (goal.at.returns c).After-bit) c.put_list-2.ensures
