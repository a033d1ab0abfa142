use borrow.Author.Rules.{rules}
use mathlib.Core.Path.{◌≡◌}
use lib.ListN.{length}
use Rattle.c_encoding.proofs.Record.{record_stored}
use Rattle.c_encoding.proofs.fields.put_record.Goals as goal
use Rattle.c_encoding.proofs.fields.put_record.Goals.{After-front}

-- as many numbers as the list has room for
long : (c : After-front) → length c.args.r.horizontal.pieces ≡ 512
long c = search rules

pub returns : goal.returns
returns c = let start = c.args in
    record_stored start.r start.out.now c.front.ensures c.copy.ensures.out_is
    c.put_list.ensures (long (goal.at.returns c).After-front) c.put_list-2.ensures
