use native.Mathlib.Omega.{arith}
use Rattle.splits.proofs.Cuts.{short_over, short_within}
use Rattle.splits.proofs.short_splits.Goals as goal

pub returns-then-list-gt512 : goal.returns-then-list-gt512
returns-then-list-gt512 c = rw (short_over c.args.list c.args.w c.if-list-gt512.true, c.no_pieces.ensures)

pub returns : goal.returns
returns c = short_within c.positions_below-pos.ensures (omega arith) (rw c.from.ensures at c.lessened.ensures)
