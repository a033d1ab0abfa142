use lib.ListN.{length}
use Rattle.splits.proofs.Reach.{Goes}
use Rattle.splits.proofs.cut.reach_in.Given as goal

abbrev pub invariant-loop-i : goal.invariant-loop-i
invariant-loop-i l = Goes 1 l.w (length l.pieces) l.pieces l.i l.pos
