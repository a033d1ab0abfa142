use Rattle.splits.proofs.Reach.{Tells}
use Rattle.splits.proofs.SplitList.positions_below.Given as goal

abbrev pub invariant-loop-i : goal.invariant-loop-i
invariant-loop-i l = Tells l.w l.self.count l.self.pieces l.i l.pos l.entries
