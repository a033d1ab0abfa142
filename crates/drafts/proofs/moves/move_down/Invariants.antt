use Prim.Native.Nat.{◌+◌}
use lib.ListN.{drop}
use Rattle.common.proofs.Copies.{Copied}
use Rattle.drafts.proofs.moves.move_down.Given as goal

abbrev pub invariant-loop-j : goal.invariant-loop-j
invariant-loop-j l = Copied l.initial.s l.at (drop (l.at + l.size) l.initial.s) l.s l.j
