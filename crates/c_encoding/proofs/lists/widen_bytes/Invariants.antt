use Rattle.common.proofs.Copies.{Copied}
use Rattle.c_encoding.proofs.lists.widen_bytes.Given as goal

abbrev pub invariant-loop-i : goal.invariant-loop-i
invariant-loop-i l = Copied l.initial.out l.at l.from l.out l.i
