use native.Mathlib.Omega.{arith}
use Rattle.typed.proofs.OneLine.{spaces_within, plain_none, plain_comment}
use Rattle.typed.proofs.line.read_plain.Goals as goal
use Rattle.typed.proofs.line.read_plain.Goals.{then-n-x-via-then-n-x, then-n-x-via-else-n-x+then-x-n-eq35}

pub bounds-x-n : goal.bounds-x-n
bounds-x-n c = omega (arith, spaces_within c.args.x.now)

pub returns-then-n-x : goal.returns-then-n-x
returns-then-n-x c = rw (← c.indent-n.ensures) (elim c.then-n-x.branch [
  | then-n-x-via-then-n-x w ↦ plain_none _ _ (omega (arith, w.if-n-x.true))
  | then-n-x-via-else-n-x+then-x-n-eq35 w ↦ plain_comment _ _ w.if-x-n-eq35.true (omega (arith, spaces_within c.args.x.now, w.if-n-x.false))
])

pub read_node-requires-clause-here : goal.read_node-requires-clause-here
read_node-requires-clause-here c = (omega (arith, spaces_within c.args.x.now), c.if-x-n-eq35.false)
