use native.Mathlib.Omega.{arith}
use Rattle.common.proofs.Stores.{two_same}
use Rattle.paint.proofs.bytes.two_runs.Goals as goal

pub returns : goal.returns
returns g c = let a = c.args in rw (c.run-2.ensures, c.run.ensures) (two_same g.row.K a.n a.byte a.out.now a.at (omega arith) (omega arith))
