use native.Mathlib.Omega.{arith}
use Rattle.common.proofs.Stores.{two_copies}
use Rattle.paint.proofs.bytes.two_copies.Goals as goal

pub returns : goal.returns
returns g c = let a = c.args in rw (c.copy_fixed-2.ensures, c.copy_fixed.ensures) (two_copies _ a.line.now a.out.now a.at (omega arith) (omega arith))
