use native.Mathlib.Omega.{arith}
use Rattle.common.proofs.Stores.{few_same}
use Rattle.paint.proofs.bytes.few.Goals as goal

pub returns : goal.returns
returns c = let a = c.args in few_same a.n a.byte a.out.now a.at (omega arith) (omega arith)
