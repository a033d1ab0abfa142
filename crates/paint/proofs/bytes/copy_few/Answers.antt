use native.Mathlib.Omega.{arith}
use Rattle.common.proofs.Stores.{few_stores}
use Rattle.paint.proofs.bytes.copy_few.Goals as goal

pub returns : goal.returns
returns c = let a = c.args in few_stores a.line.now a.out.now a.at (omega arith) (omega arith)
