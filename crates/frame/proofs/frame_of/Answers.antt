use mir.Val.{Fits}
use mir.Syntax.{w64}
use Prim.Native.Nat.{ℕ, ◌*◌, ◌<◌}
use native.Mathlib.Omega.{arith}
use native.Mathlib.Nat.{mul-le-mul}
use Rattle.frame.proofs.frame_of.Goals as goal

-- what is computed fits
product : (a b : ℕ) → a < 66050 → b < 66050 → Fits w64 (a * b)
product a b p q = let m = mul-le-mul {n₁ = a} {m₁ = b} {n₂ = 66050} {m₂ = 66050} (omega arith) (omega arith) in omega arith

pub overflow_mul-stride : goal.overflow_mul-stride
overflow_mul-stride c = product _ _ (omega arith) (omega arith)
