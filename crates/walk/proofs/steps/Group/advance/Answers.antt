use native.Mathlib.Omega.{arith}
use Prim.Native.Nat.{◌≤◌}
use Rattle.walk.proofs.Pieces.{step_low}
use Rattle.walk.proofs.steps.Group.advance.Goals as goal
use Rattle.walk.proofs.steps.Group.advance.Goals.{then-self, else-self}

pub overflow_mul-result : goal.overflow_mul-result
overflow_mul-result c = let a = c.args in
    let unit : c.if-self.unit ≤ 65536 = elim c.if-self.branch [
      | then-self w ↦ rw w.unit-is (omega arith)
      | else-self w ↦ rw w.unit-is c.requires.stride
    ] in
    omega (arith, step_low a.p.extent a.self.gap _ c.requires.extent c.requires.gap unit)

pub overflow_add-result-2 : goal.overflow_add-result-2
overflow_add-result-2 c = let a = c.args in
    let unit : c.if-self.unit ≤ 65536 = elim c.if-self.branch [
      | then-self w ↦ rw w.unit-is (omega arith)
      | else-self w ↦ rw w.unit-is c.requires.stride
    ] in
    omega (arith, step_low a.p.extent a.self.gap _ c.requires.extent c.requires.gap unit, c.requires.base)

pub returns : goal.returns
returns c = elim c.if-self.branch [
  | then-self w ↦ rw (w.unit-is, w.if-self.true)
  | else-self w ↦ rw (w.unit-is, w.if-self.false)
]
