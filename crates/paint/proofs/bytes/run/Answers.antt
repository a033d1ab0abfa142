use mathlib.Core.Path.{◌≡◌, ◌∙◌}
use Prim.Native.Nat.{ℕ, suc, ◌+◌, ◌-◌, ◌<◌}
use native.Mathlib.Numerals.{add-one}
use native.Mathlib.Omega.{arith}
use mathlib.Core.List.{List}
use lib.ListN.{set, replicate, length-set}
use lib.Seq.{sets}
use Rattle.paint.proofs.bytes.run.Goals as goal

-- one store, of those from i to `end`
fill_step : (l : List ℕ) (i end b : ℕ) → i < end → sets l i (replicate (end - i) b) ≡ sets (set l i b) (i + 1) (replicate (end - (i + 1)) b)
fill_step l i end b h = let e : end - i ≡ suc (end - (i + 1)) = omega arith in rw (e, add-one)

pub loop-i-preserved : goal.loop-i-preserved
loop-i-preserved c = let a = c.args in
    let k = c.loop-i in
    (rw length-set k.invariant.0, k.invariant.1 ∙ fill_step k.out k.i (a.at + a.n) a.byte (omega arith))
