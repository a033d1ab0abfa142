use mathlib.Core.Path.{◌≡◌, refl, sym, ◌∙◌}
use Prim.Native.Nat.{ℕ, suc, ◌+◌, ◌<◌}
use native.Mathlib.Nat.{add-zero}
use native.Mathlib.Numerals.{add-one}
use native.Mathlib.Omega.{arith}
use mathlib.Core.List.{List}
use lib.ListN.{length, drop, get_or, set, length-set, drop_of_length-le}
use lib.Seq.{sets, drop-cons}
use Rattle.common.proofs.copy.copy.Goals as goal

-- one store, of those from i on
copy_step : {A : Type 0} (l s : List A) (at i : ℕ) (x : A) → i < length s → x ≡ get_or s i x
    → sets l (at + i) (drop i s) ≡ sets (set l (at + i) x) (at + (i + 1)) (drop (i + 1) s)
copy_step l s at i x h e = let k : at + (i + 1) ≡ suc (at + i) = omega arith in rw (drop-cons s i x h, ← e, k, add-one)

pub loop-i-init : goal.loop-i-init
loop-i-init g c = (refl, rw add-zero)

pub loop-i-preserved : goal.loop-i-preserved
loop-i-preserved g c = let a = c.args in
    let k = c.loop-i in
    (rw length-set k.invariant.0, k.invariant.1 ∙ copy_step k.out a.from.now a.at k.i _ c.loop-i-test.true c.index-from-i.is)

pub returns : goal.returns
returns g c = let k = c.loop-i in
    record { end_is = refl; out_is = sym (rw (drop_of_length-le c.args.from.now {i = k.i} c.loop-i-test.false) at k.invariant.1) }
