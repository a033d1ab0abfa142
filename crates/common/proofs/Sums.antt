-- The sum and the greatest of a list of numbers.
use lib.Seq.{drop-cons}
use native.Mathlib.Numerals.{add-one}
use mathlib.Core.Path.{◌≡◌}
use Prim.Native.Nat.{ℕ, ◌+◌, ◌≤◌, ◌<◌, max, zero, suc}
use native.Mathlib.Omega.{arith}
use mathlib.Core.List.{List, [], ◌∷◌}
use lib.ListN.{length, get_or, drop, drop_of_length-le, set}
use Rattle.common.specs.Sums.{total, greatest}

pub greatest_le : (ns : List ℕ) → greatest ns ≤ total ns
unfolding greatest total
greatest_le [] = omega arith
greatest_le (n ∷ ns) = omega (arith, greatest_le ns)

-- the greatest of what is left, one number after the other
pub greatest_next : (hs : List ℕ) (m i : ℕ) → i < length hs → max m (greatest (drop i hs)) ≡ max (max m (get_or hs i 0)) (greatest (drop (i + 1) hs))
unfolding greatest
greatest_next hs m i h = rw (add-one i, drop-cons hs i 0) (omega arith)

pub greatest_over : (hs : List ℕ) (m i : ℕ) → length hs ≤ i → max m (greatest (drop i hs)) ≡ m
unfolding greatest
greatest_over hs m i h = rw (drop_of_length-le hs {i = i} h) (omega arith)

pub get_d_le : (ns : List ℕ) (i : ℕ) → get_or ns i 0 ≤ greatest ns
unfolding greatest
get_d_le [] i = omega arith
get_d_le (n ∷ ns) zero = omega arith
get_d_le (n ∷ ns) (suc i) = omega (arith, get_d_le ns i)

pub set_greatest : (ns : List ℕ) (i k : ℕ) → i < length ns → get_or ns i 0 ≡ greatest ns → greatest (set ns i (get_or ns i 0 + k)) ≡ greatest ns + k
unfolding greatest
set_greatest [] i k h e = absurd (omega arith)
set_greatest (n ∷ ns) zero k h e = omega arith
set_greatest (n ∷ ns) (suc i) k h e =
    let l = get_d_le ns i in
    omega (arith, set_greatest ns i k (omega arith) (omega arith))
