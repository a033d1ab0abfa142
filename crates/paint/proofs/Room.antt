-- Room for lines: of one line, of the lines after it, of some of the columns.
use mathlib.Core.Path.{◌≡◌}
use Prim.Native.Nat.{ℕ, zero, suc, ◌+◌, ◌-◌, ◌*◌, ◌≤◌, ◌<◌}
use native.Mathlib.Omega.{arith}
use Rattle.paint.specs.Clauses.{Room}

-- ---- the first line, and the lines after it

module _ {at stride n w len : ℕ} (r : Room at stride (suc n) w len) where
  pub room_head : at + w ≤ len
  room_head = omega (arith, r.fits)

  pub room_next : at + stride < 18446744073709551616
  room_next = omega (arith, r.small)

  pub room_tail : Room (at + stride) stride n w len
  room_tail = record { fits = omega (arith, r.fits); small = omega (arith, r.small) }

-- ---- the first a lines, and the m lines after them

module _ {at stride w len : ℕ} (a m : ℕ) (r : Room at stride (a + m) w len) where
  pub room_first : Room at stride a w len
  room_first = record { fits = omega (arith, r.fits); small = omega (arith, r.small) }

  pub room_then : {p len' : ℕ} → p ≡ at + a * stride → len' ≡ len → Room p stride m w len'
  room_then e l = record { fits = omega (arith, r.fits); small = omega (arith, r.small) }

-- ---- behind each line but the last

pub room_feeds : {w n len : ℕ} → w + 1 < 18446744073709551616 → Room 0 (w + 1) n w len → Room w (w + 1) (n - 1) 1 len
room_feeds {w} {n} {len} h r = go n r
  where
    go : (k : ℕ) → Room 0 (w + 1) k w len → Room w (w + 1) (k - 1) 1 len
    go zero q = record { fits = omega (arith, q.fits); small = omega (arith, q.small) }
    go (suc k) q = let e : suc k - 1 ≡ k = omega arith in rw e (record { fits = omega (arith, q.fits); small = omega (arith, q.small) })

-- ---- line k of n

module _ {at stride n w len : ℕ} (k : ℕ) (h : k < n) (r : Room at stride n w len) where
  below : k * stride + stride ≤ n * stride
  below = let e : n ≡ suc k + (n - suc k) = omega arith in rw e (omega arith)

  pub room_at : at + k * stride + w ≤ len
  room_at = omega (arith, below, r.fits)
