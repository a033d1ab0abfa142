-- Equal numbers one after the other, and numbers with zeros behind them.
use mathlib.Core.Path.{◌≡◌, refl, ◌∙◌}
use Prim.Native.Nat.{ℕ, zero, suc, ◌+◌, ◌-◌, ◌≤◌}
use native.Mathlib.Omega.{arith}
use mathlib.Core.List.{List, [], ◌∷◌, ◌++◌}
use lib.ListN.{length, get_or, take, drop, replicate, length-replicate}
use lib.Seq.{sets, sets-eq}

pub take_replicate : (k n b : ℕ) → k ≤ n → take k (replicate n b) ≡ replicate k b
take_replicate zero n b h = refl
take_replicate (suc k) zero b h = absurd (omega arith)
take_replicate (suc k) (suc n) b h = rw (take_replicate k n b (omega arith))

pub drop_replicate : (k n b : ℕ) → drop k (replicate n b) ≡ replicate (n - k) b
drop_replicate zero n b = let e : n - 0 ≡ n = omega arith in rw e
drop_replicate (suc k) zero b = let e : 0 - suc k ≡ 0 = omega arith in rw e
drop_replicate (suc k) (suc n) b = let e : suc n - suc k ≡ n - k = omega arith in rw e (drop_replicate k n b)

zeros_at : (m n : ℕ) → ◌≡◌ {A = ℕ} (get_or (replicate m 0) n 0) 0
zeros_at zero n = refl
zeros_at (suc m) zero = refl
zeros_at (suc m) (suc n) = zeros_at m n

-- past the numbers all is 0, as past the end
pub padded_at : (vs : List ℕ) (m n : ℕ) → get_or (vs ++ replicate m 0) n 0 ≡ get_or vs n 0
padded_at [] m n = zeros_at m n
padded_at (v ∷ vs) m zero = refl
padded_at (v ∷ vs) m (suc n) = padded_at vs m n

-- numbers stored over zeros
pub sets_padded : (m : ℕ) (vs : List ℕ) → length vs ≤ m → sets (replicate m 0) 0 vs ≡ vs ++ replicate (m - length vs) 0
sets_padded m vs h =
    let l = length-replicate {A = ℕ} m 0 in
    let e : 0 + length vs ≡ length vs = omega arith in
    sets-eq vs (replicate m 0) 0 (omega arith) ∙ rw (e, drop_replicate (length vs) m 0)
