-- Numbers stored one after the other (`sets`): their order, stores twice at some places, and what each place holds afterwards.
use mathlib.Core.Path.{◌≡◌, refl, ap, ◌∙◌}
use Prim.Native.Nat.{ℕ, suc, ◌+◌, ◌<◌, ◌≤◌, zero, ◌-◌, ◌/◌}
use native.Mathlib.Omega.{arith}
use native.Mathlib.Nat.{add-zero, le_refl}
use mathlib.Core.List.{List, [], ◌∷◌, ◌++◌}
use lib.ListN.{length, set, drop, get_or, take, replicate, length-take, length-drop}
use lib.Seq.{sets, get_or-set_same, get_or-set_other, set_comm, sets-eq, set-set, drop-drop, take-add, take_all, length-take-le}
use native.Mathlib.Numerals.{add-one}
use Rattle.common.proofs.Padded.{take_replicate, drop_replicate}

-- a place before the others may be stored to last
pub set_sets : (vs l : List ℕ) (i j v : ℕ) → i < j → set (sets l j vs) i v ≡ sets (set l i v) j vs
set_sets [] l i j v h = refl
set_sets (a ∷ vs) l i j v h = set_sets vs (set l j a) i (suc j) v (omega arith) ∙ ap (λ (k : List ℕ). sets k (suc j) vs) (set_comm l j i a v (λ e. omega arith))

pub sets_append : (us vs l : List ℕ) (i : ℕ) → sets l i (us ++ vs) ≡ sets (sets l i us) (i + length us) vs
sets_append [] vs l i = rw (add-zero i)
sets_append (a ∷ us) vs l i = sets_append us vs (set l i a) (suc i) ∙ ap (λ (k : ℕ). sets (sets (set l i a) (suc i) us) k vs) (omega arith)

pub sets_front : (l o : List ℕ) → length l ≤ length o → sets o 0 l ≡ l ++ drop (length l) o
sets_front l o h = let e : 0 + length l ≡ length l = omega arith in sets-eq l o 0 (omega arith) ∙ rw e

-- ---- their order

-- stores before others may come after them
pub sets_sets : (us vs l : List ℕ) (i j : ℕ) → i + length us ≤ j → sets (sets l j vs) i us ≡ sets (sets l i us) j vs
sets_sets [] vs l i j h = refl
sets_sets (a ∷ us) vs l i j h = rw (set_sets vs l i j a (omega arith)) (sets_sets us vs (set l i a) (suc i) j (omega arith))

-- ---- twice at some places

-- stores over no more others
pub sets_over : (m l o : List ℕ) (at : ℕ) → length m ≤ length l → sets (sets o at m) at l ≡ sets o at l
sets_over [] l o at h = refl
sets_over (b ∷ m) [] o at h = absurd (omega arith)
sets_over (b ∷ m) (a ∷ l) o at h =
    rw (set_sets m (set o at b) at (suc at) a (omega arith), set-set o at b a) (sets_over m l (set o at a) (suc at) (omega arith))

-- stores over some of others
pub sets_within : (x m l y o : List ℕ) (at p : ℕ) → length m ≡ length l → p ≡ at + length x → sets (sets o at (x ++ (m ++ y))) p l ≡ sets o at (x ++ (l ++ y))
sets_within x m l y o at p h e =
    rw (
      sets_append x (m ++ y) o at,
      sets_append x (l ++ y) o at,
      e,
      sets_append m y (sets o at x) (at + length x),
      sets_append l y (sets o at x) (at + length x),
      h,
    )
    (rw (
      sets_sets l y (sets (sets o at x) (at + length x) m) (at + length x) (at + length x + length l) (le_refl _),
      sets_over m l (sets o at x) (at + length x) (omega arith),
    ))

-- the first k, and then those from place j on, are all
sets_overlap : (j k : ℕ) (l o : List ℕ) (at : ℕ) → j ≤ k → sets (sets o at (take k l)) (at + j) (drop j l) ≡ sets o at l
sets_overlap zero k l o at h = rw (add-zero at) (sets_over (take k l) l o at (rw length-take (omega arith)))
sets_overlap (suc j) zero l o at h = absurd (omega arith)
sets_overlap (suc j) (suc k) [] o at h = refl
sets_overlap (suc j) (suc k) (a ∷ l) o at h = let e : at + suc j ≡ suc at + j = omega arith in rw e (sets_overlap j k l (set o at a) (suc at) (omega arith))

-- the first k and the last k
pub two_copies : (k : ℕ) (l o : List ℕ) (at : ℕ) → k ≤ length l → length l ≤ k + k
    → sets (sets o at (take k l)) (at + (length l - k)) (take k (drop (length l - k) l)) ≡ sets o at l
two_copies k l o at h i = rw (take_all k (drop (length l - k) l) (rw length-drop (omega arith))) (sets_overlap (length l - k) k l o at (omega arith))

pub two_same : (k n b : ℕ) (o : List ℕ) (at : ℕ) → k ≤ n → n ≤ k + k
    → sets (sets o at (replicate k b)) (at + (n - k)) (replicate k b) ≡ sets o at (replicate n b)
two_same k n b o at h i =
    let e : n - (n - k) ≡ k = omega arith in
    rw (take_replicate k n b h, drop_replicate (n - k) n b, e) at (sets_overlap (n - k) k (replicate n b) o at (omega arith))

-- ---- few

pub no_stores : (l o : List ℕ) (at : ℕ) → length l ≡ 0 → o ≡ sets o at l
no_stores [] o at h = refl
no_stores (a ∷ l) o at h = absurd (omega arith)

-- of up to three the first, the last and the one between
pub few_stores : (l o : List ℕ) (at : ℕ) → 1 ≤ length l → length l ≤ 3
    → set (set (set o at (get_or l 0 0)) (at + (length l - 1)) (get_or l (length l - 1) 0)) (at + length l / 2) (get_or l (length l / 2) 0) ≡ sets o at l
few_stores [] o at h k = absurd (omega arith)
few_stores (a ∷ []) o at h k = rw (add-zero at, set-set, set-set)
few_stores (a ∷ b ∷ []) o at h k = rw (add-one, set-set)
few_stores (a ∷ b ∷ c ∷ []) o at h k =
    let e : at + 2 ≡ suc (suc at) = omega arith in
    rw (e, add-one) (set_comm (set o at a) (suc (suc at)) (suc at) c b (λ d. omega arith))
few_stores (a ∷ b ∷ c ∷ d ∷ l) o at h k = absurd (omega arith)

pub few_same : (n b : ℕ) (o : List ℕ) (at : ℕ) → 1 ≤ n → n ≤ 3 → set (set (set o at b) (at + (n - 1)) b) (at + n / 2) b ≡ sets o at (replicate n b)
few_same zero b o at h k = absurd (omega arith)
few_same (suc zero) b o at h k = few_stores (b ∷ []) o at h k
few_same (suc (suc zero)) b o at h k = few_stores (b ∷ b ∷ []) o at h k
few_same (suc (suc (suc zero))) b o at h k = few_stores (b ∷ b ∷ b ∷ []) o at h k
few_same (suc (suc (suc (suc n)))) b o at h k = absurd (omega arith)

-- ---- eight of a list, by four and four

pub eight_stores : (s o : List ℕ) (at from : ℕ) → from + 8 ≤ length s
    → sets (sets o at (take 4 (drop from s))) (at + 4) (take 4 (drop (from + 4) s)) ≡ sets o at (take 8 (drop from s))
eight_stores s o at from h =
    let t : take 8 (drop from s) ≡ take 4 (drop from s) ++ take 4 (drop (from + 4) s) = take-add 4 4 (drop from s) ∙ rw drop-drop in
    rw (t, sets_append (take 4 (drop from s)) (take 4 (drop (from + 4) s)) o at, length-take-le 4 (drop from s) (rw length-drop (omega arith)))

-- ---- what each place holds

pub sets_below : (vs l : List ℕ) (i j : ℕ) → j < i → get_or (sets l i vs) j 0 ≡ get_or l j 0
sets_below [] l i j h = refl
sets_below (v ∷ vs) l i j h = sets_below vs (set l i v) (suc i) j (omega arith) ∙ get_or-set_other l i j v 0 (λ e. omega arith)

pub sets_first : (v : ℕ) (vs l : List ℕ) (i j : ℕ) → j ≡ i → i < length l → get_or (sets l i (v ∷ vs)) j 0 ≡ v
sets_first v vs l i j e h = rw e (sets_below vs (set l i v) (suc i) i (omega arith) ∙ get_or-set_same l i v 0 h)
