-- A list copied over another, one element after the other.
use mathlib.Core.Path.{◌≡◌, refl, sym, ap, ◌∙◌}
use Prim.Native.Nat.{ℕ, ◌+◌, ◌≤◌, ◌<◌}
use native.Mathlib.Omega.{arith}
use native.Mathlib.Numerals.{add-one}
use mathlib.Core.List.{List, ◌++◌}
use lib.ListN.{length, get_or, set, drop, length-set, length-append}
use lib.Seq.{sets, sets-eq, paste, paste-zero, paste-suc, drop-paste, get_or-drop, take-length}
use Rattle.common.specs.Writing.{Wrote}
use Rattle.common.proofs.Stores.{sets_append}

-- the first j of src stand in s from `at` on, where d was before
pub record Copied (d : List ℕ) (at : ℕ) (src s : List ℕ) (j : ℕ) : Type 0 where
  pub is : s ≡ paste d at src j
  pub few : j ≤ length src
  pub within : at + length src ≤ length d
  pub long : length s ≡ length d

pub copied_none : (d : List ℕ) (at : ℕ) (src : List ℕ) → at + length src ≤ length d → Copied d at src d 0
copied_none d at src h = record { is = paste-zero d at src; few = omega arith; within = h; long = refl }

module _ (d : List ℕ) (at : ℕ) (src s : List ℕ) (j : ℕ) (k : Copied d at src s j) where
  pub copied_more : j < length src → (v : ℕ) → v ≡ get_or src j 0 → Copied d at src (set s (at + j) v) (j + 1)
  copied_more h v e = record {
    is = rw (e, k.is, add-one j) (paste-suc d at src j 0 (omega (arith, k.within)) h);
    few = omega arith;
    within = k.within;
    long = length-set s (at + j) v ∙ k.long;
  }

  pub copied_all : length src ≤ j → s ≡ paste d at src (length src)
  copied_all h = let e : j ≡ length src = omega (arith, k.few) in rw e at k.is

  -- all of them, and where they end
  pub copied_wrote : length src ≤ j → Wrote (at + j) (at + length src) s (sets d at src)
  copied_wrote h = record { end_is = omega (arith, k.few); out_is = copied_all h ∙ rw (take-length src) (sym (sets-eq src d at k.within)) }

  -- an element that is yet to be copied over is as it was
  pub copied_after : (n : ℕ) → get_or s (at + j + n) 0 ≡ get_or d (at + j + n) 0
  copied_after n = sym (get_or-drop (at + j) s n 0) ∙ ap (λ (x : List ℕ). get_or (drop (at + j) x) n 0) k.is
      ∙ ap (λ (x : List ℕ). get_or x n 0) (drop-paste d at src j (omega (arith, k.within)) k.few) ∙ get_or-drop (at + j) d n 0

-- ---- one list after another

pub then_wrote : (o o₁ o₂ x y : List ℕ) (at r q : ℕ) → Wrote r (at + length x) o₁ (sets o at x) → Wrote q (r + length y) o₂ (sets o₁ r y)
    → Wrote q (at + length (x ++ y)) o₂ (sets o at (x ++ y))
then_wrote o o₁ o₂ x y at r q a b =
    record { end_is = omega (arith, a.end_is, b.end_is, length-append x y); out_is = b.out_is ∙ rw (a.out_is, a.end_is) (sym (sets_append x y o at)) }

-- the same of the lists alone
pub stored_on : (a b o : List ℕ) (at : ℕ) {i : ℕ} {o₁ o₂ : List ℕ} → o₁ ≡ sets o at a → at + length a ≡ i → o₂ ≡ sets o₁ i b → o₂ ≡ sets o at (a ++ b)
stored_on a b o at e k f = rw (sets_append a b o at, k, ← e) f
