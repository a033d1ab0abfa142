-- The lines of a text, one after the other.
use Rattle.std.proofs.Common.{◌≡◌, ℕ, zero, suc, ◌+◌, ◌-◌, ◌<◌, ◌≤◌, Bool, true, false, eqb, List, [], ◌∷◌, length, take, drop, refl, add-one, arith}
use Rattle.std.proofs.Common.{length-drop}
use Rattle.common.specs.Choice.{pick}
use Rattle.text.specs.Clauses.{first_feed}
use Rattle.text.specs.Text.{onto, lines}

-- ---- where a line ends

first_low : (t : List ℕ) → first_feed t ≤ length t
unfolding first_feed
first_low [] = omega arith
first_low (b ∷ t) = go (eqb b 10) (first_feed t) (length t) (first_low t)
  where
    go : (c : Bool) (f n : ℕ) → f ≤ n → pick c 0 (suc f) ≤ suc n
    go true f n h = omega arith
    go false f n h = omega arith

-- ---- the lines from a place on

-- the lines of t from byte `from` on: none where that is past its end
unfoldable pub lines_from : ℕ → List ℕ → List (List ℕ)
lines_from zero t = lines t
lines_from (suc n) [] = []
lines_from (suc n) (b ∷ t) = lines_from n t

pub rest_none : (t : List ℕ) (from : ℕ) → length t < from → lines_from from t ≡ []
unfolding lines_from
rest_none t zero h = absurd (omega arith)
rest_none [] (suc n) h = refl
rest_none (b ∷ t) (suc n) h = rest_none t n (omega arith)

pub lines_first : (t : List ℕ) → lines t ≡ take (first_feed t) t ∷ lines_from (suc (first_feed t)) t
unfolding lines onto first_feed lines_from
lines_first [] = refl
lines_first (b ∷ t) = go (eqb b 10) (first_feed t) (lines t) (lines_first t)
  where
    go : (c : Bool) (f : ℕ) (ls : List (List ℕ)) → ls ≡ take f t ∷ lines_from (suc f) t
        → pick c ([] ∷ lines t) (onto b ls) ≡ take (pick c 0 (suc f)) (b ∷ t) ∷ lines_from (suc (pick c 0 (suc f))) (b ∷ t)
    go true f ls e = refl
    go false f ls e = rw e

rest_first : (t : List ℕ) (from : ℕ) → from ≤ length t
    → lines_from from t ≡ take (first_feed (drop from t)) (drop from t) ∷ lines_from (suc (from + first_feed (drop from t))) t
unfolding lines_from
rest_first t zero h = let e : 0 + first_feed t ≡ first_feed t = omega arith in rw e (lines_first t)
rest_first [] (suc n) h = absurd (omega arith)
rest_first (b ∷ t) (suc n) h =
    let e : suc n + first_feed (drop n t) ≡ suc (n + first_feed (drop n t)) = omega arith in
    rw e (rest_first t n (omega arith))

-- the line that starts at `from` and ends at e
module _ (t : List ℕ) (from : ℕ) (h : from ≤ length t) (e : ℕ) (is : e ≡ from + first_feed (drop from t)) where
  pub line_from : from ≤ e
  line_from = omega arith

  pub line_in : e ≤ length t
  line_in = omega (arith, first_low (drop from t), length-drop from t)

  pub rest_next : lines_from from t ≡ take (e - from) (drop from t) ∷ lines_from (e + 1) t
  rest_next = let d : e - from ≡ first_feed (drop from t) = omega arith in rw (d, is, add-one) (rest_first t from h)

-- ---- as `text` counts and measures them
