-- Contents: lines of bytes, side by side and one under another.
use Rattle.std.specs.Prelude.{ℕ, zero, suc, List, [], ◌∷◌, ◌++◌, replicate}
use Rattle.common.specs.Choice.{pick}
use Rattle.splits.specs.Splits.{is_named}

-- two contents side by side, line by line
unfoldable pub side_by_side : List (List ℕ) → List (List ℕ) → List (List ℕ)
side_by_side [] y = y
side_by_side (l ∷ x) [] = l ∷ x
side_by_side (l ∷ x) (m ∷ y) = (l ++ m) ∷ side_by_side x y

-- bytes one under another, each n times
unfoldable pub column : ℕ → List ℕ → List (List ℕ)
column n [] = []
column n (b ∷ l) = replicate n b ∷ column n l

-- n marks from place i on: b at the places named, c at the others
unfoldable pub ruled : List ℕ → ℕ → ℕ → ℕ → ℕ → List ℕ
unfolding is_named
ruled ns b c i zero = []
ruled ns b c i (suc n) = pick (is_named i ns) b c ∷ ruled ns b c (suc i) n
