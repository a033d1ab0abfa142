-- Definitions used in the statements of the theorems about this crate's functions.
use Rattle.std.specs.Prelude.{ℕ, List, [], get_or}

unfoldable pub byte_at : List (List ℕ) → ℕ → ℕ → ℕ
byte_at x i j = get_or (get_or x i []) j 0
