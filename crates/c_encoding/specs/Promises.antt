-- Definitions used in the statements of the theorems about this crate's functions.
use Rattle.std.specs.Prelude.{◌≡◌, ℕ, ◌/◌, ◌%◌, ltb}
use Rattle.common.specs.Choice.{pick}
use Rattle.typed.specs.declared.Typed.{Typed}

abbrev pub number_in : ℕ → ℕ
number_in w = w / 4294967296 % 256

-- a word whose number is 0 is its count
abbrev pub count_in : ℕ → ℕ
count_in w = pick (ltb w 4294967296) w 0

abbrev pub line_in : ℕ → ℕ
line_in w = w / 1099511627776

abbrev pub column_in : ℕ → ℕ
column_in w = pick (ltb w 4294967296) 0 (w % 4294967296)

-- the whole answer can be decoded from its word
pub record WordTells (w : ℕ) (a : Typed) : Type 0 where
  pub number_is : number_in w ≡ a.number
  pub count_is : count_in w ≡ a.count
  pub line_is : line_in w ≡ a.line
  pub column_is : column_in w ≡ a.column
