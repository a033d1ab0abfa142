-- What the sheet program prints, for every input (document 01, figure F1).
use Rattle.std.specs.Prelude.{ℕ, ◌+◌, List, [], ◌∷◌, ◌++◌, take, drop}
use Rattle.common.specs.Choice.{pick}
use Rattle.settings.specs.Reading.{settings_end}
use Rattle.sizes.specs.Input.{Input, refused, given, input_of}
use Rattle.frame.specs.Frame.{too_large}
use Rattle.sheet.specs.Sheet.{sheet}

-- `refused `, the number and 0A. Every number that the program prints is under 10 (`Refused`, specs/Clauses.antt): one decimal digit
abbrev pub refused_text : ℕ → List ℕ
refused_text k = 114 ∷ 101 ∷ 102 ∷ 117 ∷ 115 ∷ 101 ∷ 100 ∷ 32 ∷ (48 + k) ∷ 10 ∷ []

-- the sheet and 0A, or the text of the refusal; 8 is none of them: a program has room for every sheet
unfoldable pub printed_of : (ℕ → List ℕ) → Input → List ℕ
unfolding too_large sheet
printed_of text (refused k) = text k
printed_of text (given s t) = pick (too_large s t) (text 6) (sheet s t ++ 10 ∷ [])

-- the settings are the first 31 bytes, and the 11 from a hex 11 behind them on, or all if there are fewer; the rest is the tree
unfoldable pub program_of : List ℕ → List ℕ
unfolding printed_of input_of settings_end
program_of input = printed_of refused_text (input_of (take (settings_end input) input) (drop (settings_end input) input))
