-- Definitions used in the statements of the theorems about this crate's functions.
use Rattle.std.specs.Prelude.{ℕ, ◌+◌, ◌-◌, ◌*◌, List, take}
use Rattle.common.specs.Outcome.{Outcome}
use Rattle.frame.specs.declared.Written.{Written}

-- the columns and the 0A after them
abbrev pub stride_of : ℕ → ℕ
stride_of w = w + 1

-- the last line has no 0A
abbrev pub byte_count : ℕ → ℕ → ℕ
byte_count w h = stride_of w * h - 1

-- the bytes that a printer wrote
abbrev pub bytes_written : Outcome Written (List ℕ) → List ℕ
bytes_written p = take p.answer.count p.memory
