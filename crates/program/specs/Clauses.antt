-- What the programs' own functions ensure.
use Rattle.std.specs.Prelude.{◌≡◌, ℕ, ◌≤◌, ◌<◌, List, length}
use Rattle.std.proofs.lemmas.List.Edits.{sets}
use Rattle.common.specs.Writing.{Wrote}
use Rattle.sizes.specs.Input.{Input}
use Rattle.frame.specs.declared.Written.{Written}
use Rattle.program.specs.Program.{printed_of}

-- no sheet: the number says why, and the output is as it was
pub record Refused (i : Input) (w : Written) (o o₁ : List ℕ) : Type 0 where
  pub is : (text : ℕ → List ℕ) → printed_of text i ≡ text w.number
  pub digit : w.number < 10
  pub out : o₁ ≡ o

-- the sheet and 0A are at the front of the output
pub record Printed (i : Input) (w : Written) (o o₁ : List ℕ) : Type 0 where
  pub wrote : (text : ℕ → List ℕ) → Wrote w.count (length (printed_of text i)) o₁ (sets o 0 (printed_of text i))
  pub within : w.count ≤ 64160

-- one of them, by the number
pub record Ended (i : Input) (w : Written) (o o₁ : List ℕ) : Type 0 where
  pub no : (w.number ≡ 0 → ⊥) → Refused i w o o₁
  pub yes : w.number ≡ 0 → Printed i w o o₁
