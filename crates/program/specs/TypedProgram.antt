-- What the program prints of a typed list, for every input: the sheet under the default settings and 0A, or what is wrong.
use Rattle.std.specs.Prelude.{ℕ, List, take, replicate, eqb}
use Rattle.common.specs.Choice.{pick}
use Rattle.common.specs.Outcome.{Outcome}
use Rattle.settings.specs.Defaults.{defaults, settings_bytes}
use Rattle.sizes.specs.Input.{input_of}
use Rattle.typed.specs.declared.Typed.{Typed}
use Rattle.typed.specs.Typed.{typed_of}
use Rattle.program.specs.Program.{printed_of}
use Rattle.program.specs.Words.{fault_text}

-- a refusal of the sheet is reported without a place
abbrev pub sheet_fault : ℕ → List ℕ
sheet_fault k = fault_text k 0 0

-- of a tree's bytes
abbrev pub tree_text : List ℕ → List ℕ
tree_text tree = printed_of sheet_fault (input_of (settings_bytes defaults) tree)

-- of what the reader answered, and the tree's bytes
abbrev pub answer_text : Typed → List ℕ → List ℕ
answer_text a tree = pick (eqb a.number 0) (tree_text tree) (fault_text a.number a.line a.column)

abbrev pub outcome_text : Outcome Typed (List ℕ) → List ℕ
outcome_text x = answer_text x.answer (take x.answer.count x.memory)

-- the reader has room for every tree
unfoldable pub typed_program_of : List ℕ → List ℕ
unfolding printed_of typed_of fault_text
typed_program_of text = outcome_text (typed_of text (replicate 32768 0))
