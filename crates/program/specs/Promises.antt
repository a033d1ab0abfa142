-- The words of the theorem about the program for typed lists.
use Rattle.std.specs.Prelude.{◌≡◌, ℕ, List, [], ◌∷◌, ◌++◌}
use Rattle.common.specs.Choice.{pick}
use Rattle.settings.specs.Defaults.{defaults}
use Rattle.tree.specs.Tree.{Tree}
use Rattle.frame.specs.Frame.{too_large}
use Rattle.sheet.specs.Sheet.{sheet}
use Rattle.typed.specs.Scan.{found, scan_lines}
use Rattle.typed.specs.Promises.{typed_nodes}
use Rattle.program.specs.Words.{fault_text}
use Rattle.program.specs.TypedProgram.{typed_program_of}

-- where the list has no fault: the tree that was typed, and its sheet under the default settings and 0A, or that it is too large
pub record PrintsTyped (text : List ℕ) : Type 0 where
  pub root : Tree
  pub lines_are : scan_lines text ≡ found (typed_nodes 0 root)
  pub prints : typed_program_of text ≡ pick (too_large defaults root) (fault_text 6 0 0) (sheet defaults root ++ 10 ∷ [])
