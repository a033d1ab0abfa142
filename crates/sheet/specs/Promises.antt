-- Definitions used in the statements of the theorems about this crate's functions.
use Rattle.std.specs.Prelude.{ℕ, ◌+◌, ◌-◌, ◌≤◌, ◌<◌, List, get_or, ltb, ◌≡◌, false}
use Rattle.common.specs.Choice.{pick}
use Rattle.settings.specs.declared.Settings.{Settings}
use Rattle.settings.specs.declared.Margin.{Margin}
use Rattle.tree.specs.Tree.{Tree}
use Rattle.text.specs.Text.{lines, join_lines}
use Rattle.sizes.specs.Input.{given, input_of}
use Rattle.block.specs.Promises.{byte_at}
use Rattle.layout.specs.Walk.{walk, root, inside_w, inside_h}
use Rattle.frame.specs.Frame.{too_large}
use Rattle.sheet.specs.Sheet.{sheet}
use Rattle.sheet.specs.Answers.{sheet_of}
use Rattle.frame.specs.Promises.{bytes_written}

-- the byte at line l, column k, with the margin around h lines of w columns whose bytes `inside` says: a fill, or the byte inside at the place less the margin
unfoldable pub edged_at : Margin → ℕ → ℕ → (ℕ → ℕ → ℕ) → ℕ → ℕ → ℕ
edged_at m h w inside l k =
    pick (ltb k m.left) (get_or m.fills 0 0)
    (pick (ltb k (m.left + w))
    (pick (ltb l m.top) (get_or m.fills 2 0) (pick (ltb l (m.top + h)) (inside (l - m.top) (k - m.left)) (get_or m.fills 3 0)))
    (get_or m.fills 1 0))

-- the sheet inside the margin: the joined content, its lines joined by 0A
unfoldable pub inside_sheet : Settings → Tree → List ℕ
unfolding join_lines walk root
inside_sheet s t = join_lines (walk s t (root s t)).content

-- the input bytes are read as settings and a tree, and the bytes written are their sheet
pub record SheetOf (bs ts o : List ℕ) : Type 0 where
  pub settings : Settings
  pub tree : Tree
  pub input : input_of bs ts ≡ given settings tree
  pub within : too_large settings tree ≡ false
  pub bytes : bytes_written (sheet_of (input_of bs ts) o) ≡ sheet settings tree

-- the byte at line l, column k of bytes that are split into lines at each 0A
abbrev pub place_at : List ℕ → ℕ → ℕ → ℕ
place_at b l k = byte_at (lines b) l k

-- a place of the printed sheet that is not in the margin
pub record InsideMargin (s : Settings) (t : Tree) (l k : ℕ) : Type 0 where
  pub from_line : s.margin.top ≤ l
  pub to_line : l < s.margin.top + inside_h s t
  pub from_column : s.margin.left ≤ k
  pub to_column : k < s.margin.left + inside_w s t
