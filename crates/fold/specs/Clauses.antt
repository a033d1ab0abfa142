-- One fold as the code runs it, and what the code's functions require and ensure.
use Rattle.std.specs.Prelude.{◌≡◌, ℕ, ◌+◌, ◌*◌, ◌≤◌, ◌<◌, max, List, map, Bool, false, length, leb}
use Rattle.common.specs.Choice.{pick}
use Rattle.common.specs.Sums.{greatest}
use Rattle.settings.specs.declared.Settings.{Settings}
use Rattle.tree.specs.Tree.{Tree, cell, group, across, down}
use Rattle.tree.specs.Bytes.{length_at}
use Rattle.tree.specs.Promises.{Encodes}
use Rattle.sizes.specs.declared.Size.{Size}
use Rattle.sizes.specs.Sizes.{sep}
use Rattle.sizes.specs.Collecting.{size_width, size_height}
use Rattle.fold.specs.declared.run.Run.{Run}
use Rattle.fold.specs.Fold.{row_size, columns, one_column}
use Rattle.fold.specs.Answers.{cells?}

-- ---- the bytes of a list

pub record WholeTree (bytes : List ℕ) : Type 0 where
  pub tree : Tree
  pub is : Encodes tree bytes
  pub ends : 3 + length_at bytes ≡ length bytes

-- a Column of Cells
unfoldable pub cells_only : Tree → Bool
cells_only (cell t) = false
cells_only (group across ts) = false
cells_only (group down ts) = cells? ts

-- ---- one fold

-- one cell of width w and height h
abbrev pub run_start : ℕ → ℕ → Run
run_start w h = record { closed = 0; columns = 0; cells = 1; height = h; width = w }

-- one more cell of width w and height h; the separator is g wide
unfoldable pub run_next : Run → ℕ → ℕ → ℕ → ℕ → Run
run_next r g t w h =
    pick (leb (r.height + g + h) t)
    (record { closed = r.closed; columns = r.columns; cells = r.cells + 1; height = r.height + g + h; width = max r.width w })
    (record { closed = r.closed + r.width + g; columns = r.columns + 1; cells = 1; height = h; width = w })

-- after n cells at most
pub record SmallRun (n : ℕ) (r : Run) : Type 0 where
  pub closed : r.closed ≤ 65536 * n
  pub columns : r.columns + 1 ≤ n
  pub cells : r.cells ≤ n
  pub height : r.height ≤ 65536 * n
  pub width : r.width < 65536

-- what `Run::next` requires
pub record ReadyNext (r : Run) (g : ℕ) : Type 0 where
  pub run : SmallRun 200 r
  pub thin : g ≤ 1

-- the cells' natural sizes in two lists, of widths and of heights: 1 to 200 of them; g is the separator's width
pub record Cells (ws hs : List ℕ) (g : ℕ) : Type 0 where
  pub settings : Settings
  pub cells : List Size
  pub widths : ws ≡ map size_width cells
  pub heights : hs ≡ map size_height cells
  pub separator : g ≡ sep settings
  pub thin : g ≤ 1
  pub few : length cells ≤ 200
  pub some : 0 < length cells

-- a whole fold
pub record Runs (s : Settings) (t : ℕ) (zs : List Size) (r : Run) : Type 0 where
  pub row : r.closed + r.width ≡ (row_size s (columns s t zs)).width
  pub count : r.columns + 1 ≡ length (columns s t zs)

-- the same cells, and a lent list of `room` entries that has one for each Column of height t
pub record ColumnsRoom (ws hs : List ℕ) (g t room : ℕ) : Type 0 where
  pub known : Cells ws hs g
  pub enough : length (columns known.settings t known.cells) ≤ room

-- the same cells, with the heights of one Column and of the tallest
pub record Range (ws hs : List ℕ) (g one least : ℕ) : Type 0 where
  pub known : Cells ws hs g
  pub one_is : one ≡ one_column known.settings known.cells
  pub least_is : least ≡ greatest hs

-- the same cells, none wider than the width
pub record Narrow (ws hs : List ℕ) (g width one : ℕ) : Type 0 where
  pub known : Cells ws hs g
  pub one_is : one ≡ one_column known.settings known.cells
  pub narrow : greatest ws ≤ width
