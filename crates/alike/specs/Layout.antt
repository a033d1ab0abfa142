-- Where the texts' own bytes are (document 02, 14), by the layout: the margin, the leaf's start, its marks, padding and indents (documents 01, "Block and
-- sheet", and 02, 1).
use Rattle.std.specs.Prelude.{◌≡◌, ℕ, ◌+◌, ◌-◌, ◌*◌, ◌<◌, false, List, [], length, get_or}
use Rattle.std.proofs.Math.Option.{some}
use Rattle.settings.specs.declared.Settings.{Settings}
use Rattle.tree.specs.Tree.{Tree}
use Rattle.text.specs.Text.{lines, text_width, text_height}
use Rattle.sizes.specs.declared.Size.{Size}
use Rattle.sizes.specs.Sizes.{sep}
use Rattle.sizes.specs.Input.{Input, refused, given}
use Rattle.block.specs.Block.{slack_before, indent, block_width}
use Rattle.layout.specs.Walk.{Placed, leaves}
use Rattle.frame.specs.Frame.{W, too_large}
use Rattle.leaf.specs.Answers.{leaf_numbered}

-- line i, column j of the block of a leaf with that text and allotted size is a byte of the text
pub record TextPlace (s : Settings) (text : List ℕ) (z : Size) (i j : ℕ) : Type 0 where
  pub row : ℕ
  pub byte : ℕ
  pub row_in : row < length (lines text)
  pub byte_in : byte < length (get_or (lines text) row [])
  -- below the marks, the indent and the padding
  pub line_is : i ≡ sep s + (slack_before s.vertical (z.height - s.top - s.bottom - text_height text) + s.top + row)
  -- behind the marks, the padding and the line's indent
  pub column_is : j ≡ sep s + (s.left + indent s (z.width - s.left - s.right) (text_width text) (get_or (lines text) row []) + byte)

-- byte i of the sheet is one of the text of leaf `node`, which starts past the margin; the text of an empty Row or Column has no byte
pub record SheetPlace (s : Settings) (t : Tree) (i : ℕ) : Type 0 where
  pub node : ℕ
  pub leaf : Placed
  pub named : leaf_numbered node (leaves s t) ≡ some leaf
  pub line : ℕ
  pub column : ℕ
  pub text : TextPlace s leaf.text leaf.at.size line column
  pub place : i ≡ (s.margin.top + (leaf.at.line + line)) * (W s t + 1) + (s.margin.left + (leaf.at.column + column))

-- byte i of the block of leaf n is one of its text
pub record BlockPlace (s : Settings) (t : Tree) (n i : ℕ) : Type 0 where
  pub leaf : Placed
  pub named : leaf_numbered n (leaves s t) ≡ some leaf
  pub line : ℕ
  pub column : ℕ
  pub text : TextPlace s leaf.text leaf.at.size line column
  pub place : i ≡ line * (block_width s leaf.at.size leaf.at.flags + 1) + column

-- where settings and tree are read and the sheet is within the limits
abbrev pub SheetText : Input → ℕ → Type 0
SheetText (refused k) i = ⊥
SheetText (given s t) i = (too_large s t ≡ false) × SheetPlace s t i

abbrev pub LeafText : Input → ℕ → ℕ → Type 0
LeafText (refused k) n i = ⊥
LeafText (given s t) n i = (too_large s t ≡ false) × BlockPlace s t n i
