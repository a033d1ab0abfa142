-- A leaf's block (document 01, "Block and sheet"; `generate_value_table`, `config_borders`).
use Rattle.std.specs.Prelude.{ℕ, ◌+◌, ◌-◌, ◌/◌, Bool, not, List, ◌++◌, map, length, get_or, replicate}
use Rattle.common.specs.Choice.{pick, both}
use Rattle.splits.specs.Splits.{named}
use Rattle.settings.specs.declared.Settings.{Settings}
use Rattle.settings.specs.declared.Alignment.{Alignment}
use Rattle.text.specs.Text.{lines, text_width, text_height}
use Rattle.sizes.specs.declared.Size.{Size}
use Rattle.sizes.specs.Sizes.{sep}
use Rattle.block.specs.declared.Flags.{Flags}
use Rattle.block.specs.Content.{ruled, column, side_by_side}

-- a leaf as its printer gets it: text, allotted size, both split lists, flags
pub record Leaf : Type 0 where
  pub text : List ℕ
  pub size : Size
  pub horizontal : List ℕ
  pub vertical : List ℕ
  pub flags : Flags

-- ---- marks, by their indices in the settings record

unfoldable pub mark : Settings → ℕ → ℕ
mark s i = get_or s.marks i 0

unfoldable pub top_left : Settings → Flags → ℕ
unfolding mark
top_left s f =
    pick f.top_intersection (mark s 14)
    (pick f.top_left (mark s 12)
    (pick f.lean_top (mark s 8)
    (pick (both f.first_col (not f.first_row)) (mark s 12) (mark s 6))))

unfoldable pub top_right : Settings → Flags → ℕ
unfolding mark
top_right s f = pick f.first_row (mark s 7) (mark s 13)

unfoldable pub bottom_left : Settings → Flags → ℕ
unfolding mark
bottom_left s f = pick f.first_col (mark s 9) (mark s 11)

-- a mark, n columns wide, where its side prints
unfoldable pub edge : ℕ → Bool → ℕ → List ℕ
edge n b m = replicate (pick b n 0) m

-- ---- the lines between the marks

-- the part of the slack that comes first: `indent_horizontal`, `indent_vertical`
unfoldable pub slack_before : Alignment → ℕ → ℕ
slack_before Alignment.Start n = 0
slack_before Alignment.Center n = n / 2
slack_before Alignment.End n = n

-- the spaces before a line of a text that is `widest` wide, in `inner` columns
unfoldable pub indent : Settings → ℕ → ℕ → List ℕ → ℕ
unfolding slack_before
indent s inner widest l = slack_before s.horizontal (inner - pick s.line_mode (length l) widest)

unfoldable pub text_line : Settings → ℕ → ℕ → List ℕ → List ℕ
unfolding indent
text_line s inner widest l =
    replicate s.left (get_or s.fills 0 0)
    ++ (replicate (indent s inner widest l) 32
    ++ (l
    ++ (replicate (inner - length l - indent s inner widest l) 32
    ++ replicate s.right (get_or s.fills 1 0))))

-- top indent, top padding, text, bottom padding, bottom indent
unfoldable pub body : Settings → List ℕ → Size → List (List ℕ)
unfolding text_line slack_before lines text_width text_height
body s t z =
    let w = z.width in
    let slack = z.height - s.top - s.bottom - text_height t in
    replicate (slack_before s.vertical slack) (replicate w 32)
    ++ (replicate s.top (replicate w (get_or s.fills 2 0))
    ++ (map (text_line s (w - s.left - s.right) (text_width t)) (lines t)
    ++ (replicate s.bottom (replicate w (get_or s.fills 3 0))
    ++ replicate (slack - slack_before s.vertical slack) (replicate w 32))))

-- ---- the block: its marks are as wide as the separator, and its top and bottom lines as many

-- the top line: `print_top_line`
unfoldable pub top_line : Settings → Leaf → List ℕ
unfolding top_left top_right ruled named mark edge
top_line s l =
    let w = l.size.width in
    replicate (sep s) (top_left s l.flags)
    ++ (ruled (named w l.horizontal) (mark s 11) (mark s 0) 0 w
    ++ edge (sep s) l.flags.last_col (top_right s l.flags))

-- the lines between the top and the bottom: left marks, body, right marks
unfoldable pub middle : Settings → Leaf → List (List ℕ)
unfolding ruled column side_by_side body named mark edge
middle s l =
    let h = l.size.height in
    side_by_side (column (sep s) (ruled (named h l.vertical) (mark s 13) (mark s 2) 0 h))
    (side_by_side (body s l.text l.size) (replicate h (edge (sep s) l.flags.last_col (mark s 3))))

-- the bottom line: `print_bottom_line`
unfoldable pub bottom_line : Settings → Leaf → List ℕ
unfolding bottom_left mark edge
bottom_line s l =
    replicate (sep s) (bottom_left s l.flags)
    ++ (replicate l.size.width (mark s 1)
    ++ edge (sep s) l.flags.last_col (mark s 10))

-- a leaf of width 0 has its marks around no columns
unfoldable pub block : Settings → Leaf → List (List ℕ)
unfolding top_line middle bottom_line
block s l = replicate (sep s) (top_line s l) ++ (middle s l ++ replicate (pick l.flags.last_row (sep s) 0) (bottom_line s l))

-- the lines and columns that a block covers
unfoldable pub block_height : Settings → Size → Flags → ℕ
block_height s z f = sep s + z.height + pick f.last_row (sep s) 0

unfoldable pub block_width : Settings → Size → Flags → ℕ
block_width s z f = sep s + z.width + pick f.last_col (sep s) 0
