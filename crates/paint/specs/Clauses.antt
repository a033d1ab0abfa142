-- What the functions of this crate require and ensure, beyond the definitions; no theorem mentions it.
use Rattle.std.specs.Prelude.{◌≡◌, ℕ, ◌+◌, ◌*◌, ◌≤◌, ◌<◌, ◌-◌, List, [], ◌∷◌, ◌++◌, map, length, get_or, set, replicate, ltb, Bool, true}
use Rattle.std.proofs.lemmas.List.Edits.{sets}
use Rattle.common.specs.Choice.{pick}
use Rattle.splits.specs.Splits.{named}
use Rattle.settings.specs.declared.Settings.{Settings}
use Rattle.sizes.specs.declared.Size.{Size}
use Rattle.sizes.specs.Sizes.{leaf_size}
use Rattle.sizes.specs.Clauses.{Fits}
use Rattle.block.specs.declared.Flags.{Flags}
use Rattle.block.specs.Block.{Leaf, block_height, block_width, top_left, top_right, bottom_left, edge, slack_before, body}
use Rattle.block.specs.Content.{ruled, column, side_by_side}
use Rattle.paint.specs.declared.body.BodyRows.{BodyRows}
use Rattle.paint.specs.declared.borders.Borders.{Borders}
use Rattle.paint.specs.declared.Begun.{Begun}

-- the bytes o with the lines x written over them: the first at `at`, each `stride` after the one before
unfoldable pub pasted : List ℕ → ℕ → ℕ → List (List ℕ) → List ℕ
pasted o at stride [] = o
pasted o at stride (l ∷ x) = pasted (sets o at l) (at + stride) stride x

-- the bytes o with a 0A behind each but the last of h lines of w bytes, which follow one another from the start on
unfoldable pub fed : ℕ → ℕ → List ℕ → List ℕ
unfolding pasted
fed w h o = pasted o w (w + 1) (replicate (h - 1) (10 ∷ []))

-- n lines of w bytes at those places are within len bytes, and no place after them passes 64 bits
pub record Room (at stride n w len : ℕ) : Type 0 where
  pub fits : at + n * stride + w ≤ len + stride
  pub small : at + n * stride + w < 18446744073709551616

-- the leaf of a text, its size, flags and split lists
abbrev pub leaf_with : List ℕ → Size → Flags → List ℕ → List ℕ → Leaf
leaf_with t z f h v = record { text = t; size = z; horizontal = h; vertical = v; flags = f }

-- what `paint_block` requires: the natural size n of the text t, an allotted size z that holds it, and room for the block
pub record Paintable (s : Settings) (t : List ℕ) (n z : Size) (f : Flags) (h v : List ℕ) (base stride len : ℕ) : Type 0 where
  pub natural_is : n ≡ leaf_size s t
  pub fits : Fits n z
  pub text_small : length t < 65536
  pub width_small : z.width < 65536
  pub height_small : z.height < 65536
  pub few_horizontal : length h ≤ 512
  pub few_vertical : length v ≤ 512
  pub apart : block_width s z f ≤ stride
  pub room : Room base stride (block_height s z f) (block_width s z f) len

-- of n places, `step` apart from `at` on, those named become b
unfoldable pub crossed : List ℕ → ℕ → ℕ → ℕ → List ℕ → ℕ → List ℕ
crossed o at step n [] b = o
crossed o at step n (k ∷ ks) b = crossed (pick (ltb k n) (set o (at + k * step) b) o) at step n ks b

-- how a text of natural size n is placed in the size z
unfoldable pub body_rows_of : Settings → Size → Size → BodyRows
unfolding slack_before
body_rows_of s n z = record {
  above = slack_before s.vertical (z.height - n.height);
  below = z.height - n.height - slack_before s.vertical (z.height - n.height);
  inner = z.width - s.left - s.right;
  widest = n.width - s.left - s.right;
}

-- n lines of w spaces
abbrev pub space_lines : ℕ → ℕ → List (List ℕ)
space_lines n w = replicate n (replicate w 32)

-- a line of the body without its text
unfoldable pub clear : Settings → ℕ → List ℕ
clear s inner = replicate s.left (get_or s.fills 0 0) ++ (replicate inner 32 ++ replicate s.right (get_or s.fills 1 0))

-- the body without its text, which has n lines
unfoldable pub ground : Settings → BodyRows → ℕ → ℕ → List (List ℕ)
unfolding clear
ground s k n w =
    (replicate k.above (replicate w 32) ++ replicate s.top (replicate w (get_or s.fills 2 0)))
    ++ (replicate n (clear s k.inner)
    ++ (replicate s.bottom (replicate w (get_or s.fills 3 0)) ++ replicate k.below (replicate w 32)))

abbrev pub ground_lines : Settings → BodyRows → ℕ → ℕ
ground_lines s k n = k.above + s.top + (n + (s.bottom + k.below))

-- every padding is of spaces
pub record Blank (fills : List ℕ) : Type 0 where
  pub left_is : get_or fills 0 0 ≡ 32
  pub right_is : get_or fills 1 0 ≡ 32
  pub top_is : get_or fills 2 0 ≡ 32
  pub bottom_is : get_or fills 3 0 ≡ 32

-- the marks of a leaf: `config_borders`
unfoldable pub borders_of : Settings → Flags → Borders
unfolding top_left top_right bottom_left
borders_of s f = record {
  marks = set (set (set s.marks 6 (top_left s f)) 7 (top_right s f)) 9 (bottom_left s f);
  right = f.last_col;
  bottom = f.last_row;
}

-- the top line over w columns and the list ps, the left and the right marks of n lines, the bottom line
unfoldable pub top_of : Borders → ℕ → List ℕ → List ℕ
unfolding ruled named edge
top_of b w ps = get_or b.marks 6 0 ∷ (ruled (named w ps) (get_or b.marks 11 0) (get_or b.marks 0 0) 0 w ++ edge 1 b.right (get_or b.marks 7 0))

unfoldable pub left_of : Borders → ℕ → List ℕ → List (List ℕ)
unfolding ruled named column
left_of b n ps = column 1 (ruled (named n ps) (get_or b.marks 13 0) (get_or b.marks 2 0) 0 n)

unfoldable pub right_of : Borders → ℕ → List (List ℕ)
unfolding edge
right_of b n = replicate n (edge 1 b.right (get_or b.marks 3 0))

unfoldable pub bottom_of : Borders → ℕ → List ℕ
unfolding edge
bottom_of b w = get_or b.marks 9 0 ∷ (replicate w (get_or b.marks 1 0) ++ edge 1 b.right (get_or b.marks 10 0))

-- the lines x are replaced by the lines y
pub record Turned (x y : List (List ℕ)) (at stride : ℕ) (o o' : List ℕ) : Type 0 where
  pub done : (b : List ℕ) → o ≡ pasted b at stride x → o' ≡ pasted b at stride y

-- lines g, one for each of ls, are replaced by the lines that f makes of ls, whatever lines follow
pub record LaidOver (g : List ℕ) (f : List ℕ → List ℕ) (ls : List (List ℕ)) (at stride : ℕ) (o o' : List ℕ) : Type 0 where
  pub done : (b : List ℕ) (y : List (List ℕ)) → o ≡ pasted b at stride (replicate (length ls) g ++ y) → o' ≡ pasted b at stride (map f ls ++ y)

-- a block's columns with lines
abbrev pub columns_in : Borders → Size → ℕ
columns_in b z = 1 + (z.width + pick b.right 1 0)

-- what the marks of a block require
pub record Lined (b : Borders) (z : Size) (h v : List ℕ) (base stride len : ℕ) : Type 0 where
  pub width_small : z.width < 65536
  pub height_small : z.height < 65536
  pub few_horizontal : length h ≤ 512
  pub few_vertical : length v ≤ 512
  pub apart : columns_in b z ≤ stride
  pub room : Room base stride (1 + (z.height + pick b.bottom 1 0)) (columns_in b z) len

-- the top line and the left marks
unfoldable pub begun_of : Bool → Borders → Size → List ℕ → List ℕ → ℕ → ℕ → List ℕ → List ℕ
unfolding pasted top_of left_of
begun_of lines b z h v base stride o = pick lines (pasted (sets o base (top_of b z.width h)) (base + stride) stride (left_of b z.height v)) o

-- these are written, and the body begins after them, where there are spaces
pub record BodyBegins (lines : Bool) (b : Borders) (z : Size) (h v : List ℕ) (base stride : ℕ) (r : Begun) (o o' : List ℕ) : Type 0 where
  pub at_is : r.at ≡ base + pick lines (stride + 1) 0
  pub next_is : lines ≡ true → r.next ≡ base + stride + z.height * stride
  pub out_is : o' ≡ pasted (begun_of lines b z h v base stride o) r.at stride (space_lines z.height z.width)

-- what the marks after the body require
pub record Rest (b : Borders) (z : Size) (p : Begun) (stride len : ℕ) : Type 0 where
  pub fits : p.at + z.width < 18446744073709551616
  pub side : Room (p.at + z.width) stride z.height (pick b.right 1 0) len
  pub below : b.bottom ≡ true → p.next + columns_in b z ≤ len

-- the right marks and the bottom line
unfoldable pub ended_of : Bool → Borders → Size → ℕ → Begun → List ℕ → List ℕ
unfolding pasted right_of bottom_of
ended_of lines b z stride p o =
    let right = pasted o (p.at + z.width) stride (right_of b z.height) in
    pick lines (pick b.bottom (sets right p.next (bottom_of b z.width)) right) o

-- the lines between them
unfoldable pub middle_of : Settings → List ℕ → Size → Borders → List ℕ → List (List ℕ)
unfolding left_of right_of body side_by_side
middle_of s t z b ps = side_by_side (left_of b z.height ps) (side_by_side (body s t z) (right_of b z.height))
