-- The dimensions of a leaf's body and block.
use mathlib.Core.Path.{◌≡◌, refl, ap}
use Prim.Native.Nat.{ℕ, zero, suc, ◌-◌, ◌≤◌, ◌<◌}
use native.Mathlib.Omega.{arith}
use mathlib.Core.Bool.{Bool}
use mathlib.Core.List.{List, [], ◌∷◌}
use lib.ListN.{length, replicate, length-append, length-replicate}
use Rattle.common.specs.Choice.{pick}
use Rattle.splits.specs.Splits.{named}
use Rattle.settings.specs.declared.Settings.{Settings}
use Rattle.text.specs.Text.{text_height}
use Rattle.sizes.specs.declared.Size.{Size}
use Rattle.sizes.specs.Sizes.{sep, leaf_size}
use Rattle.sizes.specs.Clauses.{Fits}
use Rattle.sizes.proofs.Heights.{leaf_height}
use Rattle.block.specs.declared.Flags.{Flags}
use Rattle.block.specs.Content.{ruled, column}
use Rattle.block.specs.Block.{Leaf, mark, edge, slack_before, body, top_line, middle, bottom_line, block, block_height, block_width}
use Rattle.block.proofs.Dimensions.{Dims, dims_append, dims_lines, dims_replicate, dims_move, dims_cons, dims_paired}
use Rattle.block.proofs.TextLine.{before_le, text_dims}

-- ---- the body

pub body_dims : (s : Settings) (t : List ℕ) (z : Size) → Fits (leaf_size s t) z → Dims (body s t z) z.height z.width
unfolding body leaf_size
body_dims s t z fits =
    let slack = z.height - s.top - s.bottom - text_height t in
    let p : slack_before s.vertical slack ≤ slack = before_le s.vertical slack in
    let w = fits.wide in
    let h = fits.tall in
    dims_move
    (dims_append (dims_replicate (slack_before s.vertical slack) z.width _)
    (dims_append (dims_replicate s.top z.width _)
    (dims_append (dims_move (text_dims s t (z.width - s.left - s.right) (omega arith)) refl (omega arith))
    (dims_append (dims_replicate s.bottom z.width _) (dims_replicate (slack - slack_before s.vertical slack) z.width _)))))
    (omega arith) refl

-- ---- the marks

pub length_ruled : (ns : List ℕ) (b c i n : ℕ) → length (ruled ns b c i n) ≡ n
unfolding ruled
length_ruled ns b c i zero = refl
length_ruled ns b c i (suc n) = ap suc (length_ruled ns b c (suc i) n)

column_dims : (n : ℕ) (l : List ℕ) → Dims (column n l) (length l) n
unfolding column
column_dims n [] = record { lines = refl; columns = tt }
column_dims n (b ∷ l) = dims_cons (column_dims n l) (length-replicate n b)

-- n lines of left marks, e columns wide
pub left_dims : (e : ℕ) (ns : List ℕ) (b c n : ℕ) → Dims (column e (ruled ns b c 0 n)) n e
left_dims e ns b c n = dims_move (column_dims e (ruled ns b c 0 n)) (length_ruled ns b c 0 n) refl

pub edges_dims : (h e : ℕ) (b : Bool) (m : ℕ) → Dims (replicate h (edge e b m)) h (pick b e 0)
unfolding edge
edges_dims h e b m = dims_replicate h (pick b e 0) m

-- ---- the block: nothing here unfolds `sep`, it holds for every separator width

pub middle_dims : (s : Settings) (l : Leaf) → Fits (leaf_size s l.text) l.size → Dims (middle s l) l.size.height (block_width s l.size l.flags)
unfolding middle block_width
middle_dims s l fits =
    dims_move
    (dims_paired (left_dims (sep s) (named l.size.height l.vertical) (mark s 13) (mark s 2) l.size.height)
    (dims_paired (body_dims s l.text l.size fits) (edges_dims l.size.height (sep s) l.flags.last_col (mark s 3))))
    refl (omega arith)

top_length : (s : Settings) (l : Leaf) → length (top_line s l) ≡ block_width s l.size l.flags
unfolding top_line block_width
top_length s l = simp (length-append, length-replicate, length_ruled) (omega arith)

bottom_length : (s : Settings) (l : Leaf) → length (bottom_line s l) ≡ block_width s l.size l.flags
unfolding bottom_line block_width
bottom_length s l = simp (length-append, length-replicate) (omega arith)

-- 01's "a leaf's block has 1 + allotted height lines, one more under last_row, of 1 + allotted width columns, one more under last_col", with the separator
-- width for the 1 and the one more
pub block_dims : (s : Settings) (l : Leaf) → Fits (leaf_size s l.text) l.size
    → Dims (block s l) (block_height s l.size l.flags) (block_width s l.size l.flags)
unfolding block block_height
block_dims s l fits =
    dims_move
    (dims_append (dims_lines (sep s) (top_line s l) _ (top_length s l))
    (dims_append (middle_dims s l fits) (dims_lines (pick l.flags.last_row (sep s) 0) (bottom_line s l) _ (bottom_length s l))))
    (omega arith) refl

pub block_some : (s : Settings) (t : List ℕ) (z : Size) (f : Flags) → Fits (leaf_size s t) z → 0 < block_height s z f
unfolding block_height
block_some s t z f fits = omega (arith, fits.tall, leaf_height s t)
