-- What is printed where the layout puts a text (`TextPlace`, `SheetPlace`) is that byte of the text.
use mathlib.Core.Path.{◌≡◌, refl, sym, ap, ◌∙◌}
use Prim.Native.Nat.{ℕ, ◌+◌, ◌-◌, ◌≤◌, ◌<◌}
use native.Mathlib.Omega.{arith}
use mathlib.Core.List.{List, [], ◌++◌, map}
use lib.ListN.{length, get_or, replicate, length-replicate, length-map, get_or-append}
use lib.Seq.{get_or-append-add}
use Rattle.common.specs.Choice.{pick}
use Rattle.common.proofs.Every.{every_at, every_elem}
use Rattle.common.proofs.Elems.{map_at}
use Rattle.splits.specs.Splits.{named}
use Rattle.settings.specs.declared.Settings.{Settings}
use Rattle.tree.specs.Tree.{Tree}
use Rattle.text.specs.Text.{lines, text_width, text_height}
use Rattle.text.proofs.Measured.{lines_width, lines_height}
use Rattle.sizes.specs.declared.Size.{Size}
use Rattle.sizes.specs.Sizes.{sep, leaf_size}
use Rattle.sizes.specs.Clauses.{Fits}
use Rattle.block.specs.Block.{Leaf, mark, edge, slack_before, indent, text_line, body, top_line, middle, block, block_height, block_width}
use Rattle.block.specs.Promises.{byte_at}
use Rattle.block.proofs.Dimensions.{byte_left, byte_right}
use Rattle.block.proofs.TextLine.{before_le, mode_le}
use Rattle.block.proofs.Dims.{body_dims, left_dims, middle_dims, block_dims}
use Rattle.paint.proofs.Feeds.{feeds_at}
use Rattle.layout.specs.Walk.{leaf_of, leaves}
use Rattle.layout.specs.Promises.{height_at, width_at}
use Rattle.layout.proofs.Fit.{LeafFits, leaves_fit}
use Rattle.leaf.proofs.LeafNumbers.{found_leaf}
use Rattle.sheet.specs.Sheet.{sheet}
use Rattle.sheet.proofs.Bytes.{sheet_is_blocks}
use Rattle.alike.specs.Layout.{TextPlace, SheetPlace}

-- behind two fronts
behind : {A : Type 0} (a b c : List A) (d : A) {n m i : ℕ} (k : ℕ) → length a ≡ n → length b ≡ m → i ≡ n + (m + k) → get_or (a ++ (b ++ c)) i d ≡ get_or c k d
behind a b c d {i = i} k e f g =
    let q : i ≡ length a + (length b + k) = omega arith in
    rw q (get_or-append-add a (b ++ c) (length b + k) d ∙ get_or-append-add b c k d)

module _ (s : Settings) (l : Leaf) (fits : Fits (leaf_size s l.text) l.size) where
  abbrev t : List ℕ
  t = l.text

  abbrev z : Size
  z = l.size

  abbrev slack : ℕ
  slack = z.height - s.top - s.bottom - text_height t

  abbrev inner : ℕ
  inner = z.width - s.left - s.right

  text_at : (x : List ℕ) (k c : ℕ) → k < length x → c ≡ s.left + indent s inner (text_width t) x + k
      → get_or (text_line s inner (text_width t) x) c 0 ≡ get_or x k 0
  unfolding text_line
  text_at x k c h e =
      let i = indent s inner (text_width t) x in
      behind (replicate s.left (get_or s.fills 0 0)) (replicate i 32) _ 0 k (length-replicate s.left _) (length-replicate i 32) (omega arith)
      ∙ get_or-append x _ 0 k h

  body_at : (r i c : ℕ) → r < length (lines t) → i ≡ slack_before s.vertical slack + s.top + r
      → byte_at (body s t z) i c ≡ get_or (text_line s inner (text_width t) (get_or (lines t) r [])) c 0
  unfolding body byte_at
  body_at r i c h e =
      let ls = map (text_line s inner (text_width t)) (lines t) in
      let long : r < length ls = rw (length-map (lines t) (text_line s inner (text_width t))) h in
      ap (λ (x : List ℕ). get_or x c 0)
      (behind (replicate (slack_before s.vertical slack) (replicate z.width 32)) (replicate s.top (replicate z.width (get_or s.fills 2 0))) _ [] r
      (length-replicate (slack_before s.vertical slack) _) (length-replicate s.top _) (omega arith)
      ∙ get_or-append ls _ [] r long
      ∙ map_at (text_line s inner (text_width t)) (lines t) r [] [] h)

  middle_at : (i c : ℕ) → i < z.height → c < z.width → byte_at (middle s l) i (sep s + c) ≡ byte_at (body s t z) i c
  unfolding middle
  middle_at i c p q = byte_right _ i c (left_dims (sep s) (named z.height l.vertical) (mark s 13) (mark s 2) z.height) p
      ∙ byte_left (replicate z.height (edge (sep s) l.flags.last_col (mark s 3))) i c (body_dims s t z fits) p q

  block_at : (i c : ℕ) → i < z.height → byte_at (block s l) (sep s + i) c ≡ byte_at (middle s l) i c
  unfolding block byte_at
  block_at i c p =
      let e : sep s + i ≡ length (replicate (sep s) (top_line s l)) + i = ap (λ n. n + i) (sym (length-replicate (sep s) (top_line s l))) in
      rw e (ap (λ (x : List ℕ). get_or x c 0)
      (get_or-append-add (replicate (sep s) (top_line s l)) _ i [] ∙ get_or-append (middle s l) _ [] i (omega (arith, (middle_dims s l fits).lines))))

  -- the place is within the body
  module _ {i j : ℕ} (p : TextPlace s t z i j) where
    abbrev row : List ℕ
    row = get_or (lines t) p.row []

    low : slack_before s.vertical slack + s.top + p.row < z.height
    unfolding leaf_size
    low = omega (arith, p.row_in, lines_height t, before_le s.vertical slack, fits.tall)

    narrow : s.left + indent s inner (text_width t) row + p.byte < z.width
    unfolding leaf_size indent
    narrow =
        let w = every_at (λ (x : List ℕ). length x ≤ text_width t) (lines t) [] p.row (lines_width t) p.row_in in
        let m = pick s.line_mode (length row) (text_width t) in
        omega (arith, p.byte_in, w, fits.wide, before_le s.horizontal (inner - m), mode_le s.line_mode (length row) (text_width t) w)

    pub below_block : i < block_height s z l.flags
    unfolding block_height
    below_block = omega (arith, p.line_is, low)

    pub beside_block : j < block_width s z l.flags
    unfolding block_width
    beside_block = omega (arith, p.column_is, narrow)

    pub block_text : byte_at (block s l) i j ≡ get_or row p.byte 0
    block_text =
        let i' = slack_before s.vertical slack + s.top + p.row in
        let j' = s.left + indent s inner (text_width t) row + p.byte in
        rw (p.line_is, p.column_is)
        (block_at i' (sep s + j') low
        ∙ middle_at i' j' low narrow
        ∙ body_at p.row i' j' p.row_in refl
        ∙ text_at row p.byte j' p.byte_in refl)

-- ---- the sheet

module _ (s : Settings) (t : Tree) {i : ℕ} (p : SheetPlace s t i) where
  pub sheet_text : get_or (sheet s t) i 0 ≡ get_or (get_or (lines p.leaf.text) p.text.row []) p.text.byte 0
  sheet_text =
      let x = p.leaf in
      let a = found_leaf s t p.node x p.named in
      let fits = every_elem (LeafFits s) (leaves s t) a.index x (leaves_fit s t) a.stands in
      let d = block_dims s (leaf_of x) fits in
      let h : p.line < height_at s x.at = below_block s (leaf_of x) fits p.text in
      let w : p.column < width_at s x.at = beside_block s (leaf_of x) fits p.text in
      rw p.place (sheet_is_blocks s t a.index x a.stands p.line p.column h w ∙ feeds_at (block s (leaf_of x)) d p.line p.column h w
      ∙ block_text s (leaf_of x) fits p.text)
