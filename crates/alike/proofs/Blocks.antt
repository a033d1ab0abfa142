-- The block of a leaf whose text is replaced byte for byte.
use mathlib.Core.Path.{◌≡◌}
use Prim.Native.Nat.{ℕ, ◌-◌}
use mathlib.Core.Bool.{Bool, not}
use mathlib.Core.List.{List, map}
use lib.ListN.{length, get_or, length-map}
use lib.Dec.{eqb}
use Rattle.common.specs.Choice.{pick, both}
use Rattle.splits.specs.Splits.{named}
use Rattle.settings.specs.declared.Settings.{Settings}
use Rattle.text.specs.Text.{lines, text_width, text_height}
use Rattle.sizes.specs.declared.Size.{Size}
use Rattle.sizes.specs.Sizes.{sep}
use Rattle.block.specs.declared.Flags.{Flags}
use Rattle.block.specs.Block.{Leaf, mark, top_left, top_right, bottom_left, edge, slack_before, indent, text_line, body, top_line, middle, bottom_line, block}
use Rattle.alike.proofs.ReplacedBytes.{lines_recast, width_recast, height_recast}
use Rattle.alike.proofs.RelatedBytes.{Over, Rows, over_append, over_replicate, over_map, over_pick, over_ruled, rows_append, rows_paired, rows_column}
use Rattle.alike.proofs.RelatedBytes.{rows_replicate, rows_map}

-- what a sheet has in addition to the texts' own bytes is related to itself
pub record Surround (R : ℕ → ℕ → Type 0) (s : Settings) : Type 0 where
  pub marks : (i : ℕ) → R (get_or s.marks i 0) (get_or s.marks i 0)
  pub fills : (i : ℕ) → R (get_or s.fills i 0) (get_or s.fills i 0)
  pub edges : (i : ℕ) → R (get_or s.margin.fills i 0) (get_or s.margin.fills i 0)
  pub space : R 32 32
  pub feed : R 10 10

-- the leaf with another text
abbrev pub with_text : (List ℕ → List ℕ) → Leaf → Leaf
with_text g l = record { text = g l.text; size = l.size; horizontal = l.horizontal; vertical = l.vertical; flags = l.flags }

module _ (f : ℕ → ℕ) (mask_keeps : (b : ℕ) → eqb (f b) 10 ≡ eqb b 10) (R : ℕ → ℕ → Type 0) (s : Settings) (p : Surround R s) (own : (b : ℕ) → R (f b) b) where
  m : ℕ → ℕ
  m i = get_or s.marks i 0

  fill : ℕ → ℕ
  fill i = get_or s.fills i 0

  at_mark : (i : ℕ) → R (mark s i) (mark s i)
  unfolding mark
  at_mark i = p.marks i

  at_top_left : (g : Flags) → R (top_left s g) (top_left s g)
  unfolding top_left m mark
  at_top_left g =
      over_pick R g.top_intersection (m 14) _ (p.marks 14)
      (over_pick R g.top_left (m 12) _ (p.marks 12)
      (over_pick R g.lean_top (m 8) _ (p.marks 8)
      (over_pick R (both g.first_col (not g.first_row)) (m 12) (m 6) (p.marks 12) (p.marks 6))))

  at_top_right : (g : Flags) → R (top_right s g) (top_right s g)
  unfolding top_right m mark
  at_top_right g = over_pick R g.first_row (m 7) (m 13) (p.marks 7) (p.marks 13)

  at_bottom_left : (g : Flags) → R (bottom_left s g) (bottom_left s g)
  unfolding bottom_left m mark
  at_bottom_left g = over_pick R g.first_col (m 9) (m 11) (p.marks 9) (p.marks 11)

  at_edge : (b : Bool) (n : ℕ) → R n n → Over R (edge (sep s) b n) (edge (sep s) b n)
  unfolding edge
  at_edge b n r = over_replicate (pick b (sep s) 0) n r

  at_text_line : (inner widest : ℕ) (l : List ℕ) → Over R (text_line s inner widest (map f l)) (text_line s inner widest l)
  unfolding text_line indent fill
  at_text_line inner widest l =
      let i = indent s inner widest l in
      rw (length-map l f)
      (over_append (over_replicate s.left (fill 0) (p.fills 0))
      (over_append (over_replicate i 32 p.space)
      (over_append (over_map f own l)
      (over_append (over_replicate (inner - length l - i) 32 p.space) (over_replicate s.right (fill 1) (p.fills 1))))))

  at_body : (t : List ℕ) (z : Size) → Rows R (body s (map f t) z) (body s t z)
  unfolding body fill
  at_body t z =
      let w = z.width in
      let slack = z.height - s.top - s.bottom - text_height t in
      rw (height_recast f mask_keeps t, width_recast f mask_keeps t, lines_recast f mask_keeps t)
      (rows_append (rows_replicate (slack_before s.vertical slack) (over_replicate w 32 p.space))
      (rows_append (rows_replicate s.top (over_replicate w (fill 2) (p.fills 2)))
      (rows_append (rows_map (text_line s (w - s.left - s.right) (text_width t)) (text_line s (w - s.left - s.right) (text_width t)) (map f)
      (at_text_line (w - s.left - s.right) (text_width t)) (lines t))
      (rows_append (rows_replicate s.bottom (over_replicate w (fill 3) (p.fills 3)))
      (rows_replicate (slack - slack_before s.vertical slack) (over_replicate w 32 p.space))))))

  at_top_line : (l : Leaf) → Over R (top_line s (with_text (map f) l)) (top_line s l)
  unfolding top_line
  at_top_line l =
      over_append (over_replicate (sep s) (top_left s l.flags) (at_top_left l.flags))
      (over_append (over_ruled (named l.size.width l.horizontal) (mark s 11) (mark s 0) 0 l.size.width (at_mark 11) (at_mark 0))
      (at_edge l.flags.last_col (top_right s l.flags) (at_top_right l.flags)))

  at_middle : (l : Leaf) → Rows R (middle s (with_text (map f) l)) (middle s l)
  unfolding middle
  at_middle l =
      let h = l.size.height in
      rows_paired (rows_column (sep s) (over_ruled (named h l.vertical) (mark s 13) (mark s 2) 0 h (at_mark 13) (at_mark 2)))
      (rows_paired (at_body l.text l.size) (rows_replicate h (at_edge l.flags.last_col (mark s 3) (at_mark 3))))

  at_bottom_line : (l : Leaf) → Over R (bottom_line s (with_text (map f) l)) (bottom_line s l)
  unfolding bottom_line
  at_bottom_line l = over_append (over_replicate (sep s) (bottom_left s l.flags) (at_bottom_left l.flags)) (over_append
      (over_replicate l.size.width (mark s 1) (at_mark 1)) (at_edge l.flags.last_col (mark s 10) (at_mark 10)))

  pub block_recast : (l : Leaf) → Rows R (block s (with_text (map f) l)) (block s l)
  unfolding block
  block_recast l = rows_append (rows_replicate (sep s) (at_top_line l)) (rows_append (at_middle l)
      (rows_replicate (pick l.flags.last_row (sep s) 0) (at_bottom_line l)))
