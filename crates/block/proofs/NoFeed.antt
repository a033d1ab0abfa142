-- No line of a block holds a 0A.
use mathlib.Core.Logic.{◌≢◌}
use Prim.Native.Nat.{ℕ, zero, suc, ◌-◌}
use mathlib.Core.Bool.{Bool, true, false, not}
use mathlib.Core.List.{List}
use lib.ListN.{length, get_or}
use Rattle.common.specs.Choice.{pick, both}
use Rattle.splits.specs.Splits.{named, is_named}
use Rattle.settings.specs.declared.Settings.{Settings}
use Rattle.text.specs.Text.{text_width, text_height}
use Rattle.text.proofs.JoinedLines.{Free, NoFeed, free_append, free_replicate, free_spaces, more, no_feed_append, no_feed_lines, no_feed_map, no_feed_replicate}
use Rattle.text.proofs.JoinedLines.{none}
use Rattle.sizes.specs.declared.Size.{Size}
use Rattle.sizes.specs.Sizes.{sep}
use Rattle.block.specs.declared.Flags.{Flags}
use Rattle.block.specs.Content.{side_by_side, column, ruled}
use Rattle.block.specs.Block.{Leaf, mark, top_left, top_right, bottom_left, edge, slack_before, indent, text_line, body, top_line, middle, bottom_line, block}

-- no mark and no fill is 0A: they are hex 20 to 7E
pub record NoFeedMarks (s : Settings) : Type 0 where
  pub marks : (i : ℕ) → get_or s.marks i 0 ≢ 10
  pub fills : (i : ℕ) → get_or s.fills i 0 ≢ 10

-- ---- one line

free_pick : (c : Bool) {a b : ℕ} → a ≢ 10 → b ≢ 10 → pick c a b ≢ 10
free_pick true p q = p
free_pick false p q = q

free_ruled : (ns : List ℕ) {b c : ℕ} (i n : ℕ) → b ≢ 10 → c ≢ 10 → Free (ruled ns b c i n)
unfolding ruled
free_ruled ns i zero p q = none
free_ruled ns i (suc n) p q = more (free_pick (is_named i ns) p q) (free_ruled ns (suc i) n p q)

-- ---- contents

free_column : (n : ℕ) {l : List ℕ} → Free l → NoFeed (column n l)
unfolding column
free_column n none = none
free_column n (more p h) = more (free_replicate n p) (free_column n h)

pub no_feed_paired : {x y : List (List ℕ)} → NoFeed x → NoFeed y → NoFeed (side_by_side x y)
unfolding side_by_side
no_feed_paired none k = k
no_feed_paired (more p h) none = more p h
no_feed_paired (more p h) (more q k) = more (free_append p q) (no_feed_paired h k)

-- ---- the block

module _ (s : Settings) (p : NoFeedMarks s) where
  free_mark : (i : ℕ) → mark s i ≢ 10
  unfolding mark
  free_mark i = p.marks i

  free_top_left : (f : Flags) → top_left s f ≢ 10
  unfolding top_left
  free_top_left f =
      free_pick f.top_intersection (p.marks 14)
      (free_pick f.top_left (p.marks 12)
      (free_pick f.lean_top (p.marks 8)
      (free_pick (both f.first_col (not f.first_row)) (p.marks 12) (p.marks 6))))

  free_top_right : (f : Flags) → top_right s f ≢ 10
  unfolding top_right
  free_top_right f = free_pick f.first_row (p.marks 7) (p.marks 13)

  free_bottom_left : (f : Flags) → bottom_left s f ≢ 10
  unfolding bottom_left
  free_bottom_left f = free_pick f.first_col (p.marks 9) (p.marks 11)

  free_edge : (n : ℕ) (b : Bool) {m : ℕ} → m ≢ 10 → Free (edge n b m)
  unfolding edge
  free_edge n b h = free_replicate (pick b n 0) h

  free_text_line : (inner widest : ℕ) (l : List ℕ) → Free l → Free (text_line s inner widest l)
  unfolding text_line
  free_text_line inner widest l h =
      free_append (free_replicate s.left (p.fills 0))
      (free_append (free_spaces (indent s inner widest l))
      (free_append h
      (free_append (free_spaces (inner - length l - indent s inner widest l)) (free_replicate s.right (p.fills 1)))))

  no_feed_body : (t : List ℕ) (z : Size) → NoFeed (body s t z)
  unfolding body
  no_feed_body t z =
      let w = z.width in
      let slack = z.height - s.top - s.bottom - text_height t in
      no_feed_append (no_feed_replicate (slack_before s.vertical slack) (free_spaces w))
      (no_feed_append (no_feed_replicate s.top (free_replicate w (p.fills 2)))
      (no_feed_append (no_feed_map (text_line s (w - s.left - s.right) (text_width t)) (free_text_line (w - s.left - s.right) (text_width t))
      (no_feed_lines t))
      (no_feed_append (no_feed_replicate s.bottom (free_replicate w (p.fills 3)))
      (no_feed_replicate (slack - slack_before s.vertical slack) (free_spaces w)))))

  free_top : (l : Leaf) → Free (top_line s l)
  unfolding top_line
  free_top l =
      free_append (free_replicate (sep s) (free_top_left l.flags))
      (free_append (free_ruled (named l.size.width l.horizontal) 0 l.size.width (free_mark 11) (free_mark 0))
      (free_edge (sep s) l.flags.last_col (free_top_right l.flags)))

  no_feed_middle : (l : Leaf) → NoFeed (middle s l)
  unfolding middle
  no_feed_middle l =
      let h = l.size.height in
      no_feed_paired (free_column (sep s) (free_ruled (named h l.vertical) 0 h (free_mark 13) (free_mark 2)))
      (no_feed_paired (no_feed_body l.text l.size) (no_feed_replicate h (free_edge (sep s) l.flags.last_col (free_mark 3))))

  free_bottom : (l : Leaf) → Free (bottom_line s l)
  unfolding bottom_line
  free_bottom l =
      free_append (free_replicate (sep s) (free_bottom_left l.flags))
      (free_append (free_replicate l.size.width (free_mark 1)) (free_edge (sep s) l.flags.last_col (free_mark 10)))

  pub block_no_feed : (l : Leaf) → NoFeed (block s l)
  unfolding block
  block_no_feed l = no_feed_append (no_feed_replicate (sep s) (free_top l)) (no_feed_append (no_feed_middle l)
      (no_feed_replicate (pick l.flags.last_row (sep s) 0) (free_bottom l)))

-- ---- split at each 0A
