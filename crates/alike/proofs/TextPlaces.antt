-- The blocks of a leaf with its text's bytes replaced in two ways differ exactly at the bytes of the text (`TextPlace`).
use mathlib.Core.Path.{◌≡◌, refl, sym, ap, ◌∙◌}
use mathlib.Core.Logic.{◌≢◌}
use Prim.Native.Nat.{ℕ, zero, suc, ◌+◌, ◌-◌, ◌<◌}
use native.Mathlib.Omega.{arith}
use mathlib.Core.List.{List, [], ◌∷◌, ◌++◌, map, append_assoc}
use lib.ListN.{length, get_or, replicate, length-append, length-replicate, length-map}
use lib.Dec.{eqb}
use Rattle.common.specs.Choice.{pick}
use Rattle.common.proofs.Elems.{map_at}
use Rattle.splits.specs.Splits.{named}
use Rattle.settings.specs.declared.Settings.{Settings}
use Rattle.text.specs.Text.{lines, text_width, text_height}
use Rattle.text.proofs.JoinedLines.{Free, NoFeed, none, more, no_feed_lines}
use Rattle.sizes.specs.declared.Size.{Size}
use Rattle.sizes.specs.Sizes.{sep, leaf_size}
use Rattle.sizes.specs.Clauses.{Fits}
use Rattle.block.specs.Block.{Leaf, mark, slack_before, indent, text_line, body, top_line, middle, bottom_line, block, block_width}
use Rattle.block.specs.Promises.{byte_at}
use Rattle.block.proofs.Dimensions.{Dims, dims_paired, dims_move}
use Rattle.block.proofs.TextLine.{text_dims}
use Rattle.block.proofs.Dims.{body_dims, left_dims, edges_dims, middle_dims}
use Rattle.alike.specs.Layout.{TextPlace}
use Rattle.alike.proofs.ReplacedBytes.{lines_recast, width_recast, height_recast, leaf_size_recast}
use Rattle.alike.proofs.Blocks.{with_text}
use Rattle.alike.proofs.Differences.{part_found, part_shown, Differ, Apart, apart_through, apart_move, apart_under, apart_over, apart_right, apart_left}

-- ---- one line

free_at : {l : List ℕ} → Free l → (i : ℕ) → i < length l → get_or l i 0 ≢ 10
free_at none i h = absurd (omega arith)
free_at (more p k) zero h = p
free_at (more p k) (suc i) h = free_at k i (omega arith)

module _ (s : Settings) (f g : ℕ → ℕ) (two : (b : ℕ) → b ≢ 10 → f b ≢ g b) (inner widest : ℕ) where
  -- byte `byte` of line l, at column j
  record InLine (l : List ℕ) (j : ℕ) : Type 0 where
    byte : ℕ
    within : byte < length l
    is : j ≡ s.left + indent s inner widest l + byte

  abbrev ahead : List ℕ → List ℕ
  ahead l = replicate s.left (get_or s.fills 0 0) ++ replicate (indent s inner widest l) 32

  abbrev after : List ℕ → List ℕ
  after l = replicate (inner - length l - indent s inner widest l) 32 ++ replicate s.right (get_or s.fills 1 0)

  line_is : (h : ℕ → ℕ) (l : List ℕ) → text_line s inner widest (map h l) ≡ ahead l ++ (map h l ++ after l)
  unfolding text_line indent
  line_is h l = rw (length-map l h) (sym
      (append_assoc (replicate s.left (get_or s.fills 0 0)) (replicate (indent s inner widest l) 32) (map h l ++ after l)))

  ahead_length : (l : List ℕ) → length (ahead l) ≡ s.left + indent s inner widest l
  ahead_length l = simp (length-append, length-replicate)

  same_length : (l : List ℕ) → length (map f l) ≡ length (map g l)
  same_length l = length-map l f ∙ sym (length-map l g)

  line_found : (l : List ℕ) (j : ℕ) → (get_or (text_line s inner widest (map f l)) j 0 ≡ get_or (text_line s inner widest (map g l)) j 0 → ⊥) → InLine l j
  line_found l j n =
      let p = part_found (ahead l) (map f l) (map g l) (after l) (same_length l) j
      (λ e. n (ap (λ x. get_or x j 0) (line_is f l) ∙ e ∙ sym (ap (λ x. get_or x j 0) (line_is g l)))) in
      record { byte = p.at; within = omega (arith, p.within, length-map l f); is = omega (arith, p.is, ahead_length l) }

  line_shown : {l : List ℕ} → Free l → (j : ℕ) → InLine l j
      → get_or (text_line s inner widest (map f l)) j 0 ≡ get_or (text_line s inner widest (map g l)) j 0 → ⊥
  line_shown {l} k j p e =
      part_shown (ahead l) (map f l) (map g l) (after l) (same_length l) j
      (record {
        at = p.byte;
        is = omega (arith, p.is, ahead_length l);
        within = omega (arith, p.within, length-map l f);
        differ = λ d. two (get_or l p.byte 0) (free_at k p.byte p.within) (sym (map_at f l p.byte 0 0 p.within) ∙ d
            ∙ map_at g l p.byte 0 0 p.within);
      })
      (sym (ap (λ x. get_or x j 0) (line_is f l)) ∙ e ∙ ap (λ x. get_or x j 0) (line_is g l))

  -- ---- the lines of a text

  abbrev shown : (ℕ → ℕ) → List (List ℕ) → List (List ℕ)
  shown h ls = map (text_line s inner widest) (map (map h) ls)

  record InLines (ls : List (List ℕ)) (i j : ℕ) : Type 0 where
    row_in : i < length ls
    line : InLine (get_or ls i []) j

  lines_found : (ls : List (List ℕ)) (i j : ℕ) → Differ (shown f ls) (shown g ls) i j → InLines ls i j
  unfolding byte_at
  lines_found [] i j n = absurd (n refl)
  lines_found (l ∷ ls) zero j n = record { row_in = omega arith; line = line_found l j n }
  lines_found (l ∷ ls) (suc i) j n = let r = lines_found ls i j n in record { row_in = omega (arith, r.row_in); line = r.line }

  lines_shown : {ls : List (List ℕ)} → NoFeed ls → (i j : ℕ) → InLines ls i j → Differ (shown f ls) (shown g ls) i j
  unfolding byte_at
  lines_shown none i j p = absurd (omega (arith, p.row_in))
  lines_shown (more k h) zero j p = line_shown k j p.line
  lines_shown (more k h) (suc i) j p = lines_shown h i j (record { row_in = omega (arith, p.row_in); line = p.line })

-- ---- the block

module _ (s : Settings) (f g : ℕ → ℕ) (keep : (b : ℕ) → eqb (f b) 10 ≡ eqb b 10) (keep' : (b : ℕ) → eqb (g b) 10 ≡ eqb b 10)
    (two : (b : ℕ) → b ≢ 10 → f b ≢ g b) (l : Leaf)
    (fits : Fits (leaf_size s l.text) l.size) where
  abbrev t : List ℕ
  t = l.text

  abbrev z : Size
  z = l.size

  abbrev slack : ℕ
  slack = z.height - s.top - s.bottom - text_height t

  abbrev inner : ℕ
  inner = z.width - s.left - s.right

  -- what is below the text in the body
  abbrev under : List (List ℕ)
  under = replicate s.bottom (replicate z.width (get_or s.fills 3 0)) ++ replicate (slack - slack_before s.vertical slack) (replicate z.width 32)

  abbrev text : (ℕ → ℕ) → List (List ℕ)
  text h = map (text_line s inner (text_width t)) (map (map h) (lines t))

  module _ (h : ℕ → ℕ) (k : (b : ℕ) → eqb (h b) 10 ≡ eqb b 10) where
    body_is : body s (map h t) z ≡ replicate (slack_before s.vertical slack) (replicate z.width 32)
        ++ (replicate s.top (replicate z.width (get_or s.fills 2 0)) ++ (text h ++ under))
    unfolding body
    body_is = rw (height_recast h k t, width_recast h k t, lines_recast h k t)

    text_lines_lem : Dims (text h) (text_height t) z.width
    unfolding leaf_size
    text_lines_lem =
        let w = fits.wide in
        let d : Dims (text h) (text_height t) (s.left + inner + s.right) =
        rw (height_recast h k t, width_recast h k t, lines_recast h k t) at (text_dims s (map h t) inner (rw (width_recast h k t) (omega arith))) in
        dims_move d refl (omega arith)

    body_lines : Dims (body s (map h t) z) z.height z.width
    body_lines = body_dims s (map h t) z (rw (leaf_size_recast h k s t) fits)

    middle_lines : Dims (middle s (with_text (map h) l)) z.height (block_width s z l.flags)
    middle_lines = middle_dims s (with_text (map h) l) (rw (leaf_size_recast h k s t) fits)

  body_apart : Apart (body s (map f t) z) (body s (map g t) z) (slack_before s.vertical slack + s.top) 0 (text f) (text g)
  body_apart =
      rw (body_is f keep, body_is g keep')
      (apart_move
      (apart_through (apart_under (replicate (slack_before s.vertical slack) (replicate z.width 32)) {k = slack_before s.vertical slack} _ _
      (length-replicate _ _))
      (apart_through (apart_under (replicate s.top (replicate z.width (get_or s.fills 2 0))) {k = s.top} _ _ (length-replicate _ _))
      (apart_over under (text_lines_lem f keep) (text_lines_lem g keep'))))
      (omega arith) (omega arith))

  middle_apart : Apart (middle s (with_text (map f) l)) (middle s (with_text (map g) l)) 0 (sep s) (body s (map f t) z) (body s (map g t) z)
  unfolding middle
  middle_apart =
      let r = edges_dims z.height (sep s) l.flags.last_col (mark s 3) in
      apart_move (apart_through
      (apart_right (left_dims (sep s) (named z.height l.vertical) (mark s 13) (mark s 2) z.height) (dims_paired (body_lines f keep) r)
      (dims_paired (body_lines g keep') r))
      (apart_left (body_lines f keep) (body_lines g keep') r)) (omega arith) (omega arith)

  block_apart : Apart (block s (with_text (map f) l)) (block s (with_text (map g) l)) (sep s) 0 (middle s (with_text (map f) l))
      (middle s (with_text (map g) l))
  unfolding block top_line bottom_line
  block_apart =
      apart_move
      (apart_through (apart_under (replicate (sep s) (top_line s l)) _ _ (length-replicate (sep s) (top_line s l)))
      (apart_over (replicate (pick l.flags.last_row (sep s) 0) (bottom_line s l)) (middle_lines f keep) (middle_lines g keep')))
      (omega arith) (omega arith)

  text_apart : Apart (block s (with_text (map f) l)) (block s (with_text (map g) l)) (sep s + (slack_before s.vertical slack + s.top)) (sep s) (text f)
      (text g)
  text_apart = apart_move (apart_through block_apart (apart_through middle_apart body_apart)) (omega arith) (omega arith)

  pub text_found : (i j : ℕ) → Differ (block s (with_text (map f) l)) (block s (with_text (map g) l)) i j → TextPlace s t z i j
  text_found i j n =
      let p = text_apart.found i j n in
      let q = lines_found s f g two inner (text_width t) (lines t) p.line p.column p.differ in
      record {
        row = p.line;
        byte = q.line.byte;
        row_in = q.row_in;
        byte_in = q.line.within;
        line_is = omega (arith, p.line_is);
        column_is = omega (arith, p.column_is, q.line.is);
      }

  pub text_shown : (i j : ℕ) → TextPlace s t z i j → Differ (block s (with_text (map f) l)) (block s (with_text (map g) l)) i j
  text_shown i j p =
      let c = s.left + indent s inner (text_width t) (get_or (lines t) p.row []) + p.byte in
      text_apart.shown i j (record {
        line = p.row;
        column = c;
        line_is = omega (arith, p.line_is);
        column_is = p.column_is;
        differ = lines_shown s f g two inner (text_width t) (no_feed_lines t) p.row c
            (record { row_in = p.row_in; line = record { byte = p.byte; within = p.byte_in; is = refl } });
      })
