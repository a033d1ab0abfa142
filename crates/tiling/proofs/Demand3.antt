-- `demand_3`, `demand_3_sizes`: demand 3 about what the calls answer and write.
use mathlib.Core.Path.{◌≡◌, refl, sym, ap, ◌∙◌, subst}
use mathlib.Core.Logic.{◌↔◌}
use Prim.Native.Nat.{ℕ, suc, ◌+◌, ◌-◌, ◌*◌, ◌≤◌, ◌<◌}
use native.Mathlib.Omega.{arith}
use mathlib.Core.Bool.{Bool, true, false}
use mathlib.Core.Option.{Option, some, none}
use mathlib.Core.List.{List, map}
use lib.ListN.{length, get_or, get_elem?, take, replicate, get_or-map}
use lib.Seq.{take-append_seam}
use lib.Dec.{ltb}
use borrow.Author.Tests.{ltb-false, le-ltb}
use Rattle.common.specs.Choice.{pick}
use Rattle.common.specs.Sums.{total}
use Rattle.common.proofs.Elems.{elem_none, elem_in, entry_at, elem_at, elem_map}
use Rattle.common.proofs.Every.{every_elem}
use Rattle.common.specs.Outcome.{Outcome}
use Rattle.settings.specs.declared.Settings.{Settings}
use Rattle.settings.specs.Promises.{Ranges}
use Rattle.tree.specs.Tree.{Axis, across, down, Tree, group, Trees, more, count, nodes}
use Rattle.tree.specs.Promises.{subtrees, child_nodes}
use Rattle.tree.proofs.Fronts.{nodes_low, LeafIs, a_cell, an_empty, leaf_nodes}
use Rattle.splits.specs.Lists.{list_of, split_list}
use Rattle.text.specs.Text.{lines, join_lines}
use Rattle.sizes.specs.declared.Size.{Size}
use Rattle.sizes.specs.Sizes.{sep, beside, natural, Sizes, tree_sizes}
use Rattle.sizes.specs.Input.{given, input_of}
use Rattle.sizes.specs.Promises.{sizes_at}
use Rattle.sizes.proofs.Heights.{leaf_height}
use Rattle.sizes.proofs.Nodes.{subtrees_length, sizes_at_lem, part_whole, part_own, tree_naturals}
use Rattle.sizes.proofs.Within.{tree_sizes_length}
use Rattle.sizes.proofs.Listed.{groups_filled, row_filled, column_filled}
use Rattle.sizes.proofs.MeasuredInput.{takes}
use Rattle.collector.specs.declared.Collected.{Collected}
use Rattle.collector.specs.declared.SizeRecord.{SizeRecord}
use Rattle.collector.specs.Below.{belows}
use Rattle.collector.specs.Records.{collect_of}
use Rattle.collector.specs.Promises.{no_size_record, sizes_of, below_in, SizesCollected}
use Rattle.collector.proofs.Zipped.{no_sizes}
use Rattle.collector.proofs.Siblings.{below_at}
use Rattle.collector.proofs.Written.{collected}
use Rattle.block.specs.declared.Flags.{Flags}
use Rattle.block.specs.Block.{block, block_height, block_width}
use Rattle.block.specs.Promises.{byte_at}
use Rattle.block.proofs.Dimensions.{Dims}
use Rattle.layout.specs.Walk.{Placed, leaf_of, leaves, inside_w, inside_h}
use Rattle.layout.specs.Clauses.{place_of}
use Rattle.layout.specs.Promises.{Place, start_at, height_at, width_at, LeafAt, allotted_in}
use Rattle.layout.proofs.Fit.{LeafFits, leaves_fit}
use Rattle.layout.proofs.Named.{same_leaf, leaf_size_lem, leaf_node, node_leaf}
use Rattle.layout.proofs.Starts.{root_start, row_start, column_start, leaf_start}
use Rattle.frame.specs.declared.Written.{Written}
use Rattle.frame.specs.Frame.{W, H, too_large}
use Rattle.frame.specs.Promises.{byte_count}
use Rattle.frame.specs.Printer.{no_print, print_to}
use Rattle.leaf.specs.declared.LeafRecord.{LeafRecord}
use Rattle.leaf.specs.Answers.{leaf_numbered, record_found, leaf_record_of, leaf_print_of}
use Rattle.leaf.specs.Clauses.{block_bytes}
use Rattle.leaf.proofs.Bytes.{block_bytes_lem}
use Rattle.leaf.proofs.Numbers.{childless}
use Rattle.leaf.proofs.LeafNumbers.{leaf_found, found_leaf}
use Rattle.sheet.specs.Answers.{sheet_of}
use Rattle.sheet.specs.Sheet.{sheet}
use Rattle.sheet.specs.Promises.{SheetOf}
use Rattle.sheet.proofs.SheetLines.{block_split}
use Rattle.sheet.proofs.Bytes.{leaf_dims}
use Rattle.sheet.proofs.Tiling.{Covers}
use Rattle.sheet.proofs.Demand3.{covered_once, sheet_rectangle, place_owned}
use Rattle.sheet.proofs.Calls.{sheet_printed}
use Rattle.leaf.proofs.Written.{leaf_written}
use Rattle.tiling.specs.Promises.{sizes_written, allotted_written, lines_in, byte_in, Rectangle, OneNode, leaf_text, start_in, block_lines, block_columns}
use Rattle.tiling.specs.Promises.{BlockCovers, leaf_seen, inside_lines, inside_columns, InRectangle, Tiles, Sharing, Tiled, SharedOut}

-- ---- what the size collector wrote: the sizes of all nodes, and the counts of nodes below them

module _ (s : Settings) (t : Tree) (c : Outcome Collected (List SizeRecord)) (z : map sizes_of (take c.answer.count c.memory) ≡ tree_sizes s t) where
  record_sizes : (n : ℕ) → sizes_of (sizes_written c n) ≡ sizes_at (tree_sizes s t) n
  unfolding sizes_at
  record_sizes n = sym (get_or-map sizes_of (take c.answer.count c.memory) n no_size_record) ∙ ap (λ (zs : List Sizes). get_or zs n no_sizes) z

  allotted_are : allotted_written c ≡ allotted_in (tree_sizes s t)
  allotted_are = λ i n. ap (λ (y : Sizes). y.allotted) (record_sizes n) i

  root_size : allotted_written c 0 ≡ natural s t
  unfolding tree_sizes
  root_size = ap (λ (y : Sizes). y.allotted) (record_sizes 0 ∙ (part_own s t (natural s t) (part_whole (tree_sizes s t))).is)

  leaf_sized : {n : ℕ} {f : Placed} → LeafAt s t n f → allotted_written c n ≡ f.at.size
  leaf_sized {n} p = ap (λ (y : Sizes). y.allotted) (record_sizes n ∙ sizes_at_lem (tree_sizes s t) n _ (leaf_size_lem s t p))

  leaf_starts : {n : ℕ} {f : Placed} → LeafAt s t n f → start_at s (allotted_written c) t n ≡ place_of f.at
  leaf_starts {n} p = ap (λ (size : ℕ → Size). start_at s size t n) allotted_are ∙ sym (leaf_start s t p)

below_is : (t : Tree) (c : Outcome Collected (List SizeRecord)) → map below_in (take c.answer.count c.memory) ≡ belows t → (n : ℕ)
    → (sizes_written c n).below ≡ get_or (belows t) n 0
below_is t c z n = sym (get_or-map below_in (take c.answer.count c.memory) n no_size_record) ∙ ap (λ (l : List ℕ). get_or l n 0) z

-- ---- the leaves

leaf_text_lem : {u : Tree} {text : List ℕ} → LeafIs u text → leaf_text u ≡ text
leaf_text_lem a_cell = refl
leaf_text_lem an_empty = refl

listed : (l : List ℕ) → list_of (split_list l) ≡ l
listed l = take-append_seam l (replicate (512 - length l) 0)

room_case : (d : Bool) (bytes o : List ℕ) (p : Outcome Written (List ℕ)) → ltb (length o) (length bytes) ≡ d → (pick d (no_print 8 o) p).answer.number ≡ 0
    → length bytes ≤ length o
room_case true bytes o p e h = absurd (omega arith)
room_case false bytes o p e h = ltb-false (length o) (length bytes) e

rectangle : {p : Outcome Written (List ℕ)} {h k w v : ℕ} → h ≡ k → w ≡ v → Dims (lines_in p) h w → Rectangle p k v
rectangle x y d = rw (← x, ← y) (record { lines = d.lines; columns = d.columns })

-- the bytes are those of settings and tree, within the limits
module _ (bs ts : List ℕ) (s : Settings) (t : Tree) (i : input_of bs ts ≡ given s t) (g : too_large s t ≡ false) where
  record_is : (n : ℕ) → leaf_record_of (input_of bs ts) n ≡ record_found (leaf_numbered n (leaves s t))
  unfolding leaf_record_of
  record_is n = rw (i, g)

  -- node n is a leaf: its place in the walk, and its record as answered
  record Answered (n : ℕ) : Type 0 where
    leaf : Placed
    named : LeafAt s t n leaf
    answer : leaf_record_of (input_of bs ts) n ≡ record_found (some leaf)

  answered_case : (n : ℕ) (x : Option Placed) → leaf_numbered n (leaves s t) ≡ x → (record_found x).number ≡ 0 → Answered n
  answered_case n none e h = absurd (omega arith)
  answered_case n (some f) e h = record { leaf = f; named = found_leaf s t n f e; answer = record_is n ∙ ap record_found e }

  answered : (n : ℕ) → (leaf_record_of (input_of bs ts) n).number ≡ 0 → Answered n
  answered n h = answered_case n (leaf_numbered n (leaves s t)) refl (rw (record_is n) at h)

  leaf_answers : {n : ℕ} {f : Placed} → LeafAt s t n f → (leaf_record_of (input_of bs ts) n).number ≡ 0
  leaf_answers {n} p = ap (λ (r : LeafRecord). r.number) (record_is n ∙ ap record_found (leaf_found s t p))

  -- what the leaf printer answers
  prints : {n : ℕ} {f : Placed} → LeafAt s t n f → (o : List ℕ) → leaf_print_of (input_of bs ts) n o ≡ print_to (join_lines (block s (leaf_of f))) o
  unfolding leaf_print_of
  prints p o = rw (i, g, leaf_found s t p)

  -- and for a leaf with enough lent, in lines
  module _ (r : Ranges s) {n : ℕ} {f : Placed} (p : LeafAt s t n f) where
    fits : LeafFits s f
    fits = every_elem (LeafFits s) (leaves s t) p.index f (leaves_fit s t) p.stands

    needed : length (join_lines (block s (leaf_of f))) ≡ byte_count (width_at s f.at) (height_at s f.at)
    unfolding block_bytes
    needed = omega (arith, block_bytes_lem s (leaf_of f) fits)

    room : (o : List ℕ) → (leaf_print_of (input_of bs ts) n o).answer.number ≡ 0 → length (join_lines (block s (leaf_of f))) ≤ length o
    room o h = room_case (ltb (length o) (length (join_lines (block s (leaf_of f))))) (join_lines (block s (leaf_of f))) o _ refl (rw (prints p o) at h)

    bytes_are : (o : List ℕ) → (leaf_print_of (input_of bs ts) n o).answer.number ≡ 0
        → take (leaf_print_of (input_of bs ts) n o).answer.count (leaf_print_of (input_of bs ts) n o).memory ≡ join_lines (block s (leaf_of f))
    bytes_are o h = rw i (leaf_written s t o g p (room o h)).bytes_are

    lines_are : (o : List ℕ) → (leaf_print_of (input_of bs ts) n o).answer.number ≡ 0 → lines_in (leaf_print_of (input_of bs ts) n o) ≡ block s (leaf_of f)
    unfolding block_height
    lines_are o h =
        ap lines (bytes_are o h)
        ∙ block_split s f r (omega (arith, (leaf_dims s t p.index f p.stands).lines, fits.tall, leaf_height s f.text))

  -- ---- the leaves' blocks, and the rectangle, by the sizes that were written

  module _ (c : Outcome Collected (List SizeRecord)) (z : map sizes_of (take c.answer.count c.memory) ≡ tree_sizes s t) where
    module _ {n : ℕ} (d : Answered n) where
      flags_are : (leaf_record_of (input_of bs ts) n).flags ≡ d.leaf.at.flags
      flags_are = ap (λ (r : LeafRecord). r.flags) d.answer

      line_is : (start_in bs ts s t c n).line ≡ d.leaf.at.line
      line_is = ap (λ (q : Place). q.line) (leaf_starts s t c z d.named)

      column_is : (start_in bs ts s t c n).column ≡ d.leaf.at.column
      column_is = ap (λ (q : Place). q.column) (leaf_starts s t c z d.named)

      tall_is : block_lines bs ts s t c n ≡ height_at s d.leaf.at
      unfolding block_height
      tall_is = ap (λ (k : Flags). block_height s (allotted_written c n) k) flags_are
          ∙ ap (λ (y : Size). block_height s y d.leaf.at.flags) (leaf_sized s t c z d.named)

      wide_is : block_columns bs ts s t c n ≡ width_at s d.leaf.at
      unfolding block_width
      wide_is = ap (λ (k : Flags). block_width s (allotted_written c n) k) flags_are
          ∙ ap (λ (y : Size). block_width s y d.leaf.at.flags) (leaf_sized s t c z d.named)

      covers : {l k : ℕ} → BlockCovers bs ts s t c n l k → Covers s d.leaf l k
      covers v = record {
        from_line = omega (arith, line_is, v.from_line);
        to_line = omega (arith, line_is, tall_is, v.to_line);
        from_column = omega (arith, column_is, v.from_column);
        to_column = omega (arith, column_is, wide_is, v.to_column);
      }

      covered : {l k : ℕ} → Covers s d.leaf l k → BlockCovers bs ts s t c n l k
      covered v = record {
        leaf = leaf_answers d.named;
        from_line = omega (arith, line_is, v.from_line);
        to_line = omega (arith, line_is, tall_is, v.to_line);
        from_column = omega (arith, column_is, v.from_column);
        to_column = omega (arith, column_is, wide_is, v.to_column);
      }

      seen : leaf_seen bs ts s t c n ≡ leaf_of d.leaf
      seen =
          let node = leaf_node s t d.named in
          let a : leaf_text (get_or (subtrees t) n t) ≡ d.leaf.text = ap leaf_text (entry_at (subtrees t) n node.tree t node.node_is)
          ∙ leaf_text_lem node.leaf in
          let b : allotted_written c n ≡ d.leaf.at.size = leaf_sized s t c z d.named in
          let h : list_of (leaf_record_of (input_of bs ts) n).horizontal ≡ d.leaf.at.horizontal = ap (λ (r : LeafRecord). list_of r.horizontal) d.answer
          ∙ listed d.leaf.at.horizontal in
          let v : list_of (leaf_record_of (input_of bs ts) n).vertical ≡ d.leaf.at.vertical = ap (λ (r : LeafRecord). list_of r.vertical) d.answer
          ∙ listed d.leaf.at.vertical in
          rw (a, b, h, v, flags_are)

    lines_inside : inside_lines bs ts s t c ≡ inside_h s t
    unfolding inside_h
    lines_inside = omega (arith, ap (λ (y : Size). y.height) (root_size s t c z))

    columns_inside : inside_columns bs ts s t c ≡ inside_w s t
    unfolding inside_w
    columns_inside = omega (arith, ap (λ (y : Size). y.width) (root_size s t c z))

    -- ---- each sentence

    each_place : (l k : ℕ) → InRectangle bs ts s t c l k → OneNode (λ n. BlockCovers bs ts s t c n l k)
    each_place l k v =
        let one = covered_once s t l k (omega (arith, lines_inside, v.line)) (omega (arith, columns_inside, v.column)) in
        let d = answered one.node (leaf_answers one.named) in
        record {
          node = one.node;
          has = covered d (rw (same_leaf s t {f = d.leaf} {g = one.leaf} d.named one.named) one.covered);
          only = λ m w. let e = answered m w.leaf in one.only m e.leaf e.named (covers e w);
        }

    none_outside : (n l k : ℕ) → BlockCovers bs ts s t c n l k → InRectangle bs ts s t c l k
    none_outside n l k w =
        let d = answered n w.leaf in
        let v = Rattle.sheet.proofs.Demand3.none_outside s t d.named l k (covers d w) in
        record { line = omega (arith, lines_inside, v.0); column = omega (arith, columns_inside, v.1) }

    none_shared : (n m l k : ℕ) → BlockCovers bs ts s t c n l k → BlockCovers bs ts s t c m l k → n ≡ m
    none_shared n m l k v w = let one = each_place l k (none_outside n l k v) in one.only n v ∙ sym (one.only m w)

    module _ (r : Ranges s) where
      defined : (n : ℕ) → (leaf_record_of (input_of bs ts) n).number ≡ 0 → (o₁ : List ℕ) → (leaf_print_of (input_of bs ts) n o₁).answer.number ≡ 0
          → lines_in (leaf_print_of (input_of bs ts) n o₁) ≡ block s (leaf_seen bs ts s t c n)
      defined n h o₁ e = let d = answered n h in lines_are r d.named o₁ e ∙ ap (block s) (sym (seen d))

      block_is : (n : ℕ) → (leaf_record_of (input_of bs ts) n).number ≡ 0 → (o₁ : List ℕ) → (leaf_print_of (input_of bs ts) n o₁).answer.number ≡ 0
          → Rectangle (leaf_print_of (input_of bs ts) n o₁) (block_lines bs ts s t c n) (block_columns bs ts s t c n)
      block_is n h o₁ e =
          let d = answered n h in
          let y : Dims (lines_in (leaf_print_of (input_of bs ts) n o₁)) (height_at s d.leaf.at) (width_at s d.leaf.at) =
          rw (lines_are r d.named o₁ e) (leaf_dims s t d.named.index d.leaf d.named.stands) in
          rectangle (sym (tall_is d)) (sym (wide_is d)) y

      enough : (n : ℕ) → (leaf_record_of (input_of bs ts) n).number ≡ 0 → (o₁ : List ℕ)
          → ((leaf_print_of (input_of bs ts) n o₁).answer.number ≡ 0) ↔ (byte_count (block_columns bs ts s t c n) (block_lines bs ts s t c n) ≤ length o₁)
      enough n h o₁ =
          let d = answered n h in
          rw (tall_is d, wide_is d, ← needed r d.named)
          (λ e. room r d.named o₁ e, λ e. rw (prints d.named o₁, le-ltb (length o₁) (length (join_lines (block s (leaf_of d.leaf)))) e))

      module _ (o : List ℕ) (b : take (sheet_of (input_of bs ts) o).answer.count (sheet_of (input_of bs ts) o).memory ≡ sheet s t) where
        sheet_is : Rectangle (sheet_of (input_of bs ts) o) (s.margin.top + inside_lines bs ts s t c + s.margin.bottom)
            (s.margin.left + inside_columns bs ts s t c + s.margin.right)
        unfolding H W
        sheet_is = rw (lines_inside, columns_inside) (rectangle refl refl (rw b (sheet_rectangle s t r)))

        same_byte : (n l k : ℕ) → BlockCovers bs ts s t c n l k → (o₁ : List ℕ) → (leaf_print_of (input_of bs ts) n o₁).answer.number ≡ 0
            → byte_in (sheet_of (input_of bs ts) o) (s.margin.top + l) (s.margin.left + k)
            ≡ byte_in (leaf_print_of (input_of bs ts) n o₁) (l - (start_in bs ts s t c n).line) (k - (start_in bs ts s t c n).column)
        unfolding byte_at
        same_byte n l k w o₁ e =
            let d = answered n w.leaf in
            rw (b, bytes_are r d.named o₁ e, line_is d, column_is d) (place_owned s t r d.named l k (covers d w))

      -- the leaves are the nodes with none below
      module _ (counted : c.answer.count ≡ nodes t) (below : map below_in (take c.answer.count c.memory) ≡ belows t) where
        leaf_counted : (n : ℕ) → (leaf_record_of (input_of bs ts) n).number ≡ 0 → (n < c.answer.count) × ((sizes_written c n).below ≡ 0)
        leaf_counted n h =
            let node = leaf_node s t (answered n h).named in (
              omega (arith, elem_in (subtrees t) n node.tree node.node_is, subtrees_length t),
              omega (arith, below_is t c below n, below_at t n node.tree node.node_is, leaf_nodes node.leaf),
            )

        counted_leaf : (n : ℕ) → (n < c.answer.count) × ((sizes_written c n).below ≡ 0) → (leaf_record_of (input_of bs ts) n).number ≡ 0
        counted_leaf n h =
            elem_at (subtrees t) n (omega (arith, subtrees_length t, h.0))
            (λ u e. childless u (omega (arith, h.1, below_is t c below n, below_at t n u e, nodes_low u))
            (λ text k. let y = node_leaf s t n text (record { tree = u; node_is = e; leaf = k }) in
            leaf_answers (record { index = y.index; stands = y.stands; number = y.number })))

-- ---- the sizes

module _ (bs ts : List ℕ) (s : Settings) (t : Tree) (c : Outcome Collected (List SizeRecord)) (counted : c.answer.count ≡ nodes t)
    (z : map sizes_of (take c.answer.count c.memory) ≡ tree_sizes s t) where
  widths_are : ◌≡◌ {A = ℕ → ℕ} (λ m. (sizes_written c m).width) (λ m. (sizes_at (tree_sizes s t) m).allotted.width)
  widths_are = λ i m. ap (λ (y : Sizes). y.allotted.width) (record_sizes s t c z m) i

  heights_are : ◌≡◌ {A = ℕ → ℕ} (λ m. (sizes_written c m).height) (λ m. (sizes_at (tree_sizes s t) m).allotted.height)
  heights_are = λ i m. ap (λ (y : Sizes). y.allotted.height) (record_sizes s t c z m) i

  rows : (n : ℕ) (us : Trees) → get_elem? (subtrees t) n ≡ some (group across us) → 0 < count us
      → total (map (λ m. (sizes_written c m).width) (child_nodes (suc n) us)) + (count us - 1) * sep s ≡ (sizes_written c n).width
  rows n us e h = subst (λ (w : ℕ → ℕ). total (map w (child_nodes (suc n) us)) + (count us - 1) * sep s ≡ w n) (sym widths_are) (row_filled s t n us e h)

  columns : (n : ℕ) (us : Trees) → get_elem? (subtrees t) n ≡ some (group down us) → 0 < count us
      → total (map (λ m. (sizes_written c m).height) (child_nodes (suc n) us)) + (count us - 1) * sep s ≡ (sizes_written c n).height
  columns n us e h = subst (λ (w : ℕ → ℕ). total (map w (child_nodes (suc n) us)) + (count us - 1) * sep s ≡ w n) (sym heights_are) (column_filled s t n us e h)

  children : (n : ℕ) (a : Axis) (us : Trees) → get_elem? (subtrees t) n ≡ some (group a us) → (i m : ℕ) → get_elem? (child_nodes (suc n) us) i ≡ some m
      → (m < c.answer.count) × ((sizes_written c m).natural_width ≤ (sizes_written c m).width)
      × ((sizes_written c m).natural_height ≤ (sizes_written c m).height)
  unfolding child_nodes count
  children n a Trees.none e i m d = elem_none i m d
  children n a (more u us) e i m d =
      let f = (groups_filled s t n a (more u us) e (omega arith)).each i m d in
      let x = record_sizes s t c z m in (
        omega (arith, f.there, tree_sizes_length s t),
        omega (arith, f.fits.wide, ap (λ (y : Sizes). y.natural.width) x, ap (λ (y : Sizes). y.allotted.width) x),
        omega (arith, f.fits.tall, ap (λ (y : Sizes). y.natural.height) x, ap (λ (y : Sizes). y.allotted.height) x),
      )

  row_heights : (n : ℕ) (us : Trees) → get_elem? (subtrees t) n ≡ some (group across us) → (i m : ℕ) → get_elem? (child_nodes (suc n) us) i ≡ some m
      → (sizes_written c m).height ≡ (sizes_written c n).height
  unfolding child_nodes count beside
  row_heights n Trees.none e i m d = elem_none i m d
  row_heights n (more u us) e i m d =
      subst (λ (h : ℕ → ℕ). h m ≡ h n) (sym heights_are) ((groups_filled s t n across (more u us) e (omega arith)).each i m d).same

  column_widths : (n : ℕ) (us : Trees) → get_elem? (subtrees t) n ≡ some (group down us) → (i m : ℕ) → get_elem? (child_nodes (suc n) us) i ≡ some m
      → (sizes_written c m).width ≡ (sizes_written c n).width
  unfolding child_nodes count beside
  column_widths n Trees.none e i m d = elem_none i m d
  column_widths n (more u us) e i m d =
      subst (λ (w : ℕ → ℕ). w m ≡ w n) (sym widths_are) ((groups_filled s t n down (more u us) e (omega arith)).each i m d).same

  natural_is : (n : ℕ) (u : Tree) → get_elem? (subtrees t) n ≡ some u → (sizes_at (tree_sizes s t) n).natural ≡ natural s u
  unfolding sizes_at
  natural_is n u e =
      sym (get_or-map (λ (y : Sizes). y.natural) (tree_sizes s t) n no_sizes)
      ∙ ap (λ (l : List Size). get_or l n no_sizes.natural) (tree_naturals s t)
      ∙ entry_at (map (natural s) (subtrees t)) n (natural s u) no_sizes.natural (elem_map (natural s) (subtrees t) n u e)

  sharing : Sharing bs ts s t c
  sharing = record {
    counted = counted;
    rows = rows;
    columns = columns;
    children = children;
    row_heights = row_heights;
    column_widths = column_widths;
    naturals = λ n u e. let x = ap (λ (y : Sizes). y.natural) (record_sizes s t c z n)
        ∙ natural_is n u e in (ap (λ (y : Size). y.width) x, ap (λ (y : Size). y.height) x);
  }

-- ---- demand 3

-- where the size collector answers 0
pub demand_3_sizes : (bs ts : List ℕ) (l : List SizeRecord) → (collect_of (input_of bs ts) l).answer.number ≡ 0 → SharedOut bs ts l
demand_3_sizes bs ts l h =
    let w = collected bs ts l (collect_of (input_of bs ts) l) refl h in
    record { settings = w.settings; tree = w.tree; input = w.input; sharing = sharing bs ts w.settings w.tree _ w.count w.sizes }

tiles : (bs ts o : List ℕ) (l : List SizeRecord) (a : SheetOf bs ts o) (w : SizesCollected bs ts l (collect_of (input_of bs ts) l)) → a.settings ≡ w.settings
    → a.tree ≡ w.tree
    → Tiles bs ts w.settings w.tree (collect_of (input_of bs ts) l) o
tiles bs ts o l a w x y =
    let s = w.settings in
    let t = w.tree in
    let i = w.input in
    let g : too_large s t ≡ false = rw (x, y) at a.within in
    let c = collect_of (input_of bs ts) l in
    let b : take (sheet_of (input_of bs ts) o).answer.count (sheet_of (input_of bs ts) o).memory ≡ sheet s t = rw (x, y) at a.bytes in
    let r = (takes bs ts s t i).ranges in
    let z = w.sizes in
    record {
      each_place = each_place bs ts s t i g c z;
      none_outside = none_outside bs ts s t i g c z;
      none_shared = none_shared bs ts s t i g c z;
      same_byte = same_byte bs ts s t i g c z r o b;
      defined = defined bs ts s t i g c z r;
      sheet_is = sheet_is bs ts s t i g c z r o b;
      block_is = block_is bs ts s t i g c z r;
      enough = enough bs ts s t i g c z r;
      leaves = λ n. (leaf_counted bs ts s t i g c z r w.count w.counts n, counted_leaf bs ts s t i g c z r w.count w.counts n);
      root_starts = root_start s (allotted_written c) t;
      row_starts = λ n us e j m d. row_start s (allotted_written c) t n us e j m d;
      column_starts = λ n us e j m d. column_start s (allotted_written c) t n us e j m d;
    }

-- where the sheet printer and the size collector answer 0
pub demand_3 : (bs ts o : List ℕ) (l : List SizeRecord) → (sheet_of (input_of bs ts) o).answer.number ≡ 0 → (collect_of (input_of bs ts) l).answer.number ≡ 0
    → Tiled bs ts o l
demand_3 bs ts o l h k =
    let a = sheet_printed bs ts o h in
    let w = collected bs ts l (collect_of (input_of bs ts) l) refl k in
    let e : given a.settings a.tree ≡ given w.settings w.tree = sym a.input ∙ w.input in
    record { settings = w.settings; tree = w.tree; input = w.input; tiling = tiles bs ts o l a w (cc) (cc) }

-- where the sheet printer answers 0, so does the size collector, lent a list of 512
pub sheet_collects : (bs ts o : List ℕ) (l : List SizeRecord) → (sheet_of (input_of bs ts) o).answer.number ≡ 0 → 512 ≤ length l
    → (collect_of (input_of bs ts) l).answer.number ≡ 0
unfolding collect_of
sheet_collects bs ts o l h k =
    let a = sheet_printed bs ts o h in
    let few = (takes bs ts a.settings a.tree a.input).got.few in
    rw (a.input, le-ltb (length l) (nodes a.tree) (omega arith))
