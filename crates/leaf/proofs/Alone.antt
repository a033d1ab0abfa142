-- A leaf's block printed alone: the leaf painted at the first byte, over bytes with a 0A behind each line but the last.
use mathlib.Core.Path.{◌≡◌, sym, ◌∙◌}
use Prim.Native.Nat.{ℕ, ◌+◌, ◌-◌, ◌*◌, ◌≤◌, ◌<◌}
use native.Mathlib.Omega.{arith}
use mathlib.Core.List.{List, [], ◌∷◌, ◌++◌, append-nil}
use lib.ListN.{length, set, take, length-append}
use lib.Seq.{take_at}
use Rattle.settings.specs.declared.Settings.{Settings}
use Rattle.text.specs.Text.{join_lines}
use Rattle.sizes.specs.declared.Size.{Size}
use Rattle.sizes.specs.Sizes.{leaf_size}
use Rattle.sizes.specs.Clauses.{SmallSize, Fits}
use Rattle.sizes.specs.Listed.{allotted_at}
use Rattle.block.specs.declared.Flags.{Flags}
use Rattle.block.specs.Block.{block, block_height, block_width}
use Rattle.paint.specs.Clauses.{Room, fed}
use Rattle.paint.proofs.Room.{room_feeds}
use Rattle.block.proofs.Dimensions.{Dims}
use Rattle.block.proofs.Dims.{block_dims}
use Rattle.paint.proofs.Feeds.{fed_pasted}
use Rattle.layout.specs.Walk.{Placed, leaf_of}
use Rattle.layout.specs.Clauses.{flags_at}
use Rattle.entries.specs.declared.entry.Entry.{Entry}
use Rattle.entries.specs.Clauses.{entry_at, entry_of, Stands, Listing, empty, entry, BeginsEntry, Asks, paint_all, PaintsAll}
use Rattle.frame.specs.Printer.{no_print, print_to}
use Rattle.frame.proofs.Printers.{PrinterAnswers}
use Rattle.leaf.specs.Clauses.{block_bytes}
use Rattle.leaf.proofs.Records.{read_entry_is, record_size_is, f_is}
use Rattle.leaf.proofs.Bytes.{block_bytes_lem, alone_room, bytes_fit, wide_small, tall_small, to_short, to_whole}

-- the leaf at line 0, column 0
abbrev pub alone : Placed → Placed
alone l = record {
  text = l.text;
  at = record {
    node = l.at.node;
    line = 0;
    column = 0;
    size = l.at.size;
    horizontal = l.at.horizontal;
    vertical = l.at.vertical;
    flags = l.at.flags;
    pair = l.at.pair;
  };
}

module _ {s : Settings} {stride : ℕ} {tree list : List ℕ} {l : Placed} {es : List ℕ} (b : BeginsEntry s stride tree list l es) where
  -- its entry is the leaf's, but for the first byte
  stands : Stands s tree list b.at (alone l)
  stands = record { inside = b.stands.inside; text_is = b.stands.text_is; sizes = b.stands.sizes; few_h = b.stands.few_h; few_v = b.stands.few_v }

  entry_alone : (k : ℕ) → set es 2 0 ≡ entry_of k b.at (alone l) ++ b.rest
  entry_alone k = let z : 0 * k + 0 ≡ 0 = omega arith in rw (b.is, z)

  pub listing : (k n : ℕ) → n ≡ 8 + length l.at.horizontal + length l.at.vertical → Listing s k tree list (alone l ∷ []) (take n (set es 2 0))
  listing k n e =
      let x = entry_of k b.at (alone l) in
      let m : length x ≡ n = rw (length-append l.at.horizontal l.at.vertical) (omega arith) in
      let t : take n (set es 2 0) ≡ x ++ [] = rw (entry_alone k) (take_at x b.rest n m) ∙ sym (append-nil x) in
      rw t (entry b.at stands empty)

  -- in the code's terms: the entry that was read, the size and the flags that it names, the block's columns and lines
  module _ (e : Entry) (ee : e ≡ entry_at es) (z : Size) (ze : z ≡ allotted_at list e.spot.node) (f : Flags) (fe : f ≡ flags_at e.spot.flags)
      (small : SmallSize z) (w : ℕ) (we : w ≡ block_width s z f) where
    pub line_low : w + 1 < 65539
    line_low = let h : z.width < 65536 = small.wide in omega (arith, wide_small s z f)

    pub bytes_low : (a : ℕ) → a ≡ block_height s z f → a * (w + 1) < 8589934592
    bytes_low a ae =
        let x : z.width < 65536 = small.wide in
        let y : z.height < 65536 = small.tall in
        bytes_fit a w (omega (arith, (tall_small s z f).1)) (omega (arith, wide_small s z f))

    module _ (a : ℕ) (ae : a ≡ block_height s z f) (fits : Fits (leaf_size s l.text) l.at.size) (n : ℕ) (ne : n ≡ a * (w + 1) - 1) where
      size_is : z ≡ l.at.size
      size_is = record_size_is b e ee z ze f fe

      flags_are : f ≡ l.at.flags
      flags_are = f_is b e ee z ze f fe

      columns_are : w ≡ block_width s l.at.size l.at.flags
      columns_are = we ∙ rw (size_is, flags_are)

      lines_are : a ≡ block_height s l.at.size l.at.flags
      lines_are = ae ∙ rw (size_is, flags_are)

      n_is : n ≡ block_bytes s l.at.size l.at.flags
      unfolding block_bytes
      n_is = ne ∙ rw (columns_are, lines_are)

      bytes_are : length (join_lines (block s (leaf_of l))) ≡ n
      bytes_are = block_bytes_lem s (leaf_of l) fits ∙ sym n_is

      pub print_no_room : (o : List ℕ) → length o < n → print_to (join_lines (block s (leaf_of l))) o ≡ no_print 8 o
      print_no_room o h = to_short (join_lines (block s (leaf_of l))) o (omega (arith, bytes_are))

      room : (len : ℕ) → n ≤ len → Room 0 (w + 1) (block_height s l.at.size l.at.flags) (block_width s l.at.size l.at.flags) len
      room len h =
          let x : z.width < 65536 = small.wide in
          let y : z.height < 65536 = small.tall in
          let k : (l.at.size.width < 65536) × (l.at.size.height < 65536) = rw (← size_is) (x, y) in
          rw columns_are (alone_room s l.text l.at.size l.at.flags fits k.0 k.1 n len n_is h)

      pub ends_room : (len : ℕ) → n ≤ len → Room w (w + 1) (a - 1) 1 len
      ends_room len h = room_feeds (omega (arith, line_low)) (rw (lines_are, columns_are) (rw columns_are at (room len h)))

      pub alone_asks : (len : ℕ) → n ≤ len → Asks s (w + 1) len (alone l)
      alone_asks len h =
          let c : 0 * (w + 1) + 0 ≡ 0 = omega arith in
          record { fits = fits; apart = omega (arith, columns_are); room = rw c (room len h) }

      -- what `paint_leaves` requires, and what was written
      module _ (short : length tree < 65536) (o : List ℕ) (h : n ≤ length o) (len : ℕ) (same : len ≡ length o) (end : ℕ)
          (d : end ≡ 8 + e.horizontal + e.vertical) where
        unfoldable pub paints : PaintsAll tree list (take end (set es 2 0)) s (w + 1) len
        paints = record {
          leaves = alone l ∷ [];
          listing = listing (w + 1) end (d ∙ rw (read_entry_is b e ee));
          short = short;
          asks = (alone_asks len (omega arith), tt);
        }

        pub alone_whole : (o₁ o₂ : List ℕ) → o₁ ≡ fed w a o → o₂ ≡ paint_all s (w + 1) o₁ paints.leaves
            → PrinterAnswers (record { number = 0; count = n }) o₂ (print_to (join_lines (block s (leaf_of l))) o)
        unfolding paints
        alone_whole o₁ o₂ e₁ e₂ =
            let c : 0 * (w + 1) + 0 ≡ 0 = omega arith in
            let x = block s (leaf_of l) in
            let g : Dims x a w = rw (columns_are, lines_are) (block_dims s (leaf_of l) fits) in
            let k = fed_pasted x g o o₁ o₂ (omega (arith, bytes_are, h)) e₁ (e₂ ∙ rw c) in
            let t = to_whole (join_lines x) o (omega (arith, bytes_are)) in
            (rw (t, bytes_are), k ∙ rw t)
