-- The call that blanks texts, for alike trees: equal answers, and what is written is again alike.
use mathlib.Core.Path.{◌≡◌, refl, sym, ◌∙◌}
use Prim.Native.Nat.{ℕ}
use mathlib.Core.List.{List, []}
use lib.ListN.{length}
use lib.Dec.{ltb}
use Rattle.tree.specs.Tree.{Tree}
use Rattle.tree.specs.Reading.{ReadOne, read_tree}
use Rattle.tree.specs.Accepted.{bytes_of}
use Rattle.tree.proofs.Sound.{tree_sound}
use Rattle.blank.specs.Alike.{covered, masked, Alike}
use Rattle.blank.specs.Blank.{blanked, cell_flags, dots_for, all_cells, no_blank, blank_to, blank_in, blank_of}
use Rattle.blank.proofs.BlankedTree.{blanked_alike}
use Rattle.blank.proofs.Calls.{blanked_reads}
use Rattle.alike.specs.Pairs as pairs
use Rattle.alike.specs.Pairs.{TreeBytes, AlikeBytes, SameRead}
use Rattle.alike.specs.Lent.{BothBlank}
use Rattle.alike.proofs.Masks.{mask_keeps, alike_by}
use Rattle.alike.proofs.Shapes.{flags_recast}
use Rattle.alike.proofs.Readers.{length_alike}
use Rattle.alike.proofs.Pairs.{reads_alike, trees_alike}
use Rattle.alike.proofs.Lent.{lent_none, lent_front, both_pick}

-- what is read is whole
read_whole : (s : List ℕ) (t : Tree) (z n : ℕ) → read_tree s ≡ ReadOne.one t z n → TreeBytes s t
read_whole s t z n e = let g = tree_sound s t z n e in record { is = g.is; ends = g.ends; texts = g.texts }

flags_alike : (t u : Tree) → Alike t u → cell_flags t ≡ cell_flags u
unfolding masked
flags_alike = alike_by cell_flags (flags_recast (covered 1) mask_keeps)

module _ {p q : List ℕ} (b : AlikeBytes p q) (ns o r : List ℕ) (l : length o ≡ length r) where
  papers : (t u : Tree) (z n : ℕ) → Alike t u → read_tree p ≡ ReadOne.one t z n → read_tree q ≡ ReadOne.one u z n
      → AlikeBytes (bytes_of (blanked (dots_for ns) 0 t)) (bytes_of (blanked (dots_for ns) 0 u))
  unfolding Alike
  papers t u z n h e d =
      let f = dots_for ns in
      trees_alike (record {
        tree = blanked f 0 t;
        other = blanked f 0 u;
        first = read_whole (bytes_of (blanked f 0 t)) (blanked f 0 t) z n (blanked_reads f p t z n e);
        second = read_whole (bytes_of (blanked f 0 u)) (blanked f 0 u) z n (blanked_reads f q u z n d);
        alike = sym (blanked_alike f t) ∙ h ∙ blanked_alike f u;
      })

  kept : (k : ℕ) → BothBlank AlikeBytes o r (no_blank k o) (no_blank k r)
  kept k = record { answer = refl; lent = lent_none AlikeBytes o r (pairs.same []) }

  written : {x y : List ℕ} → AlikeBytes x y → BothBlank AlikeBytes o r (blank_to x o) (blank_to y r)
  written {x} {y} a =
      let e : length y ≡ length x = sym (length_alike a) in
      rw (l, e)
      (both_pick AlikeBytes o r (ltb (length r) (length x)) (kept 8) (record { answer = refl; lent = lent_front AlikeBytes o r (length x) x y refl e a }))

  pub blank_texts_alike : BothBlank AlikeBytes o r (blank_of p ns o) (blank_of q ns r)
  unfolding blank_of
  blank_texts_alike = go (reads_alike b) refl refl
    where
      go : {x y : ReadOne} → SameRead x y → read_tree p ≡ x → read_tree q ≡ y → BothBlank AlikeBytes o r (blank_in x ns o) (blank_in y ns r)
      go (pairs.both_refused k) e d = kept k
      go (pairs.both_read t u z n h) e d =
          rw (flags_alike t u h) (both_pick AlikeBytes o r (all_cells (cell_flags u) ns) (written (papers t u z n h e d)) (kept 9))
