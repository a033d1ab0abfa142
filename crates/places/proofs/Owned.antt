-- A byte of the printed sheet is the byte that the leaf printer writes for the leaf whose block it lies in.
use mathlib.Core.Path.{◌≡◌}
use Prim.Native.Nat.{ℕ, ◌+◌, ◌-◌, ◌≤◌}
use native.Mathlib.Omega.{arith}
use mathlib.Core.List.{List}
use lib.ListN.{length}
use Rattle.settings.specs.declared.Settings.{Settings}
use Rattle.tree.specs.Tree.{Tree}
use Rattle.sizes.specs.Input.{input_of}
use Rattle.layout.specs.Walk.{Placed}
use Rattle.layout.specs.Promises.{LeafAt}
use Rattle.layout.specs.Clauses.{block_of}
use Rattle.frame.specs.Promises.{bytes_written}
use Rattle.leaf.specs.Answers.{leaf_print_of}
use Rattle.leaf.proofs.Written.{PrintsBytes, leaf_written}
use Rattle.sheet.specs.Promises.{place_at}
use Rattle.sheet.specs.Answers.{sheet_of}
use Rattle.sheet.proofs.Tiling.{Covers}
use Rattle.sheet.proofs.Demand3.{place_owned}
use Rattle.sheet.proofs.Calls.{accepted, ranges}
use Rattle.sheet.proofs.WithMargin.{Shown, shown_covers}

module _ (bs ts o : List ℕ) (h : (sheet_of (input_of bs ts) o).answer.number ≡ 0) where
  abbrev s : Settings
  s = (accepted bs ts o h).settings

  abbrev t : Tree
  t = (accepted bs ts o h).tree

  -- for each leaf, the leaf printer, lent enough output, answers 0 and writes the leaf's block
  leaf_prints : {n : ℕ} {f : Placed} → LeafAt s t n f → (o₁ : List ℕ) → length (block_of s f) ≤ length o₁
      → PrintsBytes (block_of s f) (leaf_print_of (input_of bs ts) n o₁)
  leaf_prints p o₁ e = rw (accepted bs ts o h).input (leaf_written s t o₁ (accepted bs ts o h).within p e)

  -- "the sheet's byte at each place equals the byte that the leaf printer, with the same settings and tree, writes there in that block"
  each_byte : {n : ℕ} {f : Placed} → LeafAt s t n f → (l k : ℕ) → Covers s f l k → (o₁ : List ℕ) → length (block_of s f) ≤ length o₁
      → place_at (bytes_written (sheet_of (input_of bs ts) o)) (s.margin.top + l) (s.margin.left + k)
      ≡ place_at (bytes_written (leaf_print_of (input_of bs ts) n o₁)) (l - f.at.line) (k - f.at.column)
  each_byte p l k c o₁ e = rw ((accepted bs ts o h).bytes, (leaf_prints p o₁ e).bytes_are) (place_owned s t (ranges bs ts o h) p l k c)

  -- the printed sheet's byte at a place of a leaf's block is the byte that the leaf printer writes there in that block
  pub printed_owned : {n : ℕ} {f : Placed} → LeafAt s t n f → (l k : ℕ) → Shown s f l k → (o₁ : List ℕ) → length (block_of s f) ≤ length o₁
      → place_at (bytes_written (sheet_of (input_of bs ts) o)) l k
      ≡ place_at (bytes_written (leaf_print_of (input_of bs ts) n o₁)) (l - s.margin.top - f.at.line) (k - s.margin.left - f.at.column)
  printed_owned p l k c o₁ e =
      let i : s.margin.top + (l - s.margin.top) ≡ l = omega (arith, c.from_line) in
      let j : s.margin.left + (k - s.margin.left) ≡ k = omega (arith, c.from_column) in
      rw (i, j) at (each_byte p (l - s.margin.top) (k - s.margin.left) (shown_covers c) o₁ e)
