-- What the leaf printer, lent enough output, writes for a node: the bytes of its block.
use mathlib.Core.Path.{◌≡◌, refl}
use Prim.Native.Nat.{ℕ, ◌≤◌}
use native.Mathlib.Omega.{arith}
use mathlib.Core.Bool.{Bool, true, false}
use mathlib.Core.List.{List, ◌++◌}
use lib.ListN.{length, drop}
use lib.Seq.{take-append_seam}
use lib.Dec.{ltb}
use borrow.Author.Tests.{le-ltb}
use Rattle.common.specs.Choice.{pick}
use Rattle.common.specs.Outcome.{Outcome}
use Rattle.settings.specs.declared.Settings.{Settings}
use Rattle.tree.specs.Tree.{Tree}
use Rattle.sizes.specs.Input.{given}
use Rattle.layout.specs.Walk.{Placed}
use Rattle.layout.specs.Promises.{LeafAt}
use Rattle.layout.specs.Clauses.{block_of}
use Rattle.frame.specs.Frame.{too_large}
use Rattle.frame.specs.declared.Written.{Written}
use Rattle.frame.specs.Printer.{no_print}
use Rattle.frame.specs.Promises.{bytes_written}
use Rattle.leaf.specs.Answers.{leaf_print_of}
use Rattle.leaf.proofs.LeafNumbers.{leaf_found}

-- the printer answers 0 and the number of these bytes, which it has written
pub record PrintsBytes (bytes : List ℕ) (p : Outcome Written (List ℕ)) : Type 0 where
  pub number : p.answer.number ≡ 0
  pub count : p.answer.count ≡ length bytes
  pub bytes_are : bytes_written p ≡ bytes

leaf_case : (d : Bool) (bytes o :
    List ℕ) → d ≡ false → PrintsBytes bytes (pick d (no_print 8 o)
    (record { answer = record { number = 0; count = length bytes }; memory = bytes ++ drop (length bytes) o }))
leaf_case true bytes o e = let z : ◌≡◌ {A = ℕ} 0 1 = cc in absurd (omega arith)
leaf_case false bytes o e = record { number = refl; count = refl; bytes_are = take-append_seam bytes (drop (length bytes) o) }

pub leaf_written : (s : Settings) (t : Tree) {n : ℕ} {f : Placed} (o : List ℕ) → too_large s t ≡ false → LeafAt s t n f → length (block_of s f) ≤ length o
    → PrintsBytes (block_of s f) (leaf_print_of (given s t) n o)
unfolding leaf_print_of
leaf_written s t {f = f} o g p h = rw (g, leaf_found s t p) (leaf_case (ltb (length o) (length (block_of s f))) (block_of s f) o (le-ltb _ _ h))
