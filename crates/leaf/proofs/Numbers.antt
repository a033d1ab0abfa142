-- `record_nine`, `print_nine`: 9 is answered exactly where the number names no leaf.
use mathlib.Core.Path.{◌≡◌, refl}
use mathlib.Core.Logic.{◌↔◌}
use Prim.Native.Nat.{ℕ}
use native.Mathlib.Omega.{arith}
use mathlib.Core.Bool.{Bool, true, false}
use mathlib.Core.List.{List, []}
use mathlib.Core.Option.{Option, some, none}
use lib.ListN.{length}
use lib.Dec.{ltb}
use Rattle.common.specs.Choice.{pick}
use Rattle.common.specs.Outcome.{Outcome}
use Rattle.settings.specs.declared.Settings.{Settings}
use Rattle.tree.specs.Tree.{Tree, cell, group, Trees, more, nodes}
use Rattle.tree.proofs.Fronts.{nodes_low, LeafIs, a_cell, an_empty, leaf_nodes}
use Rattle.text.specs.Text.{join_lines}
use Rattle.sizes.specs.Input.{Input, refused, given, input_of}
use Rattle.sizes.proofs.MeasuredInput.{input_refusal}
use Rattle.block.specs.Block.{block}
use Rattle.layout.specs.Walk.{Placed, leaf_of, leaves}
use Rattle.layout.proofs.Named.{leaf_node, node_leaf}
use Rattle.frame.specs.declared.Written.{Written}
use Rattle.frame.specs.Frame.{too_large}
use Rattle.frame.specs.Printer.{no_print}
use Rattle.leaf.specs.Answers.{leaf_numbered, no_leaf_record, record_found, leaf_record_of, print_found, leaf_print_of}
use Rattle.leaf.specs.Promises.{LeafNode, NamesNoLeaf}
use Rattle.leaf.proofs.LeafNumbers.{leaf_found, found_leaf}

-- a tree of one node is a leaf
pub childless : {X : Type 0} (u : Tree) → nodes u ≡ 1 → ((text : List ℕ) → LeafIs u text → X) → X
unfolding nodes
childless (cell text) e k = k text a_cell
childless (group a Trees.none) e k = k [] an_empty
childless (group a (more u us)) e k = absurd (omega (arith, nodes_low u))

module _ (s : Settings) (t : Tree) (n : ℕ) where
  node_found : LeafNode t n → leaf_numbered n (leaves s t) ≡ none → ⊥
  node_found y e =
      childless y.tree y.alone
      (λ text k.
      let h = node_leaf s t n text (record { tree = y.tree; node_is = y.is; leaf = k }) in
      let f : leaf_numbered n (leaves s t) ≡ some h.leaf = leaf_found s t (record { index = h.index; stands = h.stands; number = h.number }) in
      let z : ◌≡◌ {A = ℕ} 0 1 = cc in
      omega arith)

  found_node : (f : Placed) → leaf_numbered n (leaves s t) ≡ some f → LeafNode t n
  found_node f e = let y = leaf_node s t (found_leaf s t n f e) in record { tree = y.tree; is = y.node_is; alone = leaf_nodes y.leaf }

  found_case : (x : Option Placed) → leaf_numbered n (leaves s t) ≡ x → (record_found x).number ≡ 9 → LeafNode t n → ⊥
  found_case none e h y = node_found y e
  found_case (some f) e h y = omega arith

  large_case : (b : Bool) → too_large s t ≡ b → (pick b (no_leaf_record 6) (record_found (leaf_numbered n (leaves s t)))).number ≡ 9
      → (too_large s t ≡ false) × (LeafNode t n → ⊥)
  large_case true e h = absurd (omega arith)
  large_case false e h = (e, found_case (leaf_numbered n (leaves s t)) refl h)

  none_case : (x : Option Placed) → leaf_numbered n (leaves s t) ≡ x → (LeafNode t n → ⊥) → (record_found x).number ≡ 9
  none_case none e h = refl
  none_case (some f) e h = absurd (h (found_node f e))

module _ (bs ts : List ℕ) (n : ℕ) where
  nine_names : (x : Input) → input_of bs ts ≡ x → (leaf_record_of x n).number ≡ 9 → NamesNoLeaf bs ts n
  unfolding leaf_record_of
  nine_names (refused k) e h = absurd (omega (arith, input_refusal bs ts k e))
  nine_names (given s t) e h = let y = large_case s t n (too_large s t) refl h in record { settings = s; tree = t; input = e; within = y.0; no_leaf = y.1 }

  -- the leaf record
  pub record_nine : ((leaf_record_of (input_of bs ts) n).number ≡ 9) ↔ NamesNoLeaf bs ts n
  unfolding leaf_record_of
  record_nine = (nine_names (input_of bs ts) refl, back)
    where
      back : NamesNoLeaf bs ts n → (leaf_record_of (input_of bs ts) n).number ≡ 9
      back y = rw (y.input, y.within) (none_case y.settings y.tree n (leaf_numbered n (leaves y.settings y.tree)) refl y.no_leaf)

-- the leaf printer answers 9 where the leaf record does
module _ (s : Settings) (o : List ℕ) where
  printed_case : (d : Bool) (p : Outcome Written (List ℕ)) → p.answer.number ≡ 0 → (pick d (no_print 8 o) p).answer.number ≡ 9 → ⊥
  printed_case true p e h = omega arith
  printed_case false p e h = omega arith

  same_case : (b : Bool) (x : Option Placed)
      → ((pick b (no_print 6 o) (print_found s o x)).answer.number ≡ 9) ↔ ((pick b (no_leaf_record 6) (record_found x)).number ≡ 9)
  same_case true x = (λ h. absurd (omega arith), λ h. absurd (omega arith))
  same_case false none = (λ h. h, λ h. h)
  same_case false (some f) = (λ h. absurd (printed_case (ltb (length o) (length (join_lines (block s (leaf_of f))))) _ refl h), λ h. absurd (omega arith))

print_as_record : (x : Input) (n : ℕ) (o : List ℕ) → ((leaf_print_of x n o).answer.number ≡ 9) ↔ ((leaf_record_of x n).number ≡ 9)
unfolding leaf_print_of leaf_record_of
print_as_record (refused k) n o = (λ h. h, λ h. h)
print_as_record (given s t) n o = same_case s o (too_large s t) (leaf_numbered n (leaves s t))

-- the leaf printer, whatever output is lent
pub print_nine : (bs ts : List ℕ) (n : ℕ) (o : List ℕ) → ((leaf_print_of (input_of bs ts) n o).answer.number ≡ 9) ↔ NamesNoLeaf bs ts n
print_nine bs ts n o =
    let p = print_as_record (input_of bs ts) n o in
    let r = record_nine bs ts n in
    (λ h. r.0 (p.0 h), λ y. p.1 (r.1 y))
