-- Definitions used in the statement of the theorem about number 9 (document 01: "number names no leaf").
use Rattle.std.specs.Prelude.{◌≡◌, ℕ, false, List}
use Rattle.std.proofs.Math.Option.{some}
use Rattle.std.proofs.Math.ListN.{get_elem?}
use Rattle.settings.specs.declared.Settings.{Settings}
use Rattle.tree.specs.Tree.{Tree, nodes}
use Rattle.tree.specs.Promises.{subtrees}
use Rattle.sizes.specs.Input.{given, input_of}
use Rattle.frame.specs.Frame.{too_large}

-- node n is a leaf: a Cell, or a Row or a Column without children, so a tree of one node
pub record LeafNode (t : Tree) (n : ℕ) : Type 0 where
  pub tree : Tree
  pub is : get_elem? (subtrees t) n ≡ some tree
  pub alone : nodes tree ≡ 1

-- settings and tree are read, the sheet is within the limits, and n is the number of none of its leaves
pub record NamesNoLeaf (bs ts : List ℕ) (n : ℕ) : Type 0 where
  pub settings : Settings
  pub tree : Tree
  pub input : input_of bs ts ≡ given settings tree
  pub within : too_large settings tree ≡ false
  pub no_leaf : LeafNode tree n → ⊥
