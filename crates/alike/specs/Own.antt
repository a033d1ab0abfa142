-- The texts' own bytes in what is printed (document 02, 14), read as: the bytes of the lines themselves, where they are printed. They are the places where the
-- sheet, or the block, of the masked tree has the mask.
use Rattle.std.specs.Prelude.{◌≡◌, ℕ, suc, ◌+◌, Bool, false, List, [], map, get_or}
use Rattle.std.proofs.Math.Option as option
use Rattle.std.proofs.Math.Option.{Option}
use Rattle.common.specs.Choice.{pick}
use Rattle.settings.specs.declared.Settings.{Settings}
use Rattle.tree.specs.Tree.{Tree, Trees, cell, group, none, more, nodes}
use Rattle.text.specs.Text.{join_lines}
use Rattle.sizes.specs.Input.{Input, refused, given}
use Rattle.block.specs.Block.{block}
use Rattle.blank.specs.Alike.{covered, masked, Alike}
use Rattle.layout.specs.Walk.{Placed, leaf_of, leaves}
use Rattle.frame.specs.Frame.{too_large}
use Rattle.leaf.specs.Answers.{leaf_numbered}
use Rattle.sheet.specs.Sheet.{sheet}

-- the bytes of the block of the leaf with that node number
abbrev pub found_bytes : Settings → Option Placed → List ℕ
found_bytes s option.none = []
found_bytes s (option.some l) = join_lines (block s (leaf_of l))

unfoldable pub leaf_bytes : Settings → Tree → ℕ → List ℕ
unfolding leaves leaf_numbered
leaf_bytes s t n = found_bytes s (leaf_numbered n (leaves s t))

-- byte i of what is printed is a text's own: of the sheet, of the block of leaf n; a sheet that is too large has none
abbrev pub SheetOwn : Input → ℕ → Type 0
SheetOwn (refused k) i = ⊥
SheetOwn (given s t) i = (too_large s t ≡ false) × (get_or (sheet s (masked t)) i 0 ≡ 1)

abbrev pub LeafOwn : Input → ℕ → ℕ → Type 0
LeafOwn (refused k) n i = ⊥
LeafOwn (given s t) n i = (too_large s t ≡ false) × (get_or (leaf_bytes s (masked t) n) i 0 ≡ 1)

-- some alike tree has the byte v there
pub record CanShow (f : Tree → List ℕ) (t : Tree) (i v : ℕ) : Type 0 where
  pub tree : Tree
  pub alike : Alike t tree
  pub byte : get_or (f tree) i 0 ≡ v

-- ---- of some Cells alone

-- each byte of each text replaced, by the node of its Cell; the tree's first node is n
unfoldable mutual
  unfolding nodes

  pub recast_at : (ℕ → ℕ → ℕ) → ℕ → Tree → Tree
  recast_at f n (cell t) = cell (map (f n) t)
  recast_at f n (group a ts) = group a (recast_at* f (suc n) ts)

  pub recast_at* : (ℕ → ℕ → ℕ) → ℕ → Trees → Trees
  recast_at* f n none = none
  recast_at* f n (more t ts) = more (recast_at f n t) (recast_at* f (n + nodes t) ts)

-- a byte, changed where the text is one of them
abbrev pub changed : (ℕ → ℕ) → Bool → ℕ → ℕ
changed f c b = pick c (f b) b

-- the tree with the texts of some Cells masked. Two trees that it makes equal are alike, and differ in those Cells alone
unfoldable pub masked_in : (ℕ → Bool) → Tree → Tree
unfolding recast_at covered
masked_in some t = recast_at (λ n. changed (covered 1) (some n)) 0 t

-- byte i of what is printed is one of the own bytes of these Cells' texts
abbrev pub SheetOwnIn : (ℕ → Bool) → Input → ℕ → Type 0
SheetOwnIn some (refused k) i = ⊥
SheetOwnIn some (given s t) i = (too_large s t ≡ false) × (get_or (sheet s (masked_in some t)) i 0 ≡ 1)

abbrev pub LeafOwnIn : (ℕ → Bool) → Input → ℕ → ℕ → Type 0
LeafOwnIn some (refused k) n i = ⊥
LeafOwnIn some (given s t) n i = (too_large s t ≡ false) × (get_or (leaf_bytes s (masked_in some t) n) i 0 ≡ 1)
