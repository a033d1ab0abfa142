-- What each node gets (document 02, request 4): the contexts of all nodes, and the list that is left before a child.
use Rattle.std.specs.Prelude.{ℕ, suc, ◌+◌, Bool, false, List, [], ◌∷◌, ◌++◌, get_or, eqb, ◌≡◌}
use Rattle.std.proofs.Math.ListN.{get_elem?}
use Rattle.std.proofs.Math.Option.{some}
use Rattle.splits.specs.Splits.{short_splits3}
use Rattle.settings.specs.declared.Settings.{Settings}
use Rattle.tree.specs.Tree.{Axis, Tree, cell, group, Trees, none, more, count, nodes, across, down}
use Rattle.sizes.specs.declared.Size.{Size}
use Rattle.sizes.specs.Sizes.{sep, allot, spare_of, along, Sizes}
use Rattle.sizes.specs.Promises.{sizes_at}
use Rattle.block.specs.Block.{block_height, block_width}
use Rattle.layout.specs.Walk.{Context, child, along_list, beside_list, walk, root, Placed, leaves}

unfoldable mutual
  unfolding child walk along_list beside_list nodes

  -- the contexts with which a tree's nodes are walked, parent before children, left to right; the root's is c
  pub contexts : Settings → Tree → Context → List Context
  contexts s (cell t) c = c ∷ []
  contexts s (group a ts) c =
      c ∷ contexts* s ts a c (spare_of s a ts c.size) (count ts) 0 false (suc c.node) 0 (along_list a c.horizontal c.vertical)
      (beside_list a c.horizontal c.vertical)

  -- children: the arguments are those of `children`
  pub contexts* : Settings → Trees → Axis → Context → ℕ → ℕ → ℕ → Bool → ℕ → ℕ → List ℕ → List ℕ → List Context
  contexts* s none a c spare n i old node offset cut handed = []
  contexts* s (more t ts) a c spare n i old node offset cut handed =
      let extent = allot s a spare n i t in
      let k = short_splits3 cut extent in
      let d = child a c (eqb i 0) (eqb (suc i) n) old node offset extent k handed in
      let w = walk s t d in
      contexts s t d ++ contexts* s ts a c spare n (suc i) k.split (node + nodes t) (offset + extent
      + sep s) k.left (beside_list a w.horizontal w.vertical)

-- the context of node n
unfoldable pub context_at : Settings → Tree → ℕ → Context
unfolding contexts root
context_at s t n = get_or (contexts s t (root s t)) n (root s t)

-- what is left of a list after cuts at those extents, one after the other
unfoldable pub left_after : List ℕ → List ℕ → List ℕ
unfolding short_splits3
left_after l [] = l
left_after l (e ∷ es) = left_after (short_splits3 l e).left es

-- a line and a column, counted from 0
pub record Place : Type 0 where
  pub line : ℕ
  pub column : ℕ

-- the place that is n columns further in a Row, n lines further in a Column
unfoldable pub further : Axis → Place → ℕ → Place
further across p n = record { line = p.line; column = p.column + n }
further down p n = record { line = p.line + n; column = p.column }

unfoldable mutual
  unfolding further along nodes

  -- the starts of the tree's nodes, parent before children, left to right. The tree's root is node n and starts at p; node m is allotted `size m`.
  pub starts : Settings → (ℕ → Size) → ℕ → Place → Tree → List Place
  starts s size n p (cell t) = p ∷ []
  starts s size n p (group a ts) = p ∷ starts* s size (suc n) a p ts

  -- children: the first starts at p, the next after that one's extent and a separator
  pub starts* : Settings → (ℕ → Size) → ℕ → Axis → Place → Trees → List Place
  starts* s size n a p none = []
  starts* s size n a p (more t ts) = starts s size n p t ++ starts* s size (n + nodes t) a (further a p (along a (size n) + sep s)) ts

-- where the root starts
abbrev pub origin : Place
origin = record { line = 0; column = 0 }

-- the start of node n
unfoldable pub start_at : Settings → (ℕ → Size) → Tree → ℕ → Place
unfolding starts
start_at s size t n = get_or (starts s size 0 origin t) n origin

-- the lines and columns of a context's rectangle
abbrev pub height_at : Settings → Context → ℕ
height_at s c = block_height s c.size c.flags

abbrev pub width_at : Settings → Context → ℕ
width_at s c = block_width s c.size c.flags

-- f is the leaf of node n
pub record LeafAt (s : Settings) (t : Tree) (n : ℕ) (f : Placed) : Type 0 where
  pub index : ℕ
  pub stands : get_elem? (leaves s t) index ≡ some f
  pub number : f.at.node ≡ n

-- the sizes that a list of size records allots
abbrev pub allotted_in : List Sizes → ℕ → Size
allotted_in zs m = (sizes_at zs m).allotted

-- the extent of node m in a group along the axis, by that list of sizes
abbrev pub extent_in : List Sizes → Axis → ℕ → ℕ
extent_in zs a m = along a (allotted_in zs m)
