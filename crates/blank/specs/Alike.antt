-- Trees that differ only inside Cells' texts, "each text having in both the same number of lines, line for line of the same length" (document 02, 14).
use Rattle.std.specs.Prelude.{◌≡◌, ℕ, map, eqb}
use Rattle.common.specs.Choice.{pick}
use Rattle.tree.specs.Tree.{Tree, Trees, cell, group, none, more}

-- the tree with each byte of each text replaced
unfoldable mutual
  pub recast : (ℕ → ℕ) → Tree → Tree
  recast f (cell t) = cell (map f t)
  recast f (group a ts) = group a (recast* f ts)

  pub recast* : (ℕ → ℕ) → Trees → Trees
  recast* f none = none
  recast* f (more t ts) = more (recast f t) (recast* f ts)

-- a line feed stays, every other byte becomes v
unfoldable pub covered : ℕ → ℕ → ℕ
covered v b = pick (eqb b 10) 10 v

-- no text that is accepted has the byte 1, and no mark, fill or space is 1
unfoldable pub masked : Tree → Tree
unfolding recast covered
masked t = recast (covered 1) t

-- the same tree but for the bytes of its texts other than 0A
unfoldable pub Alike : Tree → Tree → Type 0
unfolding masked
Alike t u = masked t ≡ masked u
