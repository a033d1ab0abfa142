-- Definitions used in the statement of the theorem about a blanked tree (document 02, 14).
use Rattle.std.specs.Prelude.{◌≡◌, ℕ, suc, ◌+◌, Bool, false, List, [], ◌∷◌, ◌++◌, map, length, get_or, take}
use Rattle.common.specs.Outcome.{Outcome}
use Rattle.tree.specs.Tree.{Tree, Trees, cell, group, none, more, nodes}
use Rattle.tree.specs.Reading.{ReadOne, read_tree}
use Rattle.blank.specs.declared.Blanked.{Blanked}
use Rattle.blank.specs.Alike.{Alike}
use Rattle.blank.specs.Blank.{blanked, dots_for}

-- for each byte of the tree whose first node is n: whether it is in a blanked text
unfoldable mutual
  unfolding nodes

  pub in_texts : (ℕ → Bool) → ℕ → Tree → List Bool
  in_texts dots n (cell t) = false ∷ false ∷ false ∷ map (λ b. dots n) t
  in_texts dots n (group a ts) = false ∷ false ∷ false ∷ in_texts* dots (suc n) ts

  pub in_texts* : (ℕ → Bool) → ℕ → Trees → List Bool
  in_texts* dots n none = []
  in_texts* dots n (more t ts) = in_texts dots n t ++ in_texts* dots (n + nodes t) ts

-- what was written
abbrev pub blank_written : Outcome Blanked (List ℕ) → List ℕ
blank_written o = take o.answer.count o.memory

-- where the call answers 0
pub record PaperRead (tree ns : List ℕ) (o : Outcome Blanked (List ℕ)) : Type 0 where
  pub tree_is : Tree
  pub size : ℕ
  pub count : ℕ
  -- the tree was accepted, and what was written is accepted too: as the tree with the named texts blanked
  pub reads : read_tree tree ≡ ReadOne.one tree_is size count
  pub accepted : read_tree (blank_written o) ≡ ReadOne.one (blanked (dots_for ns) 0 tree_is) size count
  -- it is alike, and of equal length
  pub alike : Alike tree_is (blanked (dots_for ns) 0 tree_is)
  pub same_length : length (blank_written o) ≡ length tree

-- and it is equal outside those texts
pub record PaperOf (tree ns : List ℕ) (o : Outcome Blanked (List ℕ)) : Type 0 where
  pub read : PaperRead tree ns o
  pub outside : (i : ℕ) → get_or (in_texts (dots_for ns) 0 read.tree_is) i false ≡ false → get_or (blank_written o) i 0 ≡ get_or tree i 0
