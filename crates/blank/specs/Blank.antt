-- A tree with the texts of some Cells blanked by dots (document 02, 14: "The question paper blanks the answers with dots"): the whole answer for every input.
use Rattle.std.specs.Prelude.{ℕ, suc, ◌+◌, Bool, true, false, List, [], ◌∷◌, ◌++◌, map, length, get_or, drop, eqb, ltb}
use Rattle.common.specs.Choice.{pick}
use Rattle.common.specs.Outcome.{Outcome}
use Rattle.tree.specs.Tree.{Tree, Trees, cell, group, none, more, nodes}
use Rattle.tree.specs.Reading.{ReadOne, read_tree}
use Rattle.tree.specs.Accepted.{bytes_of}
use Rattle.blank.specs.Alike.{covered}
use Rattle.blank.specs.declared.Blanked.{Blanked}

-- ---- the tree

-- a byte of a text: a dot where the text is blanked, line feeds staying
unfoldable pub shown_byte : Bool → ℕ → ℕ
unfolding covered
shown_byte dots b = pick dots (covered 46 b) b

-- the tree whose first node is n: the Cells that `dots` says are blanked
unfoldable mutual
  unfolding nodes shown_byte

  pub blanked : (ℕ → Bool) → ℕ → Tree → Tree
  blanked dots n (cell t) = cell (map (shown_byte (dots n)) t)
  blanked dots n (group a ts) = group a (blanked* dots (suc n) ts)

  pub blanked* : (ℕ → Bool) → ℕ → Trees → Trees
  blanked* dots n none = none
  blanked* dots n (more t ts) = more (blanked dots n t) (blanked* dots (n + nodes t) ts)

-- ---- the Cells that are named

-- by node number: 1 for a Cell, 0 for a Row or a Column
unfoldable mutual
  pub cell_flags : Tree → List ℕ
  cell_flags (cell t) = 1 ∷ []
  cell_flags (group a ts) = 0 ∷ cell_flags* ts

  pub cell_flags* : Trees → List ℕ
  cell_flags* none = []
  cell_flags* (more t ts) = cell_flags t ++ cell_flags* ts

unfoldable pub one_of : ℕ → List ℕ → Bool
one_of n [] = false
one_of n (k ∷ ks) = pick (eqb k n) true (one_of n ks)

-- a reading (docs/DECISIONS.md): an empty list names all Cells
unfoldable pub dots_for : List ℕ → ℕ → Bool
unfolding one_of
dots_for [] n = true
dots_for (k ∷ ks) n = one_of n (k ∷ ks)

-- each number is that of a Cell, by the flags of the nodes
unfoldable pub all_cells : List ℕ → List ℕ → Bool
all_cells cs [] = true
all_cells cs (k ∷ ks) = pick (eqb (get_or cs k 0) 0) false (all_cells cs ks)

-- ---- the answer, and what the lent output then holds

-- a refusal writes nothing
abbrev pub no_blank : ℕ → List ℕ → Outcome Blanked (List ℕ)
no_blank k o = record { answer = record { number = k; count = 0 }; memory = o }

-- 8 where the output is shorter than the tree; its bytes past the tree stay
abbrev pub blank_to : List ℕ → List ℕ → Outcome Blanked (List ℕ)
blank_to bytes o = pick (ltb (length o) (length bytes)) (no_blank 8 o) (record
    { answer = record { number = 0; count = length bytes }; memory = bytes ++ drop (length bytes) o })

-- 9 where a number names no Cell
abbrev pub blank_in : ReadOne → List ℕ → List ℕ → Outcome Blanked (List ℕ)
blank_in (ReadOne.refused k) ns o = no_blank k o
blank_in (ReadOne.one t z n) ns o = pick (all_cells (cell_flags t) ns) (blank_to (bytes_of (blanked (dots_for ns) 0 t)) o) (no_blank 9 o)

unfoldable pub blank_of : List ℕ → List ℕ → List ℕ → Outcome Blanked (List ℕ)
unfolding read_tree all_cells cell_flags bytes_of blanked dots_for
blank_of tree ns o = blank_in (read_tree tree) ns o
