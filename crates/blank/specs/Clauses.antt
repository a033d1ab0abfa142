-- What the passes over a tree's elements require and ensure.
use Rattle.std.specs.Prelude.{◌≡◌, ℕ, ◌+◌, ◌≤◌, ◌<◌, Bool, true, false, not, List, map, length, get_or, eqb, Result, Ok, Err}
use Rattle.common.specs.Arrays.{padded}
use Rattle.common.specs.Choice.{pick}
use Rattle.common.specs.Refusals.{refusal_of}
use Rattle.common.specs.declared.refusal.Refusal.{Refusal}
use Rattle.tree.specs.Tree.{Tree, nodes}
use Rattle.tree.specs.Bytes.{length_at}
use Rattle.tree.specs.Promises.{Encodes}
use Rattle.blank.specs.Blank.{dots_for, all_cells}

-- the bytes of the text of the element at the front of s: none but for a Cell
abbrev pub text_at : List ℕ → ℕ
text_at s = pick (eqb (get_or s 0 0) 1) (length_at s) 0

-- a flag as the code has it, and those of the nodes in their array
abbrev pub is_set : ℕ → Bool
is_set k = not (eqb k 0)

abbrev pub cell_marks : List ℕ → List Bool
cell_marks cs = map is_set (padded cs)

-- node n is marked in the list
abbrev pub is_dotted : List Bool → ℕ → Bool
is_dotted ds n = get_or ds n false

-- the bytes of a tree within the limits
pub record ReadElements (s : List ℕ) : Type 0 where
  pub tree : Tree
  pub is : Encodes tree s
  pub ends : 3 + length_at s ≡ length s
  pub short : length s ≤ 32768
  pub few : nodes tree ≤ 512

-- the list marks exactly the nodes that are blanked
abbrev pub DotsAre : List ℕ → List Bool → Type 0
DotsAre ns ds = (n : ℕ) → n < 512 → is_dotted ds n ≡ dots_for ns n

-- the nodes that are blanked, or 9 where a number is not a Cell's
abbrev pub NamedAs : List ℕ → List ℕ → Result (List Bool) Refusal → Type 0
NamedAs cs ns (Ok ds) = (all_cells cs ns ≡ true) × DotsAre ns ds
NamedAs cs ns (Err r) = (all_cells cs ns ≡ false) × (r ≡ refusal_of 9)
