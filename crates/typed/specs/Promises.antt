-- Definitions used in the statements of the theorems about typed lists.
use Rattle.std.specs.Prelude.{◌≡◌, ◌⊎◌, ℕ, ◌+◌, ◌-◌, ◌≤◌, suc, ◌*◌, List, [], ◌∷◌, ◌++◌, map, length, get_or, take, drop, replicate, eqb}
use Rattle.common.specs.Choice.{pick}
use Rattle.common.specs.Outcome.{Outcome}
use Rattle.tree.specs.Tree.{Tree, nodes, Trees, cell, group, none, more}
use Rattle.tree.specs.Reading.{one, read_tree}
use Rattle.tree.specs.Accepted.{bytes_of}
use Rattle.text.specs.Text.{lines, join_lines}
use Rattle.typed.specs.declared.Typed.{Typed}
use Rattle.typed.specs.Line.{without_return, Item, axis_word}
use Rattle.typed.specs.Scan.{found, scan_lines, TypedNode}
use Rattle.typed.specs.Typed.{typed_accepted, typed_of}
use Rattle.typed.specs.Line as line

-- ---- a call that answers 0: `typed_accepted_lem`

-- what was written
abbrev pub tree_written : Outcome Typed (List ℕ) → List ℕ
tree_written x = take x.answer.count x.memory

-- the tree's nodes with their levels, in node order
unfoldable mutual
  pub typed_nodes : ℕ → Tree → List TypedNode
  typed_nodes d (cell t) = record { level = d; item = line.cell t } ∷ []
  typed_nodes d (group a ts) = record { level = d; item = line.group a } ∷ typed_nodes* (suc d) ts

  pub typed_nodes* : ℕ → Trees → List TypedNode
  typed_nodes* d none = []
  typed_nodes* d (more t ts) = typed_nodes d t ++ typed_nodes* d ts

-- for the typed list `text`, where `out` was lent
pub record TypedTree (text out : List ℕ) (x : Outcome Typed (List ℕ)) : Type 0 where
  pub root : Tree
  -- the list's nodes, with their levels, are those of one tree
  pub lines_are : scan_lines text ≡ found (typed_nodes 0 root)
  -- its bytes were written, and the tree reader accepts them as that tree
  pub bytes_are : tree_written x ≡ bytes_of root
  pub read : read_tree (tree_written x) ≡ one root x.answer.count (nodes root)
  -- past them the output stays
  pub kept : drop x.answer.count x.memory ≡ drop x.answer.count out

-- ---- every tree that the tree reader accepts: `typed_back`

-- a line feed is \n, a backslash \\
unfoldable pub escaped : List ℕ → List ℕ
escaped [] = []
escaped (b ∷ t) = pick (eqb b 10) (92 ∷ 110 ∷ escaped t) (pick (eqb b 92) (92 ∷ 92 ∷ escaped t) (b ∷ escaped t))

-- `row`, `column`, or a quote mark and the text
abbrev pub typed_body : Item → List ℕ
typed_body (line.cell t) = 39 ∷ escaped t
typed_body (line.group a) = axis_word a

-- a node's line
unfoldable pub typed_line : TypedNode → List ℕ
typed_line n = replicate (2 * n.level) 32 ++ typed_body n.item

-- the tree's text
unfoldable pub type_of : Tree → List ℕ
type_of t = join_lines (map typed_line (typed_nodes 0 t))

-- its text is read back to its bytes, wherever these fit
abbrev pub TypedBack : List ℕ → Tree → Type 0
TypedBack bytes t = (out : List ℕ) → length bytes ≤ length out → typed_of (type_of t) out ≡ typed_accepted bytes out

-- ---- every answer: `fault_place`

-- it names no line: the tree was written, the output is too short, or the list is too long
abbrev pub Unplaced : ℕ → Type 0
Unplaced k = (k ≡ 0) ⊎ (k ≡ 8) ⊎ (k ≡ 30)

-- the line that the answer names, without its carriage return
abbrev pub named_line : List ℕ → Typed → List ℕ
named_line text a = without_return (get_or (lines text) (a.line - 1) [])

pub record FaultAt (text : List ℕ) (a : Typed) : Type 0 where
  pub number_low : 31 ≤ a.number
  pub number_high : a.number ≤ 39
  -- the line is one of the list's
  pub line_low : 1 ≤ a.line
  pub line_high : a.line ≤ length (lines text)
  -- a byte of the line is at the column; 32 and 39 may be reported one past the line's end
  pub column_low : 1 ≤ a.column
  pub column_high : a.column ≤ length (named_line text a) + 1
  pub on_byte : (a.number ≡ 32 → ⊥) → (a.number ≡ 39 → ⊥) → a.column ≤ length (named_line text a)

pub record FaultPlace (text : List ℕ) (a : Typed) : Type 0 where
  pub none : Unplaced a.number → (a.line ≡ 0) × (a.column ≡ 0)
  pub some : (Unplaced a.number → ⊥) → FaultAt text a
