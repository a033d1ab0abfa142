-- The lines of a typed list: the nodes with their levels, or the first fault with its line and column.
use Rattle.std.specs.Prelude.{ℕ, suc, ◌+◌, ◌*◌, true, false, List, [], ◌∷◌, length, eqb, ltb, leb}
use Rattle.common.specs.Choice.{pick, both}
use Rattle.text.specs.Text.{lines}
use Rattle.typed.specs.declared.scan.ScanState.{ScanState}
use Rattle.typed.specs.Line.{Item, cell, group, own_text, skip, fault, node, one_line_of}

-- a node: its level, the root's being 0, and what it is
pub record TypedNode : Type 0 where
  pub level : ℕ
  pub item : Item

-- the nodes of the lines, or a fault: its number, line and column, both counted from 1
pub data TypedScan : Type 0 where
  stopped : ℕ → ℕ → ℕ → TypedScan
  found : List TypedNode → TypedScan

abbrev pub adding : TypedNode → TypedScan → TypedScan
adding n (stopped k l c) = stopped k l c
adding n (found ns) = found (n ∷ ns)

-- The fault of a node at level d whose own text has n bytes, after the nodes so far; 0 for none. 34: a second root; 35: deeper than the line above allows; 36:
-- over 16 levels; 37: over 512 nodes; 38: over 32,768 bytes.
unfoldable pub place_fault : ScanState → ℕ → ℕ → ℕ
place_fault z d n =
    pick (both (ltb 0 z.count) (eqb d 0)) 34
    (pick (ltb z.may d) 35
    (pick (leb 16 d) 36
    (pick (leb 512 z.count) 37
    (pick (ltb 32768 (z.total + 3 + n)) 38 0))))

-- the deepest level that may follow a node: one below a Row or Column, and none below a Cell
abbrev pub level_under : ℕ → Item → ℕ
level_under d (cell t) = d
level_under d (group a) = d + 1

-- one node more: its element has a front of 3 bytes and its own text
abbrev pub next_of : ScanState → ℕ → Item → ScanState
next_of z d item = record { count = z.count + 1; may = level_under d item; total = z.total + 3 + length (own_text item) }

-- l lines are read; 39: there is no node
unfoldable pub scan_from : ℕ → ScanState → List (List ℕ) → TypedScan
scan_from l z [] = pick (eqb z.count 0) (stopped 39 l 1) (found [])
scan_from l z (x ∷ xs) = elim (one_line_of x) [
  | skip ↦ scan_from (suc l) z xs
  | fault k c ↦ stopped k (suc l) c
  | node d item ↦ elim (eqb (place_fault z d (length (own_text item))) 0) [
    | true ↦ adding (record { level = d; item = item }) (scan_from (suc l) (next_of z d item) xs)
    | false ↦ stopped (place_fault z d (length (own_text item))) (suc l) (2 * d + 1)
  ]
]

abbrev pub none_yet : ScanState
none_yet = record { count = 0; may = 0; total = 0 }

abbrev pub scan_lines : List ℕ → TypedScan
scan_lines text = scan_from 0 none_yet (lines text)

-- ---- what the functions answer
