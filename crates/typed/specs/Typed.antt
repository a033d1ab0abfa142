-- Typed lists: the tree of the nodes, and what `read_typed` answers and writes.
use Rattle.std.specs.Prelude.{ℕ, zero, suc, List, [], ◌∷◌, ◌++◌, length, get_or, drop, replicate, ltb}
use Rattle.common.specs.Choice.{pick}
use Rattle.common.specs.Outcome.{Outcome}
use Rattle.tree.specs.Tree as tree
use Rattle.tree.specs.Tree.{Tree, Trees, none, more}
use Rattle.tree.specs.Accepted.{bytes_of}
use Rattle.typed.specs.Line.{Item, cell, group}
use Rattle.typed.specs.Scan.{TypedNode, TypedScan, stopped, found, scan_lines}
use Rattle.typed.specs.declared.Typed.{Typed}

-- a node with its children
abbrev pub parent : Item → Trees → Tree
parent (cell t) ks = tree.cell t
parent (group a) ks = tree.group a ks

-- The trees at each level, the root's first, with one node more in front: its children are the trees that were one level below.
unfoldable pub push : ℕ → Item → List Trees → List Trees
push zero item [] = []
push zero item (ts ∷ []) = []
push zero item (ts ∷ ks ∷ p) = more (parent item ks) ts ∷ none ∷ p
push (suc d) item [] = []
push (suc d) item (ts ∷ p) = ts ∷ push d item p

-- from the last node to the first; 17 levels, so that each of the 16 has one below it
unfoldable pub trees_at : List TypedNode → List Trees
trees_at [] = replicate 17 none
trees_at (n ∷ ns) = push n.level n.item (trees_at ns)

-- the first tree at level 0
abbrev pub first_of : Trees → Tree
first_of none = tree.cell []
first_of (more t ts) = t

abbrev pub root_of : List TypedNode → Tree
root_of ns = first_of (get_or (trees_at ns) 0 none)

-- ---- what `read_typed` answers, and what the lent output then holds

-- a refusal writes nothing
abbrev pub typed_refusal : ℕ → ℕ → ℕ → List ℕ → Outcome Typed (List ℕ)
typed_refusal k l c out = record { answer = record { number = k; count = 0; line = l; column = c }; memory = out }

-- the bytes at the front; those past them stay
abbrev pub typed_accepted : List ℕ → List ℕ → Outcome Typed (List ℕ)
typed_accepted bytes out = record { answer = record { number = 0; count = length bytes; line = 0; column = 0 }; memory = bytes ++ drop (length bytes) out }

abbrev pub outcome_of : TypedScan → List ℕ → Outcome Typed (List ℕ)
outcome_of (stopped k l c) out = typed_refusal k l c out
outcome_of (found ns) out = pick (ltb (length out) (length (bytes_of (root_of ns)))) (typed_refusal 8 0 0 out) (typed_accepted (bytes_of (root_of ns)) out)

-- 30: the text has over 131,072 bytes
unfoldable pub typed_of : List ℕ → List ℕ → Outcome Typed (List ℕ)
typed_of text out = pick (ltb 131072 (length text)) (typed_refusal 30 0 0 out) (outcome_of (scan_lines text) out)

-- ---- written element after element
