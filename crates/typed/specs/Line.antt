-- One line of a typed list.
use Rattle.std.specs.Prelude.{ℕ, suc, ◌+◌, ◌-◌, ◌/◌, ◌%◌, Bool, true, false, List, [], ◌∷◌, length, get_or, take, drop, eqb}
use Rattle.common.specs.Choice.{pick, both}
use Rattle.tree.specs.Tree.{Axis, across, down}
use Rattle.typed.specs.Text.{Text, wrong, text, typed_text}

-- what a line names: a Cell with its text, or a Row or Column, whose children are on the lines below
pub data Item : Type 0 where
  cell : List ℕ → Item
  group : Axis → Item

abbrev pub own_text : Item → List ℕ
own_text (cell t) = t
own_text (group a) = []

-- nothing to read; a fault, with its number and column; or a node at a level
pub data OneLine : Type 0 where
  skip : OneLine
  fault : ℕ → ℕ → OneLine
  node : ℕ → Item → OneLine

-- a carriage return (13) at the line's end is taken off
unfoldable pub without_return : List ℕ → List ℕ
without_return x = pick (eqb (get_or x (length x - 1) 0) 13) (take (length x - 1) x) x

-- the spaces (32) at the front
unfoldable pub spaces : List ℕ → ℕ
spaces [] = 0
spaces (b ∷ s) = pick (eqb b 32) (suc (spaces s)) 0

unfoldable pub same_bytes : List ℕ → List ℕ → Bool
same_bytes [] [] = true
same_bytes [] (b ∷ t) = false
same_bytes (a ∷ s) [] = false
same_bytes (a ∷ s) (b ∷ t) = both (same_bytes s t) (eqb a b)

-- `row` and `column`
abbrev pub axis_word : Axis → List ℕ
axis_word across = 114 ∷ 111 ∷ 119 ∷ []
axis_word down = 99 ∷ 111 ∷ 108 ∷ 117 ∷ 109 ∷ 110 ∷ []

abbrev pub is_row : List ℕ → Bool
is_row s = same_bytes s (axis_word across)

abbrev pub is_column : List ℕ → Bool
is_column s = same_bytes s (axis_word down)

-- a level is two spaces: an odd number of them is fault 33
abbrev pub level_of : ℕ → Item → OneLine
level_of n item = pick (eqb (n % 2) 0) (node (n / 2) item) (fault 33 (n + 1))

-- a Cell after n spaces, whose text begins at `start`
abbrev pub cell_at : ℕ → ℕ → Text → OneLine
cell_at n start (wrong k i) = fault k (start + i + 1)
cell_at n start (text t) = level_of n (cell t)

abbrev pub cell_line : ℕ → ℕ → List ℕ → OneLine
cell_line n start x = cell_at n start (typed_text (drop start x))

-- What follows n spaces: nothing, or a comment that begins with # (35); `row`; `column`; a Cell, whose text begins after a quote mark (39) if there is one.
unfoldable pub plain_line : List ℕ → ℕ → List ℕ → OneLine
plain_line x n [] = skip
plain_line x n (b ∷ s) =
    pick (eqb b 35) skip
    (pick (is_row (b ∷ s)) (level_of n (group across))
    (pick (is_column (b ∷ s)) (level_of n (group down))
    (pick (eqb b 39) (cell_line n (n + 1) x) (cell_line n n x))))

abbrev pub plain_of : List ℕ → OneLine
plain_of x = plain_line x (spaces x) (drop (spaces x) x)

unfoldable pub one_line_of : List ℕ → OneLine
one_line_of x = plain_of (without_return x)

-- ---- what the functions answer
