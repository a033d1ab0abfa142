-- Pairs of trees as in document 02, 14, computed on the definitions: which bytes of both sheets are the texts' own, and which trees are alike.
use Rattle.std.specs.Prelude.{◌≡◌, refl, ℕ, zero, suc, ◌+◌, ◌*◌, Bool, true, List, [], ◌∷◌, ◌++◌, eqb}
use Rattle.std.proofs.Common.{ap, arith}
use Rattle.common.specs.Choice.{pick}
use Rattle.settings.specs.Reading.{read_settings}
use Rattle.tree.specs.Tree.{Tree, across, cell, group, none, more}
use Rattle.tree.specs.Reading.{read_tree, read_element, header_of, is_text}
use Rattle.sizes.specs.Sizes.{sep}
use Rattle.sizes.specs.Input.{Input, refused, given, input_of}
use Rattle.splits.specs.Figures.{same_list, all_true}
use Rattle.sheet.specs.Sheet.{sheet}
use Rattle.blank.specs.Alike.{covered, masked, Alike}
use Rattle.alike.specs.Blurred.{blurred}

-- ---- the texts' own bytes

-- the places of the mask in a list, from place i on
unfoldable pub ones_from : ℕ → List ℕ → List ℕ
ones_from i [] = []
ones_from i (b ∷ l) = pick (eqb b 1) (i ∷ ones_from (suc i) l) (ones_from (suc i) l)

unfoldable pub own_bytes : Input → List ℕ
unfolding ones_from sheet masked
own_bytes (refused k) = []
own_bytes (given s t) = ones_from 0 (sheet s (masked t))

-- n places from i on
unfoldable pub counted_from : ℕ → ℕ → List ℕ
counted_from i zero = []
counted_from i (suc n) = i ∷ counted_from (suc i) n

-- of a sheet of w columns: line, first column, how many
unfoldable pub line_places : ℕ → ℕ → ℕ → ℕ → List ℕ
unfolding counted_from
line_places w line column n = counted_from (line * (w + 1) + column) n

pub own_figure : List ℕ → List ℕ → List ℕ → Bool
unfolding same_list own_bytes input_of
own_figure s t places = same_list (own_bytes (input_of s t)) places

-- the marks `-◌()hv123456789`; without lines, with a margin; centred, with fills
pub marks_own : List ℕ
marks_own = 16 ∷ 0 ∷ 28 ∷ 45 ∷ 95 ∷ 40 ∷ 41 ∷ 104 ∷ 118 ∷ 49 ∷ 50 ∷ 51 ∷ 52 ∷ 53 ∷ 54 ∷ 55 ∷ 56 ∷ 57 ∷ 1 ∷ 1 ∷ 0 ∷ 0 ∷ 32 ∷ 32 ∷ 32 ∷ 32 ∷ 0 ∷ 0 ∷ 0 ∷ 2 ∷ 2
    ∷ []

pub bare_right : List ℕ
bare_right = 16 ∷ 0 ∷ 28 ∷ 0 ∷ 0 ∷ 0 ∷ 0 ∷ 0 ∷ 0 ∷ 0 ∷ 0 ∷ 0 ∷ 0 ∷ 0 ∷ 0 ∷ 0 ∷ 0 ∷ 0 ∷ 1 ∷ 1 ∷ 0 ∷ 0 ∷ 32 ∷ 32 ∷ 32 ∷ 32 ∷ 2 ∷ 0 ∷ 1 ∷ 2 ∷ 2 ∷ 17 ∷ 0 ∷ 8 ∷ 1
    ∷ 1
    ∷ 0 ∷ 0 ∷ 108 ∷ 114 ∷ 116 ∷ 98 ∷ []

pub centred : List ℕ
centred = 16 ∷ 0 ∷ 28 ∷ 45 ∷ 95 ∷ 40 ∷ 41 ∷ 104 ∷ 118 ∷ 49 ∷ 50 ∷ 51 ∷ 52 ∷ 53 ∷ 54 ∷ 55 ∷ 56 ∷ 57 ∷ 2 ∷ 1 ∷ 1 ∷ 0 ∷ 108 ∷ 114 ∷ 116 ∷ 98 ∷ 1 ∷ 0 ∷ 0 ∷ 2 ∷ 2
    ∷ []

pub own_figures : List Bool
unfolding own_figure line_places marks_own bare_right centred
own_figures =
    -- Column[`Q1: Vy?`, Row[`54 kt`, `6 s`]] and its question paper
    own_figure marks_own (3 ∷ 0 ∷ 27 ∷ 1 ∷ 0 ∷ 7 ∷ 81 ∷ 49 ∷ 58 ∷ 32 ∷ 86 ∷ 121 ∷ 63 ∷ 2 ∷ 0 ∷ 14 ∷ 1 ∷ 0 ∷ 5 ∷ 53 ∷ 52 ∷ 32 ∷ 107 ∷ 116 ∷ 1 ∷ 0 ∷ 3 ∷ 54 ∷ 32
    ∷ 115 ∷ []) (line_places 15 1 2 7 ++ (line_places 15 3 2 5 ++ line_places 15 3 10 3))
    ∷ own_figure marks_own
    (3 ∷ 0 ∷ 27 ∷ 1 ∷ 0 ∷ 7 ∷ 81 ∷ 49 ∷ 58 ∷ 32 ∷ 86 ∷ 121 ∷ 63 ∷ 2 ∷ 0 ∷ 14 ∷ 1 ∷ 0 ∷ 5 ∷ 46 ∷ 46 ∷ 46 ∷ 46 ∷ 46 ∷ 1 ∷ 0 ∷ 3 ∷ 46 ∷ 46 ∷ 46 ∷ [])
    (line_places 15 1 2 7 ++ (line_places 15 3 2 5 ++ line_places 15 3 10 3))
    -- Row[`a` over `bcd`, `e`]
    ∷ own_figure bare_right (2 ∷ 0 ∷ 12 ∷ 1 ∷ 0 ∷ 5 ∷ 97 ∷ 10 ∷ 98 ∷ 99 ∷ 100 ∷ 1 ∷ 0 ∷ 1 ∷ 101 ∷ [])
    (line_places 10 0 4 1 ++ (line_places 10 0 7 1 ++ line_places 10 1 2 3))
    ∷ own_figure bare_right (2 ∷ 0 ∷ 12 ∷ 1 ∷ 0 ∷ 5 ∷ 46 ∷ 10 ∷ 46 ∷ 46 ∷ 46 ∷ 1 ∷ 0 ∷ 1 ∷ 46 ∷ [])
    (line_places 10 0 4 1 ++ (line_places 10 0 7 1 ++ line_places 10 1 2 3))
    -- Column[`ab cd` over nothing over `xy`, `answer: 17`]
    ∷ own_figure centred (3 ∷ 0 ∷ 25 ∷ 1 ∷ 0 ∷ 9 ∷ 97 ∷ 98 ∷ 32 ∷ 99 ∷ 100 ∷ 10 ∷ 10 ∷ 120 ∷ 121 ∷ 1 ∷ 0 ∷ 10 ∷ 97 ∷ 110 ∷ 115 ∷ 119 ∷ 101 ∷ 114 ∷ 58 ∷ 32 ∷ 49
    ∷ 55 ∷ []) (line_places 15 2 5 5 ++ (line_places 15 4 5 2 ++ line_places 15 7 3 10))
    ∷ own_figure centred (3 ∷ 0 ∷ 25 ∷ 1 ∷ 0 ∷ 9 ∷ 46 ∷ 46 ∷ 46 ∷ 46 ∷ 46 ∷ 10 ∷ 10 ∷ 46 ∷ 46 ∷ 1 ∷ 0 ∷ 10 ∷ 97 ∷ 110 ∷ 115 ∷ 119 ∷ 101 ∷ 114 ∷ 58 ∷ 32 ∷ 46
    ∷ 46
    ∷ []) (line_places 15 2 5 5 ++ (line_places 15 4 5 2 ++ line_places 15 7 3 10))
    ∷ []

pub own_figures_hold : all_true own_figures ≡ true
unfolding all_true own_figures sep read_settings read_tree read_element header_of is_text
own_figures_hold = refl

-- ---- alike or not

-- `a` over `bcd` and dots
pub pair_alike : Alike (cell (97 ∷ 10 ∷ 98 ∷ 99 ∷ 100 ∷ [])) (cell (46 ∷ 10 ∷ 46 ∷ 46 ∷ 46 ∷ []))
unfolding Alike
pair_alike = refl

-- the second byte of a Cell's text; 0 for a group
second : Tree → ℕ
second (cell []) = 0
second (cell (a ∷ [])) = 0
second (cell (a ∷ b ∷ l)) = b
second (group x ts) = 0

-- the lines' lengths differ: `ab` over `c`, `a` over `bc`
pub lengths_differ : Alike (cell (97 ∷ 98 ∷ 10 ∷ 99 ∷ [])) (cell (97 ∷ 10 ∷ 98 ∷ 99 ∷ [])) → ⊥
unfolding Alike second
lengths_differ h = let e : ◌≡◌ {A = ℕ} 1 10 = ap second h in omega arith

-- the line counts differ: `ab`, and `a` over nothing
pub counts_differ : Alike (cell (97 ∷ 98 ∷ [])) (cell (97 ∷ 10 ∷ [])) → ⊥
unfolding Alike second
counts_differ h = let e : ◌≡◌ {A = ℕ} 1 10 = ap second h in omega arith

-- a Cell, and the Row of it
pub shapes_differ : Alike (cell (97 ∷ 98 ∷ [])) (group across (more (cell (97 ∷ 98 ∷ [])) none)) → ⊥
unfolding Alike second
shapes_differ h = let e : ◌≡◌ {A = ℕ} 1 0 = ap second h in omega arith

-- ---- bytes that are no tree

-- a Row of `ab` or `..` and an element of tag 9; a Column of a text and half an element; a planning tree of a text and a range
pub broken_pair : blurred 9 (2 ∷ 0 ∷ 8 ∷ 1 ∷ 0 ∷ 2 ∷ 97 ∷ 98 ∷ 9 ∷ 0 ∷ 0 ∷ []) ≡ blurred 9 (2 ∷ 0 ∷ 8 ∷ 1 ∷ 0 ∷ 2 ∷ 46 ∷ 46 ∷ 9 ∷ 0 ∷ 0 ∷ [])
unfolding blurred covered
broken_pair = refl

pub half_pair : blurred 9 (3 ∷ 0 ∷ 6 ∷ 1 ∷ 0 ∷ 1 ∷ 97 ∷ 1 ∷ 0 ∷ []) ≡ blurred 9 (3 ∷ 0 ∷ 6 ∷ 1 ∷ 0 ∷ 1 ∷ 46 ∷ 1 ∷ 0 ∷ [])
unfolding blurred covered
half_pair = refl

pub plan_pair : blurred 9 (2 ∷ 0 ∷ 11 ∷ 1 ∷ 0 ∷ 1 ∷ 97 ∷ 4 ∷ 0 ∷ 4 ∷ 1 ∷ 2 ∷ 1 ∷ 1 ∷ []) ≡ blurred 9 (2 ∷ 0 ∷ 11 ∷ 1 ∷ 0 ∷ 1 ∷ 46 ∷ 4 ∷ 0 ∷ 4 ∷ 1 ∷ 2 ∷ 1 ∷ 1
    ∷ [])
unfolding blurred covered
plan_pair = refl
