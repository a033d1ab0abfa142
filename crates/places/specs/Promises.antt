-- Definitions used in the statements of the theorems about numbers 12 and 13 (document 02, 5) and about the answers that are written together (02, 6).
use Rattle.std.specs.Prelude.{◌≡◌, ◌⊎◌, ℕ, ◌+◌, ◌≤◌, ◌<◌, ◌/◌, ◌%◌, false, List, [], ◌++◌, map, length, get_or, drop}
use Rattle.common.specs.Every.{Every}
use Rattle.common.specs.Outcome.{Outcome}
use Rattle.settings.specs.declared.Settings.{Settings}
use Rattle.tree.specs.Tree.{Tree, nodes}
use Rattle.text.specs.Text.{lines}
use Rattle.sizes.specs.Input.{given, input_of, Input}
use Rattle.layout.specs.Walk.{inside_w, inside_h, Placed}
use Rattle.layout.specs.Promises.{height_at, width_at, LeafAt}
use Rattle.frame.specs.Frame.{W, H, too_large}
use Rattle.places.specs.declared.FoundPlaces.{FoundPlaces}
use Rattle.places.specs.declared.LeafPlace.{LeafPlace}
use Rattle.places.specs.Words.{line_of, column_of, place_word}
use Rattle.places.specs.Places.{leaf_place_of}

-- ---- 02, 5: "12 for a line or column outside the printed sheet, 13 for a place in the margin"

-- settings and tree are read, the sheet is within the limits, and the line or the column is outside it
pub record OutsideSheet (bs ts : List ℕ) (l k : ℕ) : Type 0 where
  pub settings : Settings
  pub tree : Tree
  pub input : input_of bs ts ≡ given settings tree
  pub within : too_large settings tree ≡ false
  pub outside : (H settings tree ≤ l) ⊎ (W settings tree ≤ k)

-- on a side of the rectangle inside the margin
pub data Beside (s : Settings) (t : Tree) (l k : ℕ) : Type 0 where
  above : l < s.margin.top → Beside s t l k
  under : s.margin.top + inside_h s t ≤ l → Beside s t l k
  before : k < s.margin.left → Beside s t l k
  behind : s.margin.left + inside_w s t ≤ k → Beside s t l k

-- the same, and the place is one of the sheet's, in its margin
pub record InMargin (bs ts : List ℕ) (l k : ℕ) : Type 0 where
  pub settings : Settings
  pub tree : Tree
  pub input : input_of bs ts ≡ given settings tree
  pub within : too_large settings tree ≡ false
  pub line : l < H settings tree
  pub column : k < W settings tree
  pub beside : Beside settings tree l k

-- ---- 02, 6: "in the order given, repeats allowed, each exactly as if it had been put alone"

-- a place's answer from its number
abbrev pub unpacked : ℕ → LeafPlace
unpacked w = record { number = 0; node = w / 4294967296; line = w / 65536 % 65536; column = w % 65536 }

-- the i-th answer written, decoded to its node, line and column, is the one of `leaf_at` for the line and the column of the i-th place
pub record EachAsAlone (bs ts ps : List ℕ) (r : Outcome FoundPlaces (List ℕ)) : Type 0 where
  pub count : r.answer.count ≡ length ps
  pub alone : (i : ℕ) → i < r.answer.count
      → unpacked (get_or r.memory i 0) ≡ leaf_place_of (input_of bs ts) (line_of (get_or ps i 0)) (column_of (get_or ps i 0))

-- the answer names a leaf, and a place of its block, which is printed there
pub record Forward (s : Settings) (t : Tree) (l k : ℕ) (r : LeafPlace) : Type 0 where
  pub leaf : Placed
  pub named : LeafAt s t r.node leaf
  pub lines : r.line < height_at s leaf.at
  pub columns : r.column < width_at s leaf.at
  pub line_is : s.margin.top + (leaf.at.line + r.line) ≡ l
  pub column_is : s.margin.left + (leaf.at.column + r.column) ≡ k

-- an accepted sheet: neither 1 to 5 nor 6
pub record Admitted (x : Input) (s : Settings) (t : Tree) : Type 0 where
  pub input : x ≡ given s t
  pub large : too_large s t ≡ false

-- the same for the bytes that the leaf printer wrote: a leaf, and for each byte of its lines the answer
pub record BytesLeadBack (x : Input) (s : Settings) (t : Tree) (n : ℕ) (bytes : List ℕ) : Type 0 where
  pub leaf : Placed
  pub named : LeafAt s t n leaf
  pub back : (i j : ℕ) → i < length (lines bytes) → j < length (get_or (lines bytes) i [])
      → leaf_place_of x (s.margin.top + (leaf.at.line + i)) (s.margin.left + (leaf.at.column + j)) ≡ record { number = 0; node = n; line = i; column = j }

-- an answered place is one of an accepted sheet: the answer's node is a leaf, its line and column are of that leaf's block, and are at the place that was
-- looked up
pub record LeadsForward (x : Input) (l k : ℕ) (r : LeafPlace) : Type 0 where
  pub settings : Settings
  pub tree : Tree
  pub admitted : Admitted x settings tree
  pub forward : Forward settings tree l k r

-- its answer as one number
abbrev pub alone_word : Input → ℕ → ℕ
alone_word x p = place_word (leaf_place_of x (line_of p) (column_of p))

-- it is not refused
abbrev pub Alone : Input → ℕ → Type 0
Alone x p = (leaf_place_of x (line_of p) (column_of p)).number ≡ 0

-- in the order given, each exactly as if it had been put alone; that many answers are counted, entries past them stay, and the walk read as many elements as
-- the tree has nodes
pub record Together (x : Input) (ps fs : List ℕ) (r : Outcome FoundPlaces (List ℕ)) : Type 0 where
  pub settings : Settings
  pub tree : Tree
  pub admitted : Admitted x settings tree
  pub few : length ps ≤ 256
  pub room : length ps ≤ length fs
  pub each : Every (Alone x) ps
  pub count : r.answer.count ≡ length ps
  pub steps : r.answer.steps ≡ nodes tree
  pub list : r.memory ≡ map (alone_word x) ps ++ drop (length ps) fs
