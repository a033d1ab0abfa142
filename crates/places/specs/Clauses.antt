-- What the functions below the calls require and ensure.
use Rattle.std.specs.Prelude.{◌≡◌, ℕ, ◌+◌, ◌-◌, ◌*◌, ◌≤◌, ◌<◌, List, [], ◌∷◌, length, eqb}
use Rattle.common.specs.Choice.{pick}
use Rattle.settings.specs.declared.Settings.{Settings}
use Rattle.settings.specs.declared.Margin.{Margin}
use Rattle.tree.specs.Tree.{Tree, Trees, nodes, nodes*}
use Rattle.tree.specs.Bytes.{length_at, axis_of}
use Rattle.tree.specs.Promises.{Encodes, EncodesAll}
use Rattle.sizes.specs.declared.Measured.{Measured}
use Rattle.sizes.specs.Sizes.{sep}
use Rattle.sizes.specs.Input.{Input, refused, given}
use Rattle.sizes.specs.Clauses.{no_measured}
use Rattle.layout.specs.Walk.{inside_w, inside_h}
use Rattle.frame.specs.declared.Frame.{Frame}
use Rattle.frame.specs.Frame.{too_large}
use Rattle.frame.specs.Clauses.{around}
use Rattle.places.specs.declared.anchor.Anchor.{Anchor}
use Rattle.places.specs.declared.anchor.Siblings.{Siblings}
use Rattle.places.specs.declared.area.Area.{Area}
use Rattle.places.specs.declared.locate.Consumed.{Consumed}
use Rattle.places.specs.Words.{line_of, column_of, answer_word}
use Rattle.places.specs.Places.{covers}
use Rattle.places.specs.Locating.{Located, child_anchor}

-- ---- before a place is looked up

-- 1 to 6, or the settings and the node count of a sheet that is printed
unfoldable pub checked_of : Input → Measured
unfolding too_large
checked_of (refused n) = no_measured n
checked_of (given s t) = record { number = pick (too_large s t) 6 0; settings = s; count = nodes t }

-- the margin and the frame are those of the sheet of settings s and tree t
pub record Frames (m : Margin) (f : Frame) (s : Settings) (t : Tree) : Type 0 where
  pub margin : m ≡ s.margin
  pub frame : f ≡ around s.margin (inside_w s t) (inside_h s t)

-- ---- what is written at a leaf

-- the answer for place p: this leaf's, where its area covers the place, else the answer so far
unfoldable pub answer_at : Area → ℕ → ℕ → ℕ
unfolding covers
answer_at a p before = pick (covers a (line_of p) (column_of p)) (answer_word a.node (line_of p - a.line) (column_of p - a.column)) before

-- the same for each of the places ps, where the answers were fs
unfoldable pub answers_at : Area → List ℕ → List ℕ → List ℕ
unfolding answer_at
answers_at a [] fs = fs
answers_at a (p ∷ ps) [] = []
answers_at a (p ∷ ps) (f ∷ fs) = answer_at a p f ∷ answers_at a ps fs

-- at one leaf after the other
unfoldable pub answers_by : List Area → List ℕ → List ℕ → List ℕ
unfolding answers_at
answers_by [] ps fs = fs
answers_by (a ∷ rs) ps fs = answers_by rs ps (answers_at a ps fs)

-- an answer in this area fits its bits
pub record SmallArea (a : Area) : Type 0 where
  pub node : a.node < 512
  pub tall : a.tall ≤ 65537
  pub wide : a.wide ≤ 65537

-- ---- what the walk's functions require

-- no line or column of a start, or of an offset from it, is larger than `node` nodes allow
pub record LowStart (b : Anchor) (offset node : ℕ) : Type 0 where
  pub line : b.line + offset ≤ 65537 * (node + 1)
  pub column : b.column + offset ≤ 65537 * (node + 1)

-- the bytes begin with a tree, whose first node is `node`; there are lp places, and lf answers
pub record NodeAsks (bytes : List ℕ) (g : Siblings) (node offset lp lf : ℕ) : Type 0 where
  pub tree : Tree
  pub is : Encodes tree bytes
  pub thin : g.gap ≤ 1
  pub few : node + nodes tree ≤ 512
  pub low : LowStart g.start offset node
  pub same : lf ≡ lp

-- the bytes are the children of a group, the first of which is `node`
pub record GroupAsks (bytes : List ℕ) (g : Siblings) (node lp lf : ℕ) : Type 0 where
  pub trees : Trees
  pub are : EncodesAll trees bytes
  pub thin : g.gap ≤ 1
  pub few : node + nodes* trees ≤ 512
  pub low : LowStart g.start 0 node
  pub same : lf ≡ lp

-- the bytes are those of an accepted tree
pub record TreeAsks (bytes : List ℕ) (s : Settings) (lp lf : ℕ) : Type 0 where
  pub tree : Tree
  pub is : Encodes tree bytes
  pub ends : 3 + length_at bytes ≡ length bytes
  pub few : nodes tree ≤ 512
  pub thin : sep s ≤ 1
  pub top : s.margin.top ≤ 16
  pub left : s.margin.left ≤ 16
  pub same : lf ≡ lp

-- ---- what they ensure

-- where the element at the front of the bytes starts: it is the last child where the bytes end with it
abbrev pub anchor_of : List ℕ → Siblings → ℕ → Anchor
anchor_of bytes g offset = child_anchor (axis_of g.across) g.start offset (eqb (3 + length_at bytes) (length bytes))

-- the answers f, which were f₀, and the elements read are those of the walk x
pub record Locates (x : Located) (ps : List ℕ) (steps : ℕ) (f₀ f : List ℕ) : Type 0 where
  pub steps_is : steps ≡ x.steps
  pub answers_are : f ≡ answers_by x.areas ps f₀

-- and the bytes are those of the element
pub record NodeGives (bytes : List ℕ) (x : Located) (ps : List ℕ) (r : Consumed) (f₀ f : List ℕ) : Type 0 where
  pub used_is : r.used ≡ 3 + length_at bytes
  pub located : Locates x ps r.steps f₀ f
