-- Reading planning trees: document 02, request 10. With `planning` no, the bytes are those of document 01 and tag 4 is 2, as any unknown tag.
use Rattle.std.specs.Prelude.{ℕ, zero, suc, ◌+◌, List, [], ◌∷◌, Bool, true, false, not, length, get_or, take, drop, ltb, leb, eqb}
use Rattle.common.specs.Choice.{pick, both}
use Rattle.tree.specs.Tree.{Axis}
use Rattle.tree.specs.Bytes.{length_at, axis_of, Header, Fault, Element}
use Rattle.tree.specs.Reading.{is_text}

-- a Cell, a range (least and greatest text width, least and greatest line count), or a group along an axis
mutual
  pub data Plan : Type 0 where
    cell : List ℕ → Plan
    range : ℕ → ℕ → ℕ → ℕ → Plan
    group : Axis → Plans → Plan

  pub data Plans : Type 0 where
    none : Plans
    more : Plan → Plans → Plans

-- ---- the front of an element

abbrev pub last_tag : Bool → ℕ
last_tag planning = pick planning 4 3

-- a range has four bytes
abbrev pub odd_range : List ℕ → Bool
odd_range s = both (not (eqb (length_at s) 4)) (eqb (get_or s 0 0) 4)

-- 2, 5, 4, as in `header_of`
unfoldable pub header_in : Bool → List ℕ → ℕ → ℕ → Header
header_in planning s depth count =
    pick (ltb (length s) 3) (Fault 2)
    (pick (ltb (get_or s 0 0) 1) (Fault 2)
    (pick (ltb (last_tag planning) (get_or s 0 0)) (Fault 2)
    (pick (ltb (length s) (3 + length_at s)) (Fault 2)
    (pick (odd_range s) (Fault 2)
    (pick (ltb 16 depth) (Fault 5)
    (pick (leb 512 count) (Fault 4)
    (Element (get_or s 0 0) (length_at s))))))))

-- ---- elements and sequences

pub data PlanOne : Type 0 where
  refused : ℕ → PlanOne
  one : Plan → ℕ → ℕ → PlanOne

pub data PlanAll : Type 0 where
  refused : ℕ → PlanAll
  all : Plans → ℕ → PlanAll

abbrev pub cell_in : List ℕ → ℕ → ℕ → PlanOne
cell_in text size count = pick (is_text text) (PlanOne.one (Plan.cell text) size (count + 1)) (PlanOne.refused 3)

-- no least above its greatest, and a line at the least
abbrev pub is_range : List ℕ → Bool
is_range r = pick (ltb (get_or r 1 0) (get_or r 0 0)) false (pick (ltb (get_or r 3 0) (get_or r 2 0)) false (pick (ltb (get_or r 2 0) 1) false true))

abbrev pub range_in : List ℕ → ℕ → ℕ → PlanOne
range_in r size count = pick (is_range r) (PlanOne.one (Plan.range (get_or r 0 0) (get_or r 1 0) (get_or r 2 0) (get_or r 3 0)) size (count + 1))
    (PlanOne.refused 17)

abbrev pub group_in : ℕ → ℕ → PlanAll → PlanOne
group_in tag size (PlanAll.refused k) = PlanOne.refused k
group_in tag size (PlanAll.all ps count) = PlanOne.one (Plan.group (axis_of (eqb tag 2)) ps) size count

abbrev pub more_in : Plan → PlanAll → PlanAll
more_in p (PlanAll.refused k) = PlanAll.refused k
more_in p (PlanAll.all ps count) = PlanAll.all (Plans.more p ps) count

unfoldable mutual
  pub element_in : Bool → ℕ → ℕ → ℕ → List ℕ → PlanOne
  element_in planning zero depth count s = PlanOne.refused 0
  element_in planning (suc fuel) depth count s = elim (header_in planning s depth count) [
    | Fault k ↦ PlanOne.refused k
    | Element tag len ↦ elim (eqb tag 1) [
      | true ↦ cell_in (take len (drop 3 s)) (3 + len) count
      | false ↦ elim (eqb tag 4) [
        | true ↦ range_in (take len (drop 3 s)) (3 + len) count
        | false ↦ group_in tag (3 + len) (sequence_in planning fuel (depth + 1) (count + 1) (take len (drop 3 s)))
      ]
    ]
  ]

  pub sequence_in : Bool → ℕ → ℕ → ℕ → List ℕ → PlanAll
  sequence_in planning zero depth count s = PlanAll.refused 0
  sequence_in planning (suc fuel) depth count [] = PlanAll.all Plans.none count
  sequence_in planning (suc fuel) depth count (b ∷ s) = elim (element_in planning fuel depth count (b ∷ s)) [
    | PlanOne.refused k ↦ PlanAll.refused k
    | PlanOne.one p size n ↦ more_in p (sequence_in planning fuel depth n (drop size (b ∷ s)))
  ]

-- ---- what the functions answer for each

-- a whole tree, or a whole planning tree: the tree's length and the root's end are tested at node 0, as in `read_tree`
unfoldable pub whole_in : Bool → List ℕ → PlanOne
whole_in planning s =
    pick (ltb 32768 (length s)) (PlanOne.refused 2)
    (pick (eqb (3 + length_at s) (length s)) (element_in planning (length s + 1) 1 0 s)
    (PlanOne.refused 2))

abbrev pub read_plan : List ℕ → PlanOne
read_plan s = whole_in true s

-- ---- the form of accepted bytes
