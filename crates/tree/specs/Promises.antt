-- Definitions used in the statements of the theorems about this crate's functions.
use Rattle.std.specs.Prelude.{◌≡◌, ℕ, ◌+◌, ◌≤◌, suc, max, true, Bool, List, [], ◌∷◌, ◌++◌, length, get_or, take, drop, ◌⊎◌}
use Rattle.tree.specs.Tree.{Tree, Trees, cell, group, none, more, nodes}
use Rattle.tree.specs.Bytes.{length_at, tag_of}
use Rattle.tree.specs.Reading.{is_text, ReadOne}
use Rattle.tree.specs.Planning.{Plan, Plans, PlanOne}
use Rattle.tree.specs.Tree as tree

-- every text has allowed bytes only
unfoldable mutual
  pub Texts : Tree → Type 0
  Texts (cell text) = is_text text ≡ true
  Texts (group a ts) = Texts* ts

  pub Texts* : Trees → Type 0
  Texts* none = Unit
  Texts* (more t ts) = Texts t × Texts* ts

abbrev pub contents : List ℕ → List ℕ
contents s = take (length_at s) (drop 3 s)

-- s begins with the bytes of the tree; s is the bytes of the trees, one after the other
unfoldable mutual
  pub Encodes : Tree → List ℕ → Type 0
  Encodes (cell text) s = (3 + length_at s ≤ length s) × (get_or s 0 0 ≡ 1) × (contents s ≡ text)
  Encodes (group a ts) s = (3 + length_at s ≤ length s) × (get_or s 0 0 ≡ tag_of a) × EncodesAll ts (contents s)

  pub EncodesAll : Trees → List ℕ → Type 0
  EncodesAll none s = length s ≡ 0
  EncodesAll (more t ts) s = Encodes t s × EncodesAll ts (drop (3 + length_at s) s)

-- the depth: the root has 1
unfoldable mutual
  pub depth : Tree → ℕ
  depth (cell t) = 1
  depth (group a ts) = suc (depth* ts)

  pub depth* : Trees → ℕ
  depth* none = 0
  depth* (more t ts) = max (depth t) (depth* ts)

-- s is the bytes of the tree t, which is within the limits of 01; its size in bytes and its number of nodes. `tree_sound` and `tree_complete` say that these
-- are the trees that are read; `tree_bytes`, that there are such bytes for every tree within the limits.
pub record GotTree (s : List ℕ) (t : Tree) (size n : ℕ) : Type 0 where
  pub is : Encodes t s
  pub ends : 3 + length_at s ≡ length s
  pub short : length s ≤ 32768
  pub few : nodes t ≤ 512
  pub shallow : depth t ≤ 16
  pub texts : Texts t
  pub size_is : size ≡ length s
  pub count_is : n ≡ nodes t

-- the nodes, numbered from 0, parent before children, left to right
unfoldable mutual
  pub subtrees : Tree → List Tree
  subtrees (cell t) = cell t ∷ []
  subtrees (group a ts) = group a ts ∷ subtrees* ts

  pub subtrees* : Trees → List Tree
  subtrees* none = []
  subtrees* (more t ts) = subtrees t ++ subtrees* ts

-- the numbers of a group's children, the first of which is n
unfoldable pub child_nodes : ℕ → Trees → List ℕ
child_nodes n none = []
child_nodes n (more t ts) = n ∷ child_nodes (n + nodes t) ts

unfoldable mutual
  pub plan_nodes : Plan → ℕ
  plan_nodes (Plan.cell t) = 1
  plan_nodes (Plan.range a b c d) = 1
  plan_nodes (Plan.group x ps) = suc (plan_nodes* ps)

  pub plan_nodes* : Plans → ℕ
  plan_nodes* Plans.none = 0
  plan_nodes* (Plans.more p ps) = plan_nodes p + plan_nodes* ps

unfoldable mutual
  pub plan_depth : Plan → ℕ
  plan_depth (Plan.cell t) = 1
  plan_depth (Plan.range a b c d) = 1
  plan_depth (Plan.group x ps) = suc (plan_depth* ps)

  pub plan_depth* : Plans → ℕ
  plan_depth* Plans.none = 0
  plan_depth* (Plans.more p ps) = max (plan_depth p) (plan_depth* ps)

-- s begins with the bytes of the plan; s is the bytes of the plans, one after the other
unfoldable mutual
  pub PlanEncodes : Plan → List ℕ → Type 0
  PlanEncodes (Plan.cell text) s = (3 + length_at s ≤ length s) × (get_or s 0 0 ≡ 1) × (contents s ≡ text)
  PlanEncodes (Plan.range a b c d) s = (3 + length_at s ≤ length s) × (get_or s 0 0 ≡ 4) × (contents s ≡ a ∷ b ∷ c ∷ d ∷ [])
  PlanEncodes (Plan.group x ps) s = (3 + length_at s ≤ length s) × (get_or s 0 0 ≡ tag_of x) × PlanEncodesAll ps (contents s)

  pub PlanEncodesAll : Plans → List ℕ → Type 0
  PlanEncodesAll Plans.none s = length s ≡ 0
  PlanEncodesAll (Plans.more p ps) s = PlanEncodes p s × PlanEncodesAll ps (drop (3 + length_at s) s)

-- a range that is not refused with 17
pub record GoodRange (a b c d : ℕ) : Type 0 where
  pub widths : a ≤ b
  pub lines : c ≤ d
  pub some : 1 ≤ c

-- every text has allowed bytes only; there are ranges only with planning, and every one is good
unfoldable mutual
  pub Allowed : Bool → Plan → Type 0
  Allowed planning (Plan.cell text) = is_text text ≡ true
  Allowed planning (Plan.range a b c d) = (planning ≡ true) × GoodRange a b c d
  Allowed planning (Plan.group x ps) = Allowed* planning ps

  pub Allowed* : Bool → Plans → Type 0
  Allowed* planning Plans.none = Unit
  Allowed* planning (Plans.more p ps) = Allowed planning p × Allowed* planning ps

-- s is the bytes of the plan p, which is within the limits of 01; its size in bytes and its number of nodes
pub record GotPlan (planning : Bool) (s : List ℕ) (p : Plan) (size n : ℕ) : Type 0 where
  pub is : PlanEncodes p s
  pub ends : 3 + length_at s ≡ length s
  pub short : length s ≤ 32768
  pub few : plan_nodes p ≤ 512
  pub shallow : plan_depth p ≤ 16
  pub leaves : Allowed planning p
  pub size_is : size ≡ length s
  pub count_is : n ≡ plan_nodes p

-- 2 to 5, or 17 with planning
abbrev pub PlanRefusal : Bool → ℕ → Type 0
PlanRefusal planning k = ((2 ≤ k) × (k ≤ 5)) ⊎ ((planning ≡ true) × (k ≡ 17))

-- a plan without ranges as a tree; a range, of which there is none, as an empty Cell
unfoldable mutual
  pub tree_of : Plan → Tree
  tree_of (Plan.cell t) = tree.cell t
  tree_of (Plan.range a b c d) = tree.cell []
  tree_of (Plan.group x ps) = tree.group x (trees_of ps)

  pub trees_of : Plans → Trees
  trees_of Plans.none = tree.none
  trees_of (Plans.more p ps) = tree.more (tree_of p) (trees_of ps)

abbrev pub tree_read : PlanOne → ReadOne
tree_read (PlanOne.refused k) = ReadOne.refused k
tree_read (PlanOne.one p size n) = ReadOne.one (tree_of p) size n

abbrev pub TreeRefusal : ℕ → Type 0
TreeRefusal k = (2 ≤ k) × (k ≤ 5)
