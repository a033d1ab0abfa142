-- The plans without ranges are the trees: the two descriptions of accepted bytes say the same of them.
use mathlib.Core.Path.{◌≡◌, refl, sym, ap, ◌∙◌}
use Prim.Native.Nat.{ℕ, suc, ◌+◌}
use native.Mathlib.Omega.{arith}
use mathlib.Core.List.{List}
use mathlib.Core.Bool.{true, false}
use lib.ListN.{drop}
use Rattle.tree.specs.Tree as tree
use Rattle.tree.specs.Tree.{Tree, Trees, nodes, nodes*}
use Rattle.tree.specs.Bytes.{length_at}
use Rattle.tree.specs.Promises.{Texts, Texts*, GotTree, Encodes, EncodesAll, contents, PlanEncodes, PlanEncodesAll, plan_nodes, plan_nodes*, plan_depth}
use Rattle.tree.specs.Promises.{plan_depth*, Allowed, Allowed*, GotPlan, depth, depth*, tree_of, trees_of}
use Rattle.tree.specs.Planning.{Plan, Plans}

pub no_range : {A : Type 0} → false ≡ true → A
no_range e = let z : ◌≡◌ {A = ℕ} 0 1 = cc in absurd (omega arith)

-- ---- a plan without ranges as a tree

mutual
  unfolding tree_of PlanEncodes Encodes Allowed

  tree_is : (p : Plan) (s : List ℕ) → PlanEncodes p s → Allowed false p → Encodes (tree_of p) s
  tree_is (Plan.cell text) s k l = k
  tree_is (Plan.range a b c d) s k l = no_range l.0
  tree_is (Plan.group x ps) s k l = (k.0, k.1, trees_are ps (contents s) k.2 l)

  trees_are : (ps : Plans) (s : List ℕ) → PlanEncodesAll ps s → Allowed* false ps → EncodesAll (trees_of ps) s
  trees_are Plans.none s k l = k
  trees_are (Plans.more p ps) s k l = (tree_is p s k.0 l.0, trees_are ps (drop (3 + length_at s) s) k.1 l.1)

mutual
  unfolding tree_of Texts Allowed

  tree_texts : (p : Plan) → Allowed false p → Texts (tree_of p)
  tree_texts (Plan.cell text) l = l
  tree_texts (Plan.range a b c d) l = no_range l.0
  tree_texts (Plan.group x ps) l = trees_texts ps l

  trees_texts : (ps : Plans) → Allowed* false ps → Texts* (trees_of ps)
  trees_texts Plans.none l = tt
  trees_texts (Plans.more p ps) l = (tree_texts p l.0, trees_texts ps l.1)

mutual
  unfolding tree_of nodes plan_nodes

  tree_nodes : (p : Plan) → nodes (tree_of p) ≡ plan_nodes p
  tree_nodes (Plan.cell text) = refl
  tree_nodes (Plan.range a b c d) = refl
  tree_nodes (Plan.group x ps) = ap suc (trees_nodes ps)

  trees_nodes : (ps : Plans) → nodes* (trees_of ps) ≡ plan_nodes* ps
  trees_nodes Plans.none = refl
  trees_nodes (Plans.more p ps) = omega (arith, tree_nodes p, trees_nodes ps)

mutual
  unfolding tree_of depth plan_depth

  tree_depth : (p : Plan) → depth (tree_of p) ≡ plan_depth p
  tree_depth (Plan.cell text) = refl
  tree_depth (Plan.range a b c d) = refl
  tree_depth (Plan.group x ps) = ap suc (trees_depth ps)

  trees_depth : (ps : Plans) → depth* (trees_of ps) ≡ plan_depth* ps
  trees_depth Plans.none = refl
  trees_depth (Plans.more p ps) = omega (arith, tree_depth p, trees_depth ps)

pub tree_got : (s : List ℕ) (p : Plan) (size n : ℕ) → GotPlan false s p size n → GotTree s (tree_of p) size n
tree_got s p size n g = record {
  is = tree_is p s g.is g.leaves;
  ends = g.ends;
  short = g.short;
  few = omega (arith, g.few, tree_nodes p);
  shallow = omega (arith, g.shallow, tree_depth p);
  texts = tree_texts p g.leaves;
  size_is = g.size_is;
  count_is = g.count_is ∙ sym (tree_nodes p);
}

-- ---- a tree as a plan

unfoldable mutual
  pub plan_of : Tree → Plan
  plan_of (tree.cell t) = Plan.cell t
  plan_of (tree.group a ts) = Plan.group a (plans_of ts)

  pub plans_of : Trees → Plans
  plans_of tree.none = Plans.none
  plans_of (tree.more t ts) = Plans.more (plan_of t) (plans_of ts)

mutual
  unfolding tree_of plan_of

  pub tree_again : (t : Tree) → tree_of (plan_of t) ≡ t
  tree_again (tree.cell t) = refl
  tree_again (tree.group a ts) = ap (λ (us : Trees). tree.group a us) (trees_again ts)

  trees_again : (ts : Trees) → trees_of (plans_of ts) ≡ ts
  trees_again tree.none = refl
  trees_again (tree.more t ts) = rw (tree_again t, trees_again ts)

mutual
  unfolding plan_of PlanEncodes Encodes

  pub plan_is : (t : Tree) (s : List ℕ) → Encodes t s → PlanEncodes (plan_of t) s
  plan_is (tree.cell text) s k = k
  plan_is (tree.group a ts) s k = (k.0, k.1, plans_are ts (contents s) k.2)

  plans_are : (ts : Trees) (s : List ℕ) → EncodesAll ts s → PlanEncodesAll (plans_of ts) s
  plans_are tree.none s k = k
  plans_are (tree.more t ts) s k = (plan_is t s k.0, plans_are ts (drop (3 + length_at s) s) k.1)

mutual
  unfolding plan_of Texts Allowed

  plan_leaves : (t : Tree) → Texts t → Allowed false (plan_of t)
  plan_leaves (tree.cell text) k = k
  plan_leaves (tree.group a ts) k = plans_leaves ts k

  plans_leaves : (ts : Trees) → Texts* ts → Allowed* false (plans_of ts)
  plans_leaves tree.none k = tt
  plans_leaves (tree.more t ts) k = (plan_leaves t k.0, plans_leaves ts k.1)

pub plan_got : (s : List ℕ) (t : Tree) (size n : ℕ) → GotTree s t size n → GotPlan false s (plan_of t) size n
plan_got s t size n g =
    let e = ap nodes (tree_again t) in
    let k = ap depth (tree_again t) in
    record {
      is = plan_is t s g.is;
      ends = g.ends;
      short = g.short;
      few = omega (arith, g.few, tree_nodes (plan_of t));
      shallow = omega (arith, g.shallow, tree_depth (plan_of t));
      leaves = plan_leaves t g.texts;
      size_is = g.size_is;
      count_is = omega (arith, g.count_is, tree_nodes (plan_of t));
    }
