-- What the front of an accepted planning tree's bytes shows of it.
use mathlib.Core.Path.{◌≡◌, refl, sym, ap, ◌∙◌}
use mathlib.Core.List.{List, []}
use Prim.Native.Nat.{ℕ, ◌+◌, ◌-◌, ◌≤◌, ◌<◌}
use native.Mathlib.Omega.{arith}
use native.Mathlib.Nat.{add-sub_cancel_left}
use mathlib.Core.Bool.{Bool, true, false}
use mathlib.Core.Logic.{◌⊎◌, inl, inr}
use lib.ListN.{length, get_or, take, drop}
use lib.Dec.{eqb}
use borrow.Author.Tests.{eqb-true, eqb-false}
use Rattle.settings.specs.declared.Settings.{Settings}
use Rattle.tree.specs.declared.front.Front.{Front}
use Rattle.tree.specs.Tree.{Axis}
use Rattle.tree.specs.Bytes.{length_at, axis_of}
use Rattle.tree.specs.Promises.{contents, PlanEncodes, PlanEncodesAll}
use Rattle.tree.specs.Clauses.{front_of}
use Rattle.tree.specs.Planning.{Plan, Plans}
use Rattle.tree.proofs.Fronts.{contents_length, no_contents, tag_low, tag_high, axis_of_lem, front_leaf, front_group, front_end}
use Rattle.tree.proofs.PlanSound.{plan_whole}
use Rattle.sizes.specs.Sizes.{leaf_size}
use Rattle.plan.specs.Ends.{no_plans?, end_size}
use Rattle.plan.specs.Clauses.{end_of}

-- ---- a range

pub record RangeIs (S : Settings) (most : Bool) (p : Plan) (r : List ℕ) : Type 0 where
  pub four : length r ≡ 4
  pub size : end_size S most p ≡ end_of S most r

range_is : (S : Settings) (most : Bool) (p : Plan) (s : List ℕ) → PlanEncodes p s → get_or s 0 0 ≡ 4 → RangeIs S most p (contents s)
unfolding PlanEncodes end_size
range_is S most (Plan.cell text) s k h = absurd (omega (arith, k.1))
range_is S most (Plan.range a b c d) s k h = rw k.2 (record { four = refl; size = refl })
range_is S most (Plan.group x ps) s k h = absurd (omega (arith, k.1, tag_high x))

-- ---- a leaf: a Cell, or a Row or Column without children, whose text is empty

empty_group : (S : Settings) (most : Bool) (x : Axis) (ps : Plans) (s : List ℕ) → PlanEncodesAll ps s → s ≡ []
    → end_size S most (Plan.group x ps) ≡ leaf_size S s
unfolding PlanEncodes end_size no_plans?
empty_group S most x Plans.none s k e = rw e
empty_group S most x (Plans.more p ps) s k e = absurd (omega (arith, plan_whole p s k.0, ap length e))

plan_leaf_is : (S : Settings) (most : Bool) (p : Plan) (s : List ℕ) → PlanEncodes p s → (get_or s 0 0 ≡ 4 → ⊥)
    → (eqb (get_or s 0 0) 1 ≡ true) ⊎ (eqb (length_at s) 0 ≡ true) → end_size S most p ≡ leaf_size S (contents s)
unfolding PlanEncodes end_size
plan_leaf_is S most (Plan.cell text) s k n h = rw k.2
plan_leaf_is S most (Plan.range a b c d) s k n h = absurd (n k.1)
plan_leaf_is S most (Plan.group x ps) s k n (inl h) = absurd (omega (arith, k.1, tag_low x, eqb-true (get_or s 0 0) 1 h))
plan_leaf_is S most (Plan.group x ps) s k n (inr h) = empty_group S most x ps (contents s) k.2 (no_contents s (eqb-true (length_at s) 0 h))

-- ---- a group

some_plans : (ps : Plans) (s : List ℕ) → PlanEncodesAll ps s → (length s ≡ 0 → ⊥) → no_plans? ps ≡ false
unfolding PlanEncodes no_plans?
some_plans Plans.none s k h = absurd (h k)
some_plans (Plans.more p ps) s k h = refl

pub record PlanGroupIs (p : Plan) (a : Bool) (r : List ℕ) : Type 0 where
  pub plans : Plans
  pub is : p ≡ Plan.group (axis_of a) plans
  pub are : PlanEncodesAll plans r
  pub some : no_plans? plans ≡ false

plan_group_is : (p : Plan) (s : List ℕ) → PlanEncodes p s → (get_or s 0 0 ≡ 4 → ⊥) → eqb (get_or s 0 0) 1 ≡ false → eqb (length_at s) 0 ≡ false
    → PlanGroupIs p (eqb (get_or s 0 0) 2) (contents s)
unfolding PlanEncodes
plan_group_is (Plan.cell text) s k n h z = absurd (eqb-false (get_or s 0 0) 1 h k.1)
plan_group_is (Plan.range a b c d) s k n h z = absurd (n k.1)
plan_group_is (Plan.group x ps) s k n h z = record {
  plans = ps;
  is = ap (λ (b : Axis). Plan.group b ps) (axis_of_lem x (get_or s 0 0) k.1);
  are = k.2;
  some = some_plans ps (contents s) k.2 (λ e. eqb-false (length_at s) 0 z (sym (contents_length s k.0) ∙ e));
}

-- ---- in the code's terms: the front, and the part with the contents

module _ (p : Plan) (s : List ℕ) (k : PlanEncodes p s) where
  pub front_asks : 2 < length s
  front_asks = omega (arith, plan_whole p s k)

  module _ (v : Front) (ve : v ≡ front_of s) where
    abbrev inside : List ℕ
    inside = take (v.end - 3) (drop 3 s)

    end_is : v.end ≡ 3 + length_at s
    end_is = rw ve (front_end (eqb (get_or s 0 0) 1) (eqb (length_at s) 0) (eqb (get_or s 0 0) 2) (3 + length_at s))

    pub end_in : (3 ≤ v.end) × (v.end ≤ length s)
    end_in = (omega (arith, end_is), omega (arith, end_is, plan_whole p s k))

    inside_is : inside ≡ contents s
    inside_is = rw (end_is, add-sub_cancel_left 3 (length_at s))

    pub inside_shorter : length inside + 1 < length s
    inside_shorter = rw (inside_is, contents_length s (plan_whole p s k)) (omega (arith, plan_whole p s k))

    pub range_at : (S : Settings) (most : Bool) → get_or s 0 0 ≡ 4 → RangeIs S most p inside
    range_at S most h = rw inside_is (range_is S most p s k h)

    module _ (n : get_or s 0 0 ≡ 4 → ⊥) where
      pub leaf_at : (S : Settings) (most : Bool) → v.leaf ≡ true → end_size S most p ≡ leaf_size S inside
      leaf_at S most h = rw inside_is (plan_leaf_is S most p s k n
          (front_leaf (eqb (get_or s 0 0) 1) (eqb (length_at s) 0) (eqb (get_or s 0 0) 2) (3 + length_at s) (rw ve at h)))

      pub group_at : v.leaf ≡ false → PlanGroupIs p v.across inside
      group_at h =
          let cases = front_group (eqb (get_or s 0 0) 1) (eqb (length_at s) 0) (eqb (get_or s 0 0) 2) (3 + length_at s) (rw ve at h) in
          let g = plan_group_is p s k n cases.0 cases.1 in
          let e : p ≡ Plan.group (axis_of v.across) g.plans = g.is
          ∙ ap (λ (y : Bool). Plan.group (axis_of y) g.plans) (sym (ap (λ (y : Front). y.across) (ve ∙ cases.2))) in
          record { plans = g.plans; is = e; are = rw inside_is g.are; some = g.some }
