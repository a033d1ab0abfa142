-- The turns of the loop over a group's plans, and a plan by its front.
use mathlib.Core.Path.{◌≡◌, sym, ◌∙◌}
use Prim.Native.Nat.{ℕ, ◌+◌, ◌-◌, ◌≤◌, ◌<◌}
use native.Mathlib.Omega.{arith}
use mathlib.Core.Bool.{Bool, true, false}
use mathlib.Core.List.{List}
use lib.ListN.{length, take, drop, get_or, length-drop}
use Rattle.settings.specs.declared.Settings.{Settings}
use Rattle.tree.specs.declared.front.Front.{Front}
use Rattle.tree.specs.Tree.{Axis}
use Rattle.tree.specs.Bytes.{length_at, axis_of}
use Rattle.tree.specs.Clauses.{front_of}
use Rattle.tree.specs.Planning.{Plan, Plans}
use Rattle.tree.specs.Promises.{PlanEncodes, PlanEncodesAll}
use Rattle.tree.proofs.PlanSound.{plan_whole}
use Rattle.sizes.specs.declared.Size.{Size}
use Rattle.sizes.specs.declared.natural.Span.{Span}
use Rattle.sizes.specs.Sizes.{along, sep, spanned, leaf_size}
use Rattle.sizes.specs.Clauses.{with_child, span_of, WideChild, WideSpan}
use Rattle.sizes.proofs.Spans.{Spans, spans_none, spans_more, child_under, span_is, span_under}
use Rattle.plan.specs.Ends.{no_plans?, end_size, end_sizes}
use Rattle.plan.specs.Clauses.{ShortSize, end_of, ReadyPlan, ReadyPlans}
use Rattle.plan.proofs.Fronts.{RangeIs, PlanGroupIs, inside_shorter, range_at, leaf_at, group_at}
use Rattle.plan.proofs.Passing.{PassingPlans, begin, SomePlans, next_is, passed}

-- ---- a group of at least one plan

some_sizes : (S : Settings) (m : Bool) (ps : Plans) → no_plans? ps ≡ false → 1 ≤ length (end_sizes S m ps)
unfolding no_plans? end_sizes
some_sizes S m Plans.none e = let z : ◌≡◌ {A = ℕ} 0 1 = cc in absurd (omega arith)
some_sizes S m (Plans.more p ps) e = omega arith

-- no more plans than bytes
sizes_few : (S : Settings) (m : Bool) (ps : Plans) (s : List ℕ) → PlanEncodesAll ps s → length (end_sizes S m ps) ≤ length s
unfolding PlanEncodes end_sizes
sizes_few S m Plans.none s k = omega arith
sizes_few S m (Plans.more p ps) s k = omega (arith, sizes_few S m ps (drop (3 + length_at s) s) k.1, length-drop (3 + length_at s) s, plan_whole p s k.0)

group_size : (S : Settings) (m : Bool) (a : Axis) (ps : Plans) → no_plans? ps ≡ false → end_size S m (Plan.group a ps) ≡ spanned S a (end_sizes S m ps)
unfolding end_size
group_size S m a ps e = rw e

-- ---- the turns

module _ (S : Settings) (m a : Bool) (s : List ℕ) (q : ReadyPlans S m a s) where
  abbrev A : Axis
  A = axis_of a

  abbrev all : Plans
  all = q.plans

  -- at byte `at`, with the plans `rest` to come
  pub record Turn (at : ℕ) (g : Span) (rest : Plans) : Type 0 where
    pub passing : PassingPlans s at rest
    pub spans : Spans a (end_sizes S m all) g (end_sizes S m rest)

  pub begins : (g : Span) → g ≡ record { along = 0; beside = 0; children = 0 } → SomePlans (Turn 0 g)
  begins g e = record { rest = all; holds = rw e (record { passing = begin s all q.are; spans = spans_none a (end_sizes S m all) }) }

  short : ShortSize (spanned S A (end_sizes S m all))
  short = rw (group_size S m A all q.some) at q.short

  module _ (at : ℕ) (g : Span) (p : Plan) (ps : Plans) (l : Turn at g (Plans.more p ps)) (b : List ℕ) (be : b ≡ drop at s) where
    kid_short : (g.along + along A (end_size S m p) < 2097152) × (g.children + 1 ≤ length (end_sizes S m all)) × ShortSize (end_size S m p)
    unfolding end_sizes
    kid_short = child_under S a _ short l.spans

    pub kid_ready : ReadyPlan S m b
    kid_ready = record { plan = p; is = next_is s at l.passing b be; short = kid_short.2 }

    module _ (z : Size) (k : z ≡ end_size S m kid_ready.plan) where
      size_is : z ≡ end_size S m p
      unfolding kid_ready
      size_is = k

      pub child_asks : length s < 18446744073709551616 → WideChild g a z
      child_asks h = rw size_is (record { along = omega (arith, kid_short.0); few = omega (arith, kid_short.1, sizes_few S m all s q.are) })

      pub next : SomePlans (Turn (at + (3 + length_at b)) (with_child g a z))
      unfolding end_sizes
      next = record { rest = ps; holds = rw size_is (record { passing = passed s at l.passing b be; spans = spans_more l.spans }) }

  -- all plans are done
  module _ (at : ℕ) (g : Span) (l : Turn at g Plans.none) (gap : ℕ) (gap_is : gap ≡ sep S) where
    pub span_asks : WideSpan gap g
    unfolding end_sizes
    span_asks =
        let u = span_under S a _ short gap_is l.spans in
        record { some = omega (arith, u.0, some_sizes S m all q.some); along = omega (arith, u.1) }

    pub ends : (z : Size) → z ≡ span_of gap a g → z ≡ end_size S m (Plan.group A all)
    unfolding end_sizes
    ends z e = e ∙ span_is S a _ short gap_is l.spans ∙ sym (group_size S m A all q.some)

-- ---- a plan by its front

module _ (S : Settings) (m : Bool) (s : List ℕ) (q : ReadyPlan S m s) (v : Front) (ve : v ≡ front_of s) where
  abbrev inside : List ℕ
  inside = take (v.end - 3) (drop 3 s)

  module _ (h : get_or s 0 0 ≡ 4) where
    range : RangeIs S m q.plan inside
    range = range_at q.plan s q.is v ve S m h

    pub range_asks : (length inside ≡ 4) × ShortSize (end_of S m inside)
    range_asks = (range.four, rw range.size at q.short)

    pub range_gives : (z : Size) → z ≡ end_of S m inside → z ≡ end_size S m q.plan
    range_gives z e = e ∙ sym range.size

  module _ (n : get_or s 0 0 ≡ 4 → ⊥) where
    module _ (h : v.leaf ≡ true) where
      leaf : end_size S m q.plan ≡ leaf_size S inside
      leaf = leaf_at q.plan s q.is v ve n S m h

      pub leaf_asks : length s < 18446744073709551616 → (length inside + 1 < 18446744073709551616) × ShortSize (leaf_size S inside)
      leaf_asks b = (omega (arith, inside_shorter q.plan s q.is v ve), rw leaf at q.short)

      pub leaf_gives : (z : Size) → z ≡ leaf_size S inside → z ≡ end_size S m q.plan
      leaf_gives z e = e ∙ sym leaf

    module _ (h : v.leaf ≡ false) where
      inner : PlanGroupIs q.plan v.across inside
      inner = group_at q.plan s q.is v ve n h

      pub group_ready : ReadyPlans S m v.across inside
      group_ready = record { plans = inner.plans; are = inner.are; some = inner.some; short = rw inner.is at q.short }

      pub group_gives : (z : Size) → z ≡ end_size S m (Plan.group (axis_of v.across) group_ready.plans) → z ≡ end_size S m q.plan
      unfolding group_ready
      group_gives z e = rw inner.is e
