-- Going through the plans of a group, one after the other.
use mathlib.Core.Path.{◌≡◌}
use Prim.Native.Nat.{ℕ, ◌+◌, ◌-◌, ◌≤◌, ◌<◌}
use native.Mathlib.Omega.{arith}
use mathlib.Core.List.{List}
use lib.ListN.{length, drop, length-drop}
use lib.Seq.{drop-drop}
use Rattle.tree.specs.Bytes.{length_at}
use Rattle.tree.specs.Planning.{Plan, Plans}
use Rattle.tree.specs.Promises.{PlanEncodes, PlanEncodesAll}
use Rattle.tree.proofs.PlanSound.{plan_whole}

-- at byte `at` of s, where the plans `rest` are still to come
pub record PassingPlans (s : List ℕ) (at : ℕ) (rest : Plans) : Type 0 where
  pub within : at ≤ length s
  pub are : PlanEncodesAll rest (drop at s)

-- what holds of the plans still to come, whichever they are; and where there is one more, or none
pub record SomePlans (P : Plans → Type 0) : Type 0 where
  pub rest : Plans
  pub holds : P rest

pub record MorePlans (P : Plans → Type 0) : Type 0 where
  pub plan : Plan
  pub plans : Plans
  pub holds : P (Plans.more plan plans)

module _ (s : List ℕ) (at : ℕ) where
  no_more : at < length s → PassingPlans s at Plans.none → ⊥
  unfolding PlanEncodes
  no_more h p = let z : length s - at ≡ 0 = rw length-drop at p.are in omega arith

  one_more : {t : Plan} {ts : Plans} → PassingPlans s at (Plans.more t ts) → at + (3 + length_at (drop at s)) ≤ length s
  unfolding PlanEncodes
  one_more {t} p =
      let z : length (drop at s) ≡ length s - at = length-drop at s in
      omega (arith, plan_whole t (drop at s) p.are.0, p.within)

  module _ (P : Plans → Type 0) (passing : (rest : Plans) → P rest → PassingPlans s at rest) where
    more_in : (rest : Plans) → P rest → at < length s → MorePlans P
    more_in Plans.none p h = absurd (no_more h (passing Plans.none p))
    more_in (Plans.more t ts) p h = record { plan = t; plans = ts; holds = p }

    pub turn : SomePlans P → at < length s → MorePlans P
    turn k h = more_in k.rest k.holds h

    over_in : (rest : Plans) → P rest → length s ≤ at → P Plans.none
    over_in Plans.none p h = p
    over_in (Plans.more t ts) p h = absurd (omega (arith, one_more (passing (Plans.more t ts) p)))

    pub over : SomePlans P → length s ≤ at → P Plans.none
    over k h = over_in k.rest k.holds h

  -- the next plan, in the part p that starts there
  module _ {t : Plan} {ts : Plans} (k : PassingPlans s at (Plans.more t ts)) (p : List ℕ) (e : p ≡ drop at s) where
    pub next_is : PlanEncodes t p
    unfolding PlanEncodes
    next_is = rw e k.are.0

    pub next_whole : (3 + length_at p ≤ length p) × (at + (3 + length_at p) ≤ length s)
    next_whole = (plan_whole t p next_is, rw e (one_more k))

    pub passed : PassingPlans s (at + (3 + length_at p)) ts
    unfolding PlanEncodes
    passed = record { within = next_whole.1; are = rw (e, ← drop-drop (3 + length_at (drop at s)) at s) k.are.1 }

pub begin : (s : List ℕ) (ps : Plans) → PlanEncodesAll ps s → PassingPlans s 0 ps
begin s ps k = record { within = omega arith; are = k }
