-- What the readers' answers say of the planning input.
use mathlib.Core.Path.{◌≡◌, refl, ap}
use Prim.Native.Nat.{ℕ}
use native.Mathlib.Omega.{arith}
use mathlib.Core.Bool.{Bool, true, false}
use mathlib.Core.List.{List}
use Rattle.settings.specs.declared.Settings.{Settings}
use Rattle.settings.specs.declared.ReadSettings.{ReadSettings}
use Rattle.settings.specs.Reading as settings
use Rattle.settings.specs.Reading.{Parsed, read_settings}
use Rattle.settings.proofs.Ranges.{settings_small}
use Rattle.tree.specs.declared.ReadTree.{ReadTree}
use Rattle.tree.specs.Planning.{Plan, PlanOne, read_plan}
use Rattle.tree.specs.Promises.{GotPlan}
use Rattle.tree.specs.Clauses.{plan_answer}
use Rattle.tree.proofs.PlanSound.{refusal_low, plan_sound, plan_refusal}
use Rattle.sizes.specs.declared.Size.{Size}
use Rattle.sizes.proofs.Inputs.{settings_yes}
use Rattle.plan.specs.Ends.{end_size, outer}
use Rattle.plan.specs.Clauses.{ReadyPlan}
use Rattle.plan.specs.Answers.{PlanInput, plan_tree_input, plan_settings_input, plan_input, no_planned, ends_answered, planned_of}
use Rattle.plan.proofs.Large.{LowBytes, end_short}

-- ---- the settings

settings_no : (x : Parsed) (r : ReadSettings) → r ≡ settings.parsed_answer x → (r.number ≡ 0 → ⊥) → (y : PlanOne)
    → plan_settings_input x y ≡ PlanInput.refused r.number
settings_no Parsed.refused r e h y = rw (ap (λ (u : ReadSettings). u.number) e)
settings_no (Parsed.read s) r e h y = absurd (h (ap (λ (u : ReadSettings). u.number) e))

-- ---- the planning tree

plan_no : (y : PlanOne) (t : ReadTree) → t ≡ plan_answer y → (t.number ≡ 0 → ⊥) → (s : Settings) → plan_tree_input s y ≡ PlanInput.refused t.number
plan_no (PlanOne.refused k) t e h s = rw (ap (λ (u : ReadTree). u.number) e)
plan_no (PlanOne.one p size n) t e h s = absurd (h (ap (λ (u : ReadTree). u.number) e))

record Accepted (b : List ℕ) : Type 0 where
  plan : Plan
  size : ℕ
  count : ℕ
  is : read_plan b ≡ PlanOne.one plan size count

plan_yes : (b : List ℕ) (y : PlanOne) (t : ReadTree) → read_plan b ≡ y → t ≡ plan_answer y → t.number ≡ 0 → Accepted b
plan_yes b (PlanOne.refused k) t f e h = let z : t.number ≡ k = ap (λ (u : ReadTree). u.number) e in
    absurd (omega (arith, refusal_low true k (plan_refusal true b k f)))
plan_yes b (PlanOne.one p size n) t f e h = record { plan = p; size = size; count = n; is = f }

-- ---- both

module _ (l b : List ℕ) (r : ReadSettings) (e : r ≡ settings.settings_answer l) where
  pub refused_settings : (r.number ≡ 0 → ⊥) → no_planned r.number ≡ planned_of (plan_input l b)
  unfolding plan_input
  refused_settings h = rw (settings_no (read_settings l) r e h (read_plan b))

  module _ (h : r.number ≡ 0) (t : ReadTree) (f : t ≡ plan_answer (read_plan b)) where
    settings_are : read_settings l ≡ Parsed.read r.settings
    settings_are = settings_yes (read_settings l) r e h

    pub refused_plan : (t.number ≡ 0 → ⊥) → no_planned t.number ≡ planned_of (plan_input l b)
    unfolding plan_input
    refused_plan k = rw (settings_are, plan_no (read_plan b) t f k r.settings)

    module _ (k : t.number ≡ 0) (low : LowBytes b) where
      accepted : Accepted b
      accepted = plan_yes b (read_plan b) t refl f k

      got : GotPlan true b accepted.plan accepted.size accepted.count
      got = plan_sound true b _ _ _ accepted.is

      pub root_ready : (m : Bool) → ReadyPlan r.settings m b
      root_ready m = record {
        plan = accepted.plan;
        is = got.is;
        short = end_short r.settings m accepted.plan b _ _ (settings_small l r.settings settings_are) low got;
      }

      pub planned_is : (x y : Size) → x ≡ outer r.settings (end_size r.settings false (root_ready false).plan)
          → y ≡ outer r.settings (end_size r.settings true (root_ready true).plan) → ends_answered x y ≡ planned_of (plan_input l b)
      unfolding root_ready plan_input
      planned_is x y p q = rw (settings_are, accepted.is, p, q)
