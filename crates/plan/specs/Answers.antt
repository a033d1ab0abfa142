-- What the planning call answers (document 02, request 10).
use Rattle.std.specs.Prelude.{ℕ, true, false, List}
use Rattle.settings.specs.declared.Settings.{Settings}
use Rattle.settings.specs.Reading.{Parsed, read_settings}
use Rattle.tree.specs.Planning.{Plan, PlanOne, read_plan}
use Rattle.sizes.specs.declared.Size.{Size}
use Rattle.plan.specs.declared.Planned.{Planned}
use Rattle.plan.specs.Ends.{end_size, outer}

pub data PlanInput : Type 0 where
  refused : ℕ → PlanInput
  given : Settings → Plan → PlanInput

abbrev pub plan_tree_input : Settings → PlanOne → PlanInput
plan_tree_input s (PlanOne.refused k) = PlanInput.refused k
plan_tree_input s (PlanOne.one p size n) = PlanInput.given s p

abbrev pub plan_settings_input : Parsed → PlanOne → PlanInput
plan_settings_input Parsed.refused x = PlanInput.refused 1
plan_settings_input (Parsed.read s) x = plan_tree_input s x

-- the settings and the planning tree, or the refusal: 1 first, then 2 to 5 and 17
unfoldable pub plan_input : List ℕ → List ℕ → PlanInput
plan_input settings tree = plan_settings_input (read_settings settings) (read_plan tree)

abbrev pub no_planned : ℕ → Planned
no_planned k = record { number = k; least_width = 0; greatest_width = 0; least_height = 0; greatest_height = 0 }

-- the two ends as numbers
abbrev pub ends_answered : Size → Size → Planned
ends_answered least most =
    record { number = 0; least_width = least.width; greatest_width = most.width; least_height = least.height; greatest_height = most.height }

-- the answer for each input: no limit on W and H
abbrev pub planned_of : PlanInput → Planned
planned_of (PlanInput.refused k) = no_planned k
planned_of (PlanInput.given s p) = ends_answered (outer s (end_size s false p)) (outer s (end_size s true p))
