-- Definitions used in the statements of the theorems about a plan (document 02, 10).
use Rattle.std.specs.Prelude.{◌≡◌, ℕ, ◌≤◌, true, List}
use Rattle.settings.specs.declared.Settings.{Settings}
use Rattle.settings.specs.Reading.{Parsed, read_settings}
use Rattle.tree.specs.Tree.{Tree, Trees}
use Rattle.tree.specs.Promises.{Texts, GotPlan}
use Rattle.tree.specs.Planning.{Plan, Plans}
use Rattle.text.specs.Text.{text_width, text_height}
use Rattle.frame.specs.Frame.{W, H}
use Rattle.plan.specs.declared.Planned.{Planned}
use Rattle.plan.specs.Answers.{PlanInput, plan_input}

-- W and H of a choice are between the answers
pub record Between (s : Settings) (o : Planned) (t : Tree) : Type 0 where
  pub least_width_lem : o.least_width ≤ W s t
  pub greatest_width_lem : W s t ≤ o.greatest_width
  pub least_height_lem : o.least_height ≤ H s t
  pub greatest_height_lem : H s t ≤ o.greatest_height

-- a text within the ranges
pub record WithinRange (a b c d : ℕ) (t : List ℕ) : Type 0 where
  pub least_width_lem : a ≤ text_width t
  pub greatest_width_lem : text_width t ≤ b
  pub least_lines : c ≤ text_height t
  pub greatest_lines : text_height t ≤ d

-- the tree has the plan's Cells, and instead of each range a Cell of some text within it
unfoldable mutual
  pub Chooses : Plan → Tree → Type 0
  Chooses (Plan.cell t) (Tree.cell u) = t ≡ u
  Chooses (Plan.cell t) (Tree.group y us) = ⊥
  Chooses (Plan.range a b c d) (Tree.cell u) = WithinRange a b c d u
  Chooses (Plan.range a b c d) (Tree.group y us) = ⊥
  Chooses (Plan.group x ps) (Tree.cell u) = ⊥
  Chooses (Plan.group x ps) (Tree.group y us) = (x ≡ y) × Chooses* ps us

  pub Chooses* : Plans → Trees → Type 0
  Chooses* Plans.none Trees.none = Unit {0}
  Chooses* Plans.none (Trees.more u us) = ⊥
  Chooses* (Plans.more p ps) Trees.none = ⊥
  Chooses* (Plans.more p ps) (Trees.more u us) = Chooses p u × Chooses* ps us

-- some choice, of allowed texts, has that number
pub record Reaches (p : Plan) (f : Tree → ℕ) (n : ℕ) : Type 0 where
  pub tree : Tree
  pub chooses : Chooses p tree
  pub texts : Texts tree
  pub is : f tree ≡ n

-- where the call answers 0
pub record PlanHolds (bs ts : List ℕ) (o : Planned) : Type 0 where
  pub settings : Settings
  pub plan : Plan
  pub size : ℕ
  pub count : ℕ
  pub input : plan_input bs ts ≡ PlanInput.given settings plan
  pub read : read_settings bs ≡ Parsed.read settings
  pub got : GotPlan true ts plan size count
  pub between : (t : Tree) → Chooses plan t → Between settings o t
  pub least_width_lem : Reaches plan (W settings) o.least_width
  pub greatest_width_lem : Reaches plan (W settings) o.greatest_width
  pub least_height_lem : Reaches plan (H settings) o.least_height
  pub greatest_height_lem : Reaches plan (H settings) o.greatest_height

-- what the planning call answers for a tree: W, W, H and H of its sheet
abbrev pub tree_planned : Settings → Tree → Planned
tree_planned s t = record { number = 0; least_width = W s t; greatest_width = W s t; least_height = H s t; greatest_height = H s t }
