-- `planned`: what follows where the planning call answers 0; `planned_tree`: a tree of document 01 has both ends at its W and H. Nothing here unfolds `sep`: it
-- holds for every separator width.
use mathlib.Core.Path.{◌≡◌, refl, sym, ap, ◌∙◌}
use Prim.Native.Nat.{ℕ}
use native.Mathlib.Omega.{arith}
use mathlib.Core.Bool.{Bool, true, false}
use mathlib.Core.List.{List}
use Rattle.settings.specs.declared.Settings.{Settings}
use Rattle.settings.specs.Reading.{Parsed, read_settings}
use Rattle.tree.specs.Tree as tree
use Rattle.tree.specs.Tree.{Tree}
use Rattle.tree.specs.Reading.{ReadOne, read_tree}
use Rattle.tree.specs.Planning.{Plan, Plans, PlanOne, read_plan}
use Rattle.tree.specs.Promises.{Allowed, Allowed*, tree_of, trees_of}
use Rattle.tree.proofs.PlainPlans.{no_range}
use Rattle.tree.proofs.Sound.{read_as}
use Rattle.tree.proofs.PlanComplete.{read_wider}
use Rattle.tree.proofs.PlanSound.{refusal_low, plan_sound, plan_refusal}
use Rattle.sizes.specs.declared.Size.{Size}
use Rattle.sizes.specs.Sizes.{natural, naturals}
use Rattle.sizes.specs.Input as sizes
use Rattle.sizes.specs.Input.{input_of}
use Rattle.frame.specs.Frame.{W, H}
use Rattle.plan.specs.declared.Planned.{Planned}
use Rattle.plan.specs.Promises.{Between, Reaches, PlanHolds, tree_planned, Chooses}
use Rattle.plan.specs.Ends.{no_plans?, end_size, end_sizes, outer}
use Rattle.plan.specs.Answers.{plan_input, plan_tree_input, plan_settings_input, planned_of, ends_answered}
use Rattle.plan.proofs.Bounds.{plan_bounds}
use Rattle.plan.proofs.Reached.{plan_reached}

-- W and H are the root with what is around it
outer_width : (s : Settings) (t : Tree) → (outer s (natural s t)).width ≡ W s t
unfolding outer W
outer_width s t = refl

outer_height : (s : Settings) (t : Tree) → (outer s (natural s t)).height ≡ H s t
unfolding outer H
outer_height s t = refl

-- ---- what follows from an answer of 0

module _ (s : Settings) (p : Plan) (k : Allowed true p) where
  reached_width : (m : Bool) → Reaches p (W s) (outer s (end_size s m p)).width
  reached_width m = let r = plan_reached s m p k in
      record { tree = r.tree; chooses = r.chooses; texts = r.texts; is = sym (outer_width s r.tree) ∙ ap (λ (z : Size). (outer s z).width) r.size }

  reached_height : (m : Bool) → Reaches p (H s) (outer s (end_size s m p)).height
  reached_height m = let r = plan_reached s m p k in
      record { tree = r.tree; chooses = r.chooses; texts = r.texts; is = sym (outer_height s r.tree) ∙ ap (λ (z : Size). (outer s z).height) r.size }

between : (s : Settings) (p : Plan) (t : Tree) → Chooses p t → Between s (ends_answered (outer s (end_size s false p)) (outer s (end_size s true p))) t
between s p t c =
    let b = plan_bounds s p t c in
    let x = outer_width s t in
    let y = outer_height s t in
    record {
      least_width_lem = omega (arith, b.least.wide);
      greatest_width_lem = omega (arith, b.greatest.wide);
      least_height_lem = omega (arith, b.least.tall);
      greatest_height_lem = omega (arith, b.greatest.tall);
    }

module _ (bs ts : List ℕ) (o : Planned) where
  case : (x : Parsed) (y : PlanOne) → read_settings bs ≡ x → read_plan ts ≡ y → plan_input bs ts ≡ plan_settings_input x y
      → o ≡ planned_of (plan_settings_input x y) → o.number ≡ 0 → PlanHolds bs ts o
  case Parsed.refused y f g i e h = let z : o.number ≡ 1 = ap (λ (u : Planned). u.number) e in absurd (omega arith)
  case (Parsed.read s) (PlanOne.refused k) f g i e h = let z : o.number ≡ k = ap (λ (u : Planned). u.number) e in
      absurd (omega (arith, refusal_low true k (plan_refusal true ts k g)))
  case (Parsed.read s) (PlanOne.one p size n) f g i e h =
      let t = plan_sound true ts p size n g in
      rw e (record {
        settings = s;
        plan = p;
        size = size;
        count = n;
        input = i;
        read = f;
        got = t;
        between = between s p;
        least_width_lem = reached_width s p t.leaves false;
        greatest_width_lem = reached_width s p t.leaves true;
        least_height_lem = reached_height s p t.leaves false;
        greatest_height_lem = reached_height s p t.leaves true;
      })

  pub planned : o ≡ planned_of (plan_input bs ts) → o.number ≡ 0 → PlanHolds bs ts o
  unfolding plan_input
  planned e h = case (read_settings bs) (read_plan ts) refl refl refl e h

-- ---- a tree without tag 4

plain_empty : (ps : Plans) → no_plans? ps ≡ tree.empty? (trees_of ps)
unfolding tree_of no_plans? tree.empty?
plain_empty Plans.none = refl
plain_empty (Plans.more p ps) = refl

mutual
  unfolding tree_of end_size natural Allowed

  plain_size : (s : Settings) (m : Bool) (p : Plan) → Allowed false p → end_size s m p ≡ natural s (tree_of p)
  plain_size s m (Plan.cell t) k = refl
  plain_size s m (Plan.range a b c d) k = no_range k.0
  plain_size s m (Plan.group x ps) k = rw (plain_empty ps, plain_sizes s m ps k)

  plain_sizes : (s : Settings) (m : Bool) (ps : Plans) → Allowed* false ps → end_sizes s m ps ≡ naturals s (trees_of ps)
  plain_sizes s m Plans.none k = refl
  plain_sizes s m (Plans.more p ps) k = rw (plain_size s m p k.0, plain_sizes s m ps k.1)

outer_planned : (s : Settings) (t : Tree) → ends_answered (outer s (natural s t)) (outer s (natural s t)) ≡ tree_planned s t
outer_planned s t = rw (outer_width s t, outer_height s t)

plain_case : (s : Settings) (ts : List ℕ) (t : Tree) (size n : ℕ) → read_tree ts ≡ ReadOne.one t size n
    → planned_of (plan_tree_input s (read_plan ts)) ≡ tree_planned s t
plain_case s ts t size n e =
    let r = read_as ts t size n e in
    let z : (m : Bool) → end_size s m r.plan ≡ natural s t = λ m. plain_size s m r.plan r.leaves ∙ ap (natural s) r.tree_is in
    rw (read_wider ts r.plan size n r.is, z false, z true) (outer_planned s t)

input_case : (bs ts : List ℕ) (s : Settings) (t : Tree) (x : Parsed) (y : ReadOne) → read_settings bs ≡ x → read_tree ts ≡ y
    → sizes.settings_input x y ≡ sizes.given s t → planned_of (plan_settings_input x (read_plan ts)) ≡ tree_planned s t
input_case bs ts s t Parsed.refused y f g e = let z : ◌≡◌ {A = ℕ} 0 1 = cc in absurd (omega arith)
input_case bs ts s t (Parsed.read s₁) (ReadOne.refused k) f g e = let z : ◌≡◌ {A = ℕ} 0 1 = cc in absurd (omega arith)
input_case bs ts s t (Parsed.read s₁) (ReadOne.one t₁ size n) f g e =
    let es : s₁ ≡ s = cc in
    let et : t₁ ≡ t = cc in
    rw (es, ← et) (plain_case s ts t₁ size n g)

pub planned_tree : (bs ts : List ℕ) (s : Settings) (t : Tree) → input_of bs ts ≡ sizes.given s t → planned_of (plan_input bs ts) ≡ tree_planned s t
unfolding plan_input input_of
planned_tree bs ts s t e = input_case bs ts s t (read_settings bs) (read_tree ts) refl refl e
