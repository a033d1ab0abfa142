-- What the calls get for bytes that are alike: the same refusal, or alike trees. The bytes of alike trees, and of alike planning trees, are alike.
use mathlib.Core.Path.{◌≡◌, refl, sym, ap, ap₂, ◌∙◌}
use Prim.Native.Nat.{ℕ, ◌+◌, ◌≤◌}
use native.Mathlib.Omega.{arith}
use mathlib.Core.Bool.{true, false}
use mathlib.Core.List.{List, [], ◌∷◌, map}
use lib.ListN.{length, get_or, length-map}
use lib.Seq.{drop-length}
use Rattle.settings.specs.Reading.{Parsed, read_settings}
use Rattle.tree.specs.Tree as tree
use Rattle.tree.specs.Tree.{Axis, Tree, Trees}
use Rattle.tree.specs.Bytes.{length_at, tag_of}
use Rattle.tree.specs.Reading.{is_text, ReadOne, read_tree}
use Rattle.tree.specs.Promises.{Texts, Texts*, contents, PlanEncodes, PlanEncodesAll, tree_of, trees_of, tree_read}
use Rattle.tree.specs.Planning.{Plan, Plans, PlanOne}
use Rattle.tree.proofs.SameReading.{read_same}
use Rattle.tree.proofs.PlainPlans.{plan_of, plans_of, plan_is}
use Rattle.tree.proofs.Fronts.{contents_length}
use Rattle.sizes.specs.Input.{input_of, settings_input}
use Rattle.blank.specs.Alike.{recast, recast*, covered, masked, Alike}
use Rattle.plan.specs.Answers as plan
use Rattle.plan.specs.Answers.{plan_input}
use Rattle.alike.specs.Pairs as pairs
use Rattle.alike.specs.Pairs.{AlikeBytes, SameFront, after_element, AlikeTrees, plan_recast, plan_recast*, plan_masked, PlanTexts, PlanTexts*, AlikePlans}
use Rattle.alike.specs.Pairs.{SameRead, SameInput, SamePlanInput}
use Rattle.alike.proofs.Lines.{alike_lines}
use Rattle.alike.proofs.Readers as readers
use Rattle.alike.proofs.Readers.{SamePlans, length_alike, whole_alike}

-- what depends on a plan through its mask alone
pub plan_alike_by : {A : Type 0} (g : Plan → A) → ((p : Plan) → g (plan_masked p) ≡ g p) → (p q : Plan) → plan_masked p ≡ plan_masked q → g p ≡ g q
plan_alike_by g e p q h = sym (e p) ∙ ap g h ∙ e q

-- ---- the tree reader

mutual
  unfolding tree_of plan_recast recast

  tree_recast : (f : ℕ → ℕ) (p : Plan) → tree_of (plan_recast f p) ≡ recast f (tree_of p)
  tree_recast f (Plan.cell x) = refl
  tree_recast f (Plan.range a b c d) = refl
  tree_recast f (Plan.group a ps) = ap (tree.group a) (trees_recast f ps)

  trees_recast : (f : ℕ → ℕ) (ps : Plans) → trees_of (plan_recast* f ps) ≡ recast* f (trees_of ps)
  trees_recast f Plans.none = refl
  trees_recast f (Plans.more p ps) = ap₂ tree.more (tree_recast f p) (trees_recast f ps)

tree_masks : (p q : Plan) → plan_masked p ≡ plan_masked q → Alike (tree_of p) (tree_of q)
unfolding Alike masked plan_masked
tree_masks p q h = sym (tree_recast (covered 1) p) ∙ ap tree_of h ∙ tree_recast (covered 1) q

module _ {p q : List ℕ} (b : AlikeBytes p q) where
  pub reads_alike : SameRead (read_tree p) (read_tree q)
  reads_alike = rw (← read_same p, ← read_same q) (go (whole_alike false b))
    where
      go : {x y : PlanOne} → SamePlans x y → SameRead (tree_read x) (tree_read y)
      go (readers.no_plans k) = pairs.both_refused k
      go (readers.two_plans p q z n e) = pairs.both_read (tree_of p) (tree_of q) z n (tree_masks p q e)

  pub inputs_alike : (settings : List ℕ) → SameInput (input_of settings p) (input_of settings q)
  unfolding input_of
  inputs_alike settings = go (read_settings settings) reads_alike
    where
      go : (x : Parsed) {y z : ReadOne} → SameRead y z → SameInput (settings_input x y) (settings_input x z)
      go Parsed.refused r = pairs.both_refused 1
      go (Parsed.read s) (pairs.both_refused k) = pairs.both_refused k
      go (Parsed.read s) (pairs.both_read t u z n e) = pairs.both_given s t u e

  -- the planning reader
  pub plan_inputs_alike : (settings : List ℕ) → SamePlanInput (plan_input settings p) (plan_input settings q)
  unfolding plan_input
  plan_inputs_alike settings = go (read_settings settings) (whole_alike true b)
    where
      go : (x : Parsed) {y z : PlanOne} → SamePlans y z → SamePlanInput (plan.plan_settings_input x y) (plan.plan_settings_input x z)
      go Parsed.refused r = pairs.both_refused 1
      go (Parsed.read s) (readers.no_plans k) = pairs.both_refused k
      go (Parsed.read s) (readers.two_plans p q z n e) = pairs.both_given s p q e

-- ---- the bytes of two plans that are alike

cell_in : {x y : List ℕ} → Plan.cell x ≡ Plan.cell y → x ≡ y
cell_in e = cc

range_in : {a b c d a' b' c' d' : ℕ} → Plan.range a b c d ≡ Plan.range a' b' c' d' → ◌≡◌ {A = List ℕ} (a ∷ b ∷ c ∷ d ∷ []) (a' ∷ b' ∷ c' ∷ d' ∷ [])
range_in e = cc

group_in : {a b : Axis} {ps qs : Plans} → Plan.group a ps ≡ Plan.group b qs → (a ≡ b) × (ps ≡ qs)
group_in e = (cc, cc)

more_in : {p q : Plan} {ps qs : Plans} → Plans.more p ps ≡ Plans.more q qs → (p ≡ q) × (ps ≡ qs)
more_in e = (cc, cc)

clash : {A : Type 0} → ◌≡◌ {A = ℕ} 0 1 → A
clash e = absurd (omega arith)

nothing : (s : List ℕ) → length s ≡ 0 → s ≡ []
nothing [] e = refl
nothing (b ∷ s) e = absurd (omega arith)

empty_alike : (s r : List ℕ) → length s ≡ 0 → length r ≡ 0 → AlikeBytes s r
empty_alike s r e d = rw (nothing s e, nothing r d) (pairs.same [])

-- whole elements of one tag, whose contents are as long
same_front : (s r : List ℕ) → 3 + length_at s ≤ length s → 3 + length_at r ≤ length r → get_or s 0 0 ≡ get_or r 0 0 → length (contents s) ≡ length (contents r)
    → SameFront s r
same_front s r h k t e = record { tag = t; long = omega (arith, contents_length s h, contents_length r k); whole = h; other_whole = k }

mask_lengths : (x y : List ℕ) → map (covered 1) x ≡ map (covered 1) y → length x ≡ length y
mask_lengths x y e = sym (length-map x (covered 1)) ∙ ap length e ∙ length-map y (covered 1)

abbrev Behind : Plan → Plan → Type 0
Behind p q = (s r : List ℕ) → PlanEncodes p s → PlanEncodes q r → plan_recast (covered 1) p ≡ plan_recast (covered 1) q → PlanTexts p → PlanTexts q
    → AlikeBytes (after_element s) (after_element r) → AlikeBytes s r

cells_front : (x y : List ℕ) → Behind (Plan.cell x) (Plan.cell y)
unfolding PlanEncodes plan_recast PlanTexts
cells_front x y s r k l e a b z =
    let m : map (covered 1) (contents s) ≡ map (covered 1) (contents r) = ap (map (covered 1)) k.2 ∙ cell_in e ∙ ap (map (covered 1)) (sym l.2) in
    pairs.cell (same_front s r k.0 l.0 (k.1 ∙ sym l.1) (mask_lengths (contents s) (contents r) m)) k.1 (alike_lines (contents s) (contents r) m)
    (ap is_text k.2 ∙ a ∙ sym b ∙ ap is_text (sym l.2)) z

ranges_front : (a b c d a' b' c' d' : ℕ) → Behind (Plan.range a b c d) (Plan.range a' b' c' d')
unfolding PlanEncodes plan_recast
ranges_front a b c d a' b' c' d' s r k l e x y z =
    let m : contents s ≡ contents r = k.2 ∙ range_in e ∙ sym l.2 in
    pairs.kept (same_front s r k.0 l.0 (k.1 ∙ sym l.1) (ap length m)) m z

groups_front : (x y : Axis) (ps qs : Plans) → (s r : List ℕ) → PlanEncodes (Plan.group x ps) s → PlanEncodes (Plan.group y qs) r → x ≡ y
    → AlikeBytes (contents s) (contents r) → AlikeBytes (after_element s) (after_element r) → AlikeBytes s r
unfolding PlanEncodes
groups_front x y ps qs s r k l e m z = pairs.group x (same_front s r k.0 l.0 (k.1 ∙ ap tag_of e ∙ sym l.1) (length_alike m)) k.1 m z

mutual
  unfolding PlanEncodes plan_recast PlanTexts

  front_alike : (p q : Plan) → Behind p q
  front_alike (Plan.cell x) (Plan.cell y) = cells_front x y
  front_alike (Plan.cell x) (Plan.range a b c d) = λ s r k l e m n z. clash (cc)
  front_alike (Plan.cell x) (Plan.group a qs) = λ s r k l e m n z. clash (cc)
  front_alike (Plan.range a b c d) (Plan.cell y) = λ s r k l e m n z. clash (cc)
  front_alike (Plan.range a b c d) (Plan.range a' b' c' d') = ranges_front a b c d a' b' c' d'
  front_alike (Plan.range a b c d) (Plan.group x qs) = λ s r k l e m n z. clash (cc)
  front_alike (Plan.group x ps) (Plan.cell y) = λ s r k l e m n z. clash (cc)
  front_alike (Plan.group x ps) (Plan.range a b c d) = λ s r k l e m n z. clash (cc)
  front_alike (Plan.group x ps) (Plan.group y qs) = λ s r k l e m n z.
      groups_front x y ps qs s r k l (group_in e).0 (fronts_alike ps qs (contents s) (contents r) k.2 l.2 (group_in e).1 m n) z

  fronts_alike : (ps qs : Plans) (s r : List ℕ) → PlanEncodesAll ps s → PlanEncodesAll qs r → plan_recast* (covered 1) ps ≡ plan_recast* (covered 1) qs
      → PlanTexts* ps → PlanTexts* qs → AlikeBytes s r
  fronts_alike Plans.none Plans.none = λ s r k l e m n. empty_alike s r k l
  fronts_alike Plans.none (Plans.more q qs) = λ s r k l e m n. clash (cc)
  fronts_alike (Plans.more p ps) Plans.none = λ s r k l e m n. clash (cc)
  fronts_alike (Plans.more p ps) (Plans.more q qs) = λ s r k l e m n.
      front_alike p q s r k.0 l.0 (more_in e).0 m.0 n.0
      (fronts_alike ps qs (after_element s) (after_element r) k.1 l.1 (more_in e).1 m.1 n.1)

no_more : (s : List ℕ) → 3 + length_at s ≡ length s → length (after_element s) ≡ 0
no_more s e = rw e (ap length (drop-length s))

pub plans_alike : {p q : List ℕ} → AlikePlans p q → AlikeBytes p q
unfolding plan_masked
plans_alike {p} {q} b =
    front_alike b.plan b.other p q b.first.is b.second.is b.alike b.first.texts b.second.texts
    (empty_alike (after_element p) (after_element q) (no_more p b.first.ends) (no_more q b.second.ends))

-- ---- the bytes of two trees that are alike

mutual
  unfolding plan_of plan_recast recast

  plan_recast_lem : (f : ℕ → ℕ) (t : Tree) → plan_of (recast f t) ≡ plan_recast f (plan_of t)
  plan_recast_lem f (tree.cell x) = refl
  plan_recast_lem f (tree.group a ts) = ap (Plan.group a) (plans_recast f ts)

  plans_recast : (f : ℕ → ℕ) (ts : Trees) → plans_of (recast* f ts) ≡ plan_recast* f (plans_of ts)
  plans_recast f tree.none = refl
  plans_recast f (tree.more t ts) = ap₂ Plans.more (plan_recast_lem f t) (plans_recast f ts)

plan_masks : (t u : Tree) → Alike t u → plan_masked (plan_of t) ≡ plan_masked (plan_of u)
unfolding Alike masked plan_masked
plan_masks t u h = sym (plan_recast_lem (covered 1) t) ∙ ap plan_of h ∙ plan_recast_lem (covered 1) u

mutual
  unfolding plan_of Texts PlanTexts

  plan_texts : (t : Tree) → Texts t → PlanTexts (plan_of t)
  plan_texts (tree.cell x) k = k
  plan_texts (tree.group a ts) k = plan_texts* ts k

  plan_texts* : (ts : Trees) → Texts* ts → PlanTexts* (plans_of ts)
  plan_texts* tree.none k = tt
  plan_texts* (tree.more t ts) k = (plan_texts t k.0, plan_texts* ts k.1)

pub trees_alike : {p q : List ℕ} → AlikeTrees p q → AlikeBytes p q
trees_alike {p} {q} b =
    plans_alike (record {
      plan = plan_of b.tree;
      other = plan_of b.other;
      first = record { is = plan_is b.tree p b.first.is; ends = b.first.ends; texts = plan_texts b.tree b.first.texts };
      second = record { is = plan_is b.other q b.second.is; ends = b.second.ends; texts = plan_texts b.other b.second.texts };
      alike = plan_masks b.tree b.other b.alike;
    })
