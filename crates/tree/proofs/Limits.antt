-- What the reader answers for the bytes of any plan whose texts are allowed: the verdict of the limits, which does not depend on the texts.
use mathlib.Core.Path.{◌≡◌, refl, sym, ◌∙◌, ap}
use Prim.Native.Nat.{ℕ, zero, suc, ◌+◌, ◌<◌, ◌≤◌}
use native.Mathlib.Omega.{arith}
use mathlib.Core.List.{List, [], ◌∷◌}
use mathlib.Core.Bool.{Bool, true, false, not}
use lib.ListN.{length, take, drop, get_or, length-drop}
use lib.Dec.{eqb, ltb, leb}
use borrow.Author.Tests.{eq-eqb, ne_eqb, le-ltb}
use Rattle.common.specs.Choice.{pick, both}
use Rattle.tree.specs.Tree.{Axis}
use Rattle.tree.specs.Bytes.{length_at, axis_of}
use Rattle.tree.specs.Promises.{contents, PlanEncodes, PlanEncodesAll}
use Rattle.tree.specs.Reading.{is_text}
use Rattle.tree.specs.Planning.{Plan, Plans, header_in, odd_range, last_tag, is_range, PlanOne, PlanAll, cell_in, range_in, group_in, more_in, element_in}
use Rattle.tree.specs.Planning.{sequence_in, whole_in}
use Rattle.tree.specs.Bytes.{Header, Fault, Element}
use Rattle.tree.proofs.Fronts.{contents_length, tag_low, tag_high, axis_of_lem}
use Rattle.tree.proofs.PlanSound.{plan_whole}

-- ---- the verdict: the first node that passes the limits, or the first bad range, refuses; else the nodes are counted

pub data Verdict : Type 0 where
  bad : ℕ → Verdict
  good : ℕ → Verdict

abbrev tested : ℕ → ℕ → Verdict → Verdict
tested d n v = pick (ltb 16 d) (bad 5) (pick (leb 512 n) (bad 4) v)

abbrev pub and_then : Verdict → (ℕ → Verdict) → Verdict
and_then (bad k) g = bad k
and_then (good m) g = g m

unfoldable mutual
  pub limits : ℕ → ℕ → Plan → Verdict
  limits d n (Plan.cell x) = tested d n (good (n + 1))
  limits d n (Plan.range a b c e) = tested d n (pick (is_range (a ∷ b ∷ c ∷ e ∷ [])) (good (n + 1)) (bad 17))
  limits d n (Plan.group x ps) = tested d n (limits* (d + 1) (n + 1) ps)

  pub limits* : ℕ → ℕ → Plans → Verdict
  limits* d n Plans.none = good n
  limits* d n (Plans.more p ps) = and_then (limits d n p) (λ m. limits* d m ps)

pub limits_next : (d n : ℕ) (p : Plan) (ps : Plans) → limits* d n (Plans.more p ps) ≡ and_then (limits d n p) (λ m. limits* d m ps)
unfolding limits
limits_next d n p ps = refl

abbrev pub plan_by_verdict : Plan → ℕ → Verdict → PlanOne
plan_by_verdict p z (bad k) = PlanOne.refused k
plan_by_verdict p z (good m) = PlanOne.one p z m

abbrev outcomes : Plans → Verdict → PlanAll
outcomes ps (bad k) = PlanAll.refused k
outcomes ps (good m) = PlanAll.all ps m

-- every text has allowed bytes only; there are ranges only with planning
unfoldable mutual
  pub TextsIn : Bool → Plan → Type 0
  TextsIn planning (Plan.cell text) = is_text text ≡ true
  TextsIn planning (Plan.range a b c d) = planning ≡ true
  TextsIn planning (Plan.group x ps) = TextsIn* planning ps

  pub TextsIn* : Bool → Plans → Type 0
  TextsIn* planning Plans.none = Unit
  TextsIn* planning (Plans.more p ps) = TextsIn planning p × TextsIn* planning ps

-- ---- tags and ranges

last_high : (planning : Bool) → 3 ≤ last_tag planning
last_high true = omega arith
last_high false = omega arith

four_last : (planning : Bool) (tag : ℕ) → planning ≡ true → tag ≡ 4 → tag ≤ last_tag planning
four_last planning tag e h = rw e (omega arith)

no_odd : (s : List ℕ) → (get_or s 0 0 ≡ 4 → ⊥) → odd_range s ≡ false
no_odd s h = rw (ne_eqb (get_or s 0 0) 4 h)

four_even : (s : List ℕ) → length_at s ≡ 4 → odd_range s ≡ false
four_even s h = even (eqb (length_at s) 4) (eqb (get_or s 0 0) 4) (eq-eqb (length_at s) 4 h)
  where
    even : (a b : Bool) → a ≡ true → both (not a) b ≡ false
    even true true e = refl
    even true false e = refl
    even false b e = let z : ◌≡◌ {A = ℕ} 0 1 = cc in absurd (omega arith)

-- ---- with planning, or without

module _ (P : Bool) where
  header_tests : (s : List ℕ) (d n : ℕ) → 1 ≤ get_or s 0 0 → get_or s 0 0 ≤ last_tag P → 3 + length_at s ≤ length s → odd_range s ≡ false
      → header_in P s d n ≡ pick (ltb 16 d) (Fault 5) (pick (leb 512 n) (Fault 4) (Element (get_or s 0 0) (length_at s)))
  unfolding header_in
  header_tests s d n h₁ h₂ h₃ e =
      let h₀ : 3 ≤ length s = omega arith in
      rw (le-ltb _ _ h₀, le-ltb _ _ h₁, le-ltb _ _ h₂, le-ltb _ _ h₃, e)

  -- what an element's front leads to
  unfoldable pub opened : ℕ → ℕ → ℕ → List ℕ → Header → PlanOne
  opened f d n s (Fault k) = PlanOne.refused k
  opened f d n s (Element tag len) = elim (eqb tag 1) [
    | true ↦ cell_in (take len (drop 3 s)) (3 + len) n
    | false ↦ elim (eqb tag 4) [
      | true ↦ range_in (take len (drop 3 s)) (3 + len) n
      | false ↦ group_in tag (3 + len) (sequence_in P f (d + 1) (n + 1) (take len (drop 3 s)))
    ]
  ]

  pub by_front : (f d n : ℕ) (s : List ℕ) → element_in P (suc f) d n s ≡ opened f d n s (header_in P s d n)
  unfolding element_in opened
  by_front f d n s = go (header_in P s d n) refl
    where
      go : (h : Header) → header_in P s d n ≡ h → element_in P (suc f) d n s ≡ opened f d n s h
      go (Fault k) e = rw (e, element_in)
      go (Element tag len) e = rw (e, element_in)

  tests_read : (f d n : ℕ) (s : List ℕ) (c₁ c₂ : Bool) (e : Header) (p : Plan) (z : ℕ) (v : Verdict) → opened f d n s e ≡ plan_by_verdict p z v
      → opened f d n s (pick c₁ (Fault 5) (pick c₂ (Fault 4) e)) ≡ plan_by_verdict p z (pick c₁ (bad 5) (pick c₂ (bad 4) v))
  unfolding opened
  tests_read f d n s true c₂ e p z v q = refl
  tests_read f d n s false true e p z v q = refl
  tests_read f d n s false false e p z v q = q

  module _ (f d n : ℕ) (s : List ℕ) (p : Plan) (v : Verdict) (low : 1 ≤ get_or s 0 0) (high : get_or s 0 0 ≤ last_tag P) (whole : 3 + length_at s ≤ length s)
      (even : odd_range s ≡ false) where
    element_reads : opened f d n s (Element (get_or s 0 0) (length_at s)) ≡ plan_by_verdict p (3 + length_at s) v
        → element_in P (suc f) d n s ≡ plan_by_verdict p (3 + length_at s) (tested d n v)
    element_reads q =
        by_front f d n s ∙ ap (opened f d n s) (header_tests s d n low high whole even)
        ∙ tests_read f d n s (ltb 16 d) (leb 512 n) (Element (get_or s 0 0) (length_at s)) p (3 + length_at s) v q

  abbrev Element-reads : Plan → Type 0
  Element-reads p = (f d n : ℕ) (s : List ℕ) → length s < f → PlanEncodes p s → TextsIn P p
      → element_in P f d n s ≡ plan_by_verdict p (3 + length_at s) (limits d n p)

  abbrev Sequence-reads : Plans → Type 0
  Sequence-reads ps = (f d n : ℕ) (s : List ℕ) → length s + 1 < f → PlanEncodesAll ps s → TextsIn* P ps → sequence_in P f d n s ≡ outcomes ps (limits* d n ps)

  cell_reads : (x : List ℕ) → Element-reads (Plan.cell x)
  unfolding PlanEncodes TextsIn limits opened
  cell_reads x zero d n s h k p = absurd (omega arith)
  cell_reads x (suc f) d n s h k p =
      let last = last_high P in
      element_reads f d n s (Plan.cell x) (good (n + 1)) (omega (arith, k.1)) (omega (arith, k.1)) k.0 (no_odd s (λ z. omega (arith, k.1)))
      (rw (eq-eqb (get_or s 0 0) 1 k.1, k.2, p, opened))

  range_out : (a b c e z n : ℕ) (g : Bool)
      → pick g (PlanOne.one (Plan.range a b c e) z (n + 1)) (PlanOne.refused 17) ≡ plan_by_verdict (Plan.range a b c e) z (pick g (good (n + 1)) (bad 17))
  range_out a b c e z n true = refl
  range_out a b c e z n false = refl

  range_reads : (a b c e : ℕ) → Element-reads (Plan.range a b c e)
  unfolding PlanEncodes TextsIn limits opened
  range_reads a b c e zero d n s h k p = absurd (omega arith)
  range_reads a b c e (suc f) d n s h k p =
      let long : length_at s ≡ 4 = sym (contents_length s k.0) ∙ ap length k.2 in
      element_reads f d n s (Plan.range a b c e) (pick (is_range (a ∷ b ∷ c ∷ e ∷ [])) (good (n + 1)) (bad 17)) (omega (arith, k.1)) (four_last P _ p k.1)
      k.0 (four_even s long)
      (rw (ne_eqb (get_or s 0 0) 1 (λ z. omega (arith, k.1)), eq-eqb _ _ k.1, k.2, opened)
      (range_out a b c e (3 + length_at s) n (is_range (a ∷ b ∷ c ∷ e ∷ []))))

  group_out : (a : Axis) (ps : Plans) (tag z : ℕ) (v : Verdict) → axis_of (eqb tag 2) ≡ a
      → group_in tag z (outcomes ps v) ≡ plan_by_verdict (Plan.group a ps) z v
  group_out a ps tag z (bad k) e = refl
  group_out a ps tag z (good m) e = ap (λ (b : Axis). PlanOne.one (Plan.group b ps) z m) e

  group_reads : (a : Axis) (ps : Plans) → Sequence-reads ps → Element-reads (Plan.group a ps)
  unfolding PlanEncodes TextsIn limits opened
  group_reads a ps ih zero d n s h k p = absurd (omega arith)
  group_reads a ps ih (suc f) d n s h k p =
      let low = tag_low a in
      let high = tag_high a in
      let last = last_high P in
      let c = contents_length s k.0 in
      element_reads f d n s (Plan.group a ps) (limits* (d + 1) (n + 1) ps) (omega (arith, k.1)) (omega (arith, k.1)) k.0
      (no_odd s (λ z. omega (arith, k.1)))
      (rw (
        ne_eqb (get_or s 0 0) 1 (λ z. omega (arith, k.1)),
        ne_eqb (get_or s 0 0) 4 (λ z. omega (arith, k.1)),
        ih f (d + 1) (n + 1) (contents s) (omega (arith, k.0)) k.2 p,
        opened,
      )
      (group_out a ps (get_or s 0 0) (3 + length_at s) (limits* (d + 1) (n + 1) ps) (sym (axis_of_lem a (get_or s 0 0) k.1))))

  none_reads : Sequence-reads Plans.none
  unfolding PlanEncodes limits element_in
  none_reads zero d n s h k p = absurd (omega arith)
  none_reads (suc f) d n [] h k p = refl
  none_reads (suc f) d n (b ∷ s) h k p = absurd (omega arith)

  more_out : (p : Plan) (ps : Plans) (v : Verdict) → more_in p (outcomes ps v) ≡ outcomes (Plans.more p ps) v
  more_out p ps (bad k) = refl
  more_out p ps (good m) = refl

  -- what a sequence's first element leads to
  unfoldable pub followed : ℕ → ℕ → List ℕ → PlanOne → PlanAll
  followed f d s (PlanOne.refused k) = PlanAll.refused k
  followed f d s (PlanOne.one p z m) = more_in p (sequence_in P f d m (drop z s))

  pub by_first : (f d n b : ℕ) (s : List ℕ) → sequence_in P (suc f) d n (b ∷ s) ≡ followed f d (b ∷ s) (element_in P f d n (b ∷ s))
  unfolding element_in followed
  by_first f d n b s = go (element_in P f d n (b ∷ s)) refl
    where
      go : (x : PlanOne) → element_in P f d n (b ∷ s) ≡ x → sequence_in P (suc f) d n (b ∷ s) ≡ followed f d (b ∷ s) x
      go (PlanOne.refused k) e = rw (e, sequence_in)
      go (PlanOne.one t z m) e = rw (e, sequence_in)

  more_reads : (p : Plan) (ps : Plans) → Element-reads p → Sequence-reads ps → Sequence-reads (Plans.more p ps)
  unfolding PlanEncodes TextsIn followed
  more_reads p ps ih₁ ih₂ zero d n s h k l = absurd (omega arith)
  more_reads p ps ih₁ ih₂ (suc f) d n [] h k l = absurd (omega (arith, plan_whole p [] k.0))
  more_reads p ps ih₁ ih₂ (suc f) d n (b ∷ s) h k l =
      by_first f d n b s ∙ ap (followed f d (b ∷ s)) (ih₁ f d n (b ∷ s) (omega arith) k.0 l.0)
      ∙ go (limits d n p) (λ m. ih₂ f d m (drop (3 + length_at (b ∷ s)) (b ∷ s)) (rw length-drop (omega (arith, plan_whole p (b ∷ s) k.0))) k.1 l.1)
      ∙ ap (outcomes (Plans.more p ps)) (sym (limits_next d n p ps))
    where
      go : (v : Verdict) → ((m : ℕ) → sequence_in P f d m (drop (3 + length_at (b ∷ s)) (b ∷ s)) ≡ outcomes ps (limits* d m ps))
          → followed f d (b ∷ s) (plan_by_verdict p (3 + length_at (b ∷ s)) v) ≡ outcomes (Plans.more p ps) (and_then v (λ m. limits* d m ps))
      go (bad j) q = refl
      go (good m) q = ap (more_in p) (q m) ∙ more_out p ps (limits* d m ps)

  mutual
    reads : (p : Plan) → Element-reads p
    reads (Plan.cell x) = cell_reads x
    reads (Plan.range a b c e) = range_reads a b c e
    reads (Plan.group a ps) = group_reads a ps (reads* ps)

    reads* : (ps : Plans) → Sequence-reads ps
    reads* Plans.none = none_reads
    reads* (Plans.more p ps) = more_reads p ps (reads p) (reads* ps)

  pub whole_reads : (s : List ℕ) (p : Plan) → PlanEncodes p s → 3 + length_at s ≡ length s → TextsIn P p
      → whole_in P s ≡ pick (ltb 32768 (length s)) (PlanOne.refused 2) (plan_by_verdict p (length s) (limits 1 0 p))
  unfolding whole_in
  whole_reads s p k ends l =
      rw (eq-eqb _ _ ends)
      (ap (λ (x : PlanOne). pick (ltb 32768 (length s)) (PlanOne.refused 2) x)
      (reads p (length s + 1) 1 0 s (omega arith) k l ∙ ap (λ (z : ℕ). plan_by_verdict p z (limits 1 0 p)) ends))
