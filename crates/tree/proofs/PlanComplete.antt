-- The bytes of every plan within the limits of 01 are accepted as that plan, with planning and, where it has no range, without.
use mathlib.Core.Path.{◌≡◌, refl, sym, ◌∙◌, ap}
use Prim.Native.Nat.{ℕ, suc, ◌+◌, ◌<◌, ◌≤◌}
use native.Mathlib.Omega.{arith}
use mathlib.Core.List.{List, [], ◌∷◌}
use mathlib.Core.Bool.{Bool, true, false}
use lib.ListN.{length}
use borrow.Author.Tests.{lt-leb, le-ltb}
use Rattle.tree.specs.Planning.{Plan, Plans, is_range, PlanOne, whole_in}
use Rattle.tree.specs.Promises.{plan_nodes, plan_nodes*, plan_depth, plan_depth*, GoodRange, Allowed, Allowed*, GotPlan}
use Rattle.tree.proofs.PlanSound.{plan_sound}
use Rattle.tree.proofs.Limits.{good, limits, limits*, TextsIn, TextsIn*, whole_reads}

good_range : (a b c d : ℕ) → GoodRange a b c d → is_range (a ∷ b ∷ c ∷ d ∷ []) ≡ true
good_range a b c d g = simp (le-ltb _ _ g.widths, le-ltb _ _ g.lines, le-ltb _ _ g.some)

module _ (P : Bool) where
  mutual
    unfolding Allowed TextsIn

    allowed_texts : (p : Plan) → Allowed P p → TextsIn P p
    allowed_texts (Plan.cell text) k = k
    allowed_texts (Plan.range a b c d) k = k.0
    allowed_texts (Plan.group x ps) k = allowed_texts* ps k

    allowed_texts* : (ps : Plans) → Allowed* P ps → TextsIn* P ps
    allowed_texts* Plans.none k = tt
    allowed_texts* (Plans.more p ps) k = (allowed_texts p k.0, allowed_texts* ps k.1)

  -- within the limits the nodes are counted
  mutual
    unfolding limits Allowed plan_depth plan_nodes

    counted : (p : Plan) (d n : ℕ) → Allowed P p → d + plan_depth p ≤ 17 → n + plan_nodes p ≤ 512 → limits d n p ≡ good (n + plan_nodes p)
    counted (Plan.cell text) = λ d n k h l.
        let h₁ : d ≤ 16 = omega arith in
        let h₂ : n < 512 = omega arith in
        rw (le-ltb _ _ h₁, lt-leb _ _ h₂)
    counted (Plan.range a b c e) = λ d n k h l.
        let h₁ : d ≤ 16 = omega arith in
        let h₂ : n < 512 = omega arith in
        rw (le-ltb _ _ h₁, lt-leb _ _ h₂, good_range a b c e k.1)
    counted (Plan.group x ps) = λ d n k h l.
        let h₁ : d ≤ 16 = omega arith in
        let h₂ : n < 512 = omega arith in
        let e : n + 1 + plan_nodes* ps ≡ n + suc (plan_nodes* ps) = omega arith in
        rw (le-ltb _ _ h₁, lt-leb _ _ h₂) (counted* ps (d + 1) (n + 1) k (omega arith) (omega arith) ∙ ap good e)

    counted* : (ps : Plans) (d n : ℕ) → Allowed* P ps → d + plan_depth* ps ≤ 17 → n + plan_nodes* ps ≤ 512 → limits* d n ps ≡ good (n + plan_nodes* ps)
    counted* Plans.none = λ d n k h l. let e : n ≡ n + 0 = omega arith in ap good e
    counted* (Plans.more p ps) = λ d n k h l.
        let e : n + plan_nodes p + plan_nodes* ps ≡ n + (plan_nodes p + plan_nodes* ps) = omega arith in
        rw (counted p d n k.0 (omega arith) (omega arith)) (counted* ps d (n + plan_nodes p) k.1 (omega arith) (omega arith) ∙ ap good e)

  pub plan_complete : (s : List ℕ) (p : Plan) (size n : ℕ) → GotPlan P s p size n → whole_in P s ≡ PlanOne.one p size n
  plan_complete s p size n k =
      let e₁ : length s ≡ size = sym k.size_is in
      let e₂ : 0 + plan_nodes p ≡ n = omega (arith, k.count_is) in
      whole_reads P s p k.is k.ends (allowed_texts p k.leaves)
      ∙ rw (le-ltb _ _ k.short, counted p 1 0 k.leaves (omega (arith, k.shallow)) (omega (arith, k.few)), e₁, e₂)

-- ---- what is accepted without planning is accepted with it, as the same

mutual
  unfolding Allowed

  leaves_wider : (p : Plan) → Allowed false p → Allowed true p
  leaves_wider (Plan.cell text) k = k
  leaves_wider (Plan.range a b c d) k = (refl, k.1)
  leaves_wider (Plan.group x ps) k = leaves*_wider ps k

  leaves*_wider : (ps : Plans) → Allowed* false ps → Allowed* true ps
  leaves*_wider Plans.none k = tt
  leaves*_wider (Plans.more p ps) k = (leaves_wider p k.0, leaves*_wider ps k.1)

pub read_wider : (s : List ℕ) (p : Plan) (size n : ℕ) → whole_in false s ≡ PlanOne.one p size n → whole_in true s ≡ PlanOne.one p size n
read_wider s p size n e =
    let g = plan_sound false s p size n e in
    plan_complete true s p size n (record {
      is = g.is;
      ends = g.ends;
      short = g.short;
      few = g.few;
      shallow = g.shallow;
      leaves = leaves_wider p g.leaves;
      size_is = g.size_is;
      count_is = g.count_is;
    })
