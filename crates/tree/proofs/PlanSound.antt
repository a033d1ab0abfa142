-- The result of reading, with planning and without: a plan that its bytes encode and that is within the limits of 01, or one of the refusals 2 to 5, or 17 with
-- planning.
use mathlib.Core.Path.{◌≡◌, refl, ◌∙◌}
use Prim.Native.Nat.{ℕ, zero, suc, ◌+◌, ◌<◌, ◌≤◌}
use native.Mathlib.Omega.{arith}
use mathlib.Core.List.{List, [], ◌∷◌}
use mathlib.Core.Bool.{Bool, true, false, not}
use mathlib.Core.Logic.{inl, inr}
use lib.ListN.{length, take, drop, get_or, length-drop}
use lib.Seq.{length-take-le, ext_get_or}
use lib.Dec.{eqb, ltb, leb}
use borrow.Author.Tests.{ltb-false, leb-false, eqb-true, eqb-false}
use Rattle.common.specs.Choice.{pick, both}
use Rattle.tree.specs.Bytes.{length_at, tag_of, axis_of}
use Rattle.tree.specs.Reading.{is_text}
use Rattle.tree.specs.Planning.{Plan, Plans, header_in, odd_range, last_tag, is_range, PlanOne, PlanAll, element_in, sequence_in, whole_in, group_in, more_in}
use Rattle.tree.specs.Planning.{cell_in, range_in}
use Rattle.tree.specs.Promises.{plan_nodes, plan_nodes*, plan_depth, plan_depth*, PlanEncodes, PlanEncodesAll, GoodRange, Allowed, Allowed*, GotPlan}
use Rattle.tree.specs.Promises.{PlanRefusal}
use Rattle.tree.specs.Bytes.{Header, Fault, Element}

pub refusal_low : (planning : Bool) (k : ℕ) → PlanRefusal planning k → 2 ≤ k
refusal_low planning k (inl h) = h.0
refusal_low planning k (inr h) = omega (arith, h.1)

-- what is shown of both answers of a test is shown of the one that it picks
pub picked : {A : Type 0} (Q : A → Type 0) (b : Bool) {x y : A} → (b ≡ true → Q x) → (b ≡ false → Q y) → Q (pick b x y)
picked Q true p q = p refl
picked Q false p q = q refl

-- ---- tags and ranges

last_low : (planning : Bool) → last_tag planning ≤ 4
last_low true = omega arith
last_low false = omega arith

-- tag 4 is accepted only with planning
four_planned : (planning : Bool) (tag : ℕ) → tag ≤ last_tag planning → tag ≡ 4 → planning ≡ true
four_planned true tag h e = refl
four_planned false tag h e = absurd (omega arith)

four_case : (tag len : ℕ) (a b : Bool) → eqb len 4 ≡ a → eqb tag 4 ≡ b → both (not a) b ≡ false → tag ≡ 4 → len ≡ 4
four_case tag len true b ea eb h e = eqb-true len 4 ea
four_case tag len false true ea eb h e = let z : ◌≡◌ {A = ℕ} 0 1 = cc in absurd (omega arith)
four_case tag len false false ea eb h e = absurd (eqb-false tag 4 eb e)

tag_of_lem : (tag : ℕ) (b : Bool) → eqb tag 2 ≡ b → 1 ≤ tag → tag ≤ 4 → (tag ≡ 1 → ⊥) → (tag ≡ 4 → ⊥) → tag ≡ tag_of (axis_of b)
tag_of_lem tag true q h₁ h₂ h₃ h₅ = eqb-true _ _ q
tag_of_lem tag false q h₁ h₂ h₃ h₅ = let h₄ : tag ≡ 2 → ⊥ = eqb-false _ _ q in omega arith

four_list : (r : List ℕ) → length r ≡ 4 → r ≡ get_or r 0 0 ∷ get_or r 1 0 ∷ get_or r 2 0 ∷ get_or r 3 0 ∷ []
four_list r h = ext_get_or 0 r (get_or r 0 0 ∷ get_or r 1 0 ∷ get_or r 2 0 ∷ get_or r 3 0 ∷ []) h (λ i k. four_at r i (omega arith))
  where
    four_at : (r : List ℕ) (i : ℕ) → i < 4 → get_or r i 0 ≡ get_or (get_or r 0 0 ∷ get_or r 1 0 ∷ get_or r 2 0 ∷ get_or r 3 0 ∷ []) i 0
    four_at r zero k = refl
    four_at r (suc zero) k = refl
    four_at r (suc (suc zero)) k = refl
    four_at r (suc (suc (suc zero))) k = refl
    four_at r (suc (suc (suc (suc i)))) k = absurd (omega arith)

good_case : (a b c d : ℕ) (x y z : Bool) → ltb b a ≡ x → ltb d c ≡ y → ltb c 1 ≡ z → pick x false (pick y false (pick z false true)) ≡ true → GoodRange a b c d
good_case a b c d true y z ex ey ez h = let w : ◌≡◌ {A = ℕ} 0 1 = cc in absurd (omega arith)
good_case a b c d false true z ex ey ez h = let w : ◌≡◌ {A = ℕ} 0 1 = cc in absurd (omega arith)
good_case a b c d false false true ex ey ez h = let w : ◌≡◌ {A = ℕ} 0 1 = cc in absurd (omega arith)
good_case a b c d false false false ex ey ez h = record { widths = ltb-false b a ex; lines = ltb-false d c ey; some = ltb-false c 1 ez }

good : (r : List ℕ) → is_range r ≡ true → GoodRange (get_or r 0 0) (get_or r 1 0) (get_or r 2 0) (get_or r 3 0)
good r h = good_case (get_or r 0 0) (get_or r 1 0) (get_or r 2 0) (get_or r 3 0) _ _ _ refl refl refl h

-- a plan's bytes hold it
pub plan_whole : (t : Plan) (s : List ℕ) → PlanEncodes t s → 3 + length_at s ≤ length s
unfolding PlanEncodes
plan_whole (Plan.cell text) s k = k.0
plan_whole (Plan.range a b c d) s k = k.0
plan_whole (Plan.group x ps) s k = k.0

-- ---- with planning, or without

module _ (P : Bool) where
  -- ---- the front of an element

  record Shown (s : List ℕ) (d n tag len : ℕ) : Type 0 where
    tag_low : 1 ≤ tag
    tag_high : tag ≤ last_tag P
    four : tag ≡ 4 → len ≡ 4
    whole : 3 + len ≤ length s
    deep : d ≤ 16
    before : n < 512
    tag_is : get_or s 0 0 ≡ tag
    len_is : length_at s ≡ len

  abbrev Headed : List ℕ → ℕ → ℕ → Header → Type 0
  Headed s d n (Fault k) = PlanRefusal P k
  Headed s d n (Element tag len) = Shown s d n tag len

  headed : (s : List ℕ) (d n : ℕ) → Headed s d n (header_in P s d n)
  unfolding header_in
  headed s d n =
      picked (Headed s d n) (ltb (length s) 3) (λ e. inl (omega arith)) (λ e₁.
      picked (Headed s d n) (ltb (get_or s 0 0) 1) (λ e. inl (omega arith)) (λ e₂.
      picked (Headed s d n) (ltb (last_tag P) (get_or s 0 0)) (λ e. inl (omega arith)) (λ e₃.
      picked (Headed s d n) (ltb (length s) (3 + length_at s)) (λ e. inl (omega arith)) (λ e₄.
      picked (Headed s d n) (odd_range s) (λ e. inl (omega arith)) (λ e₅.
      picked (Headed s d n) (ltb 16 d) (λ e. inl (omega arith)) (λ e₆.
      picked (Headed s d n) (leb 512 n) (λ e. inl (omega arith)) (λ e₇.
      record {
        tag_low = ltb-false _ _ e₂;
        tag_high = ltb-false _ _ e₃;
        four = four_case (get_or s 0 0) (length_at s) (eqb (length_at s) 4) (eqb (get_or s 0 0) 4) refl refl e₅;
        whole = ltb-false _ _ e₄;
        deep = ltb-false _ _ e₆;
        before = leb-false _ _ e₇;
        tag_is = refl;
        len_is = refl;
      })))))))

  -- ---- elements and sequences

  -- what an element that was read at depth d, with n nodes before it, is; and a sequence
  record Got (s : List ℕ) (d n : ℕ) (t : Plan) (size m : ℕ) : Type 0 where
    is : PlanEncodes t s
    size_is : size ≡ 3 + length_at s
    count_is : m ≡ n + plan_nodes t
    few : m ≤ 512
    shallow : d + plan_depth t ≤ 17
    leaves : Allowed P t

  record GotAll (s : List ℕ) (d n : ℕ) (ts : Plans) (m : ℕ) : Type 0 where
    are : PlanEncodesAll ts s
    count_is : m ≡ n + plan_nodes* ts
    few : n ≤ 512 → m ≤ 512
    shallow : d ≤ 17 → d + plan_depth* ts ≤ 17
    leaves : Allowed* P ts

  -- the result of reading with the fuel f; with fuel for each byte it never runs out
  abbrev One : ℕ → ℕ → ℕ → List ℕ → PlanOne → Type 0
  One f d n s (PlanOne.refused k) = length s < f → PlanRefusal P k
  One f d n s (PlanOne.one t size m) = Got s d n t size m

  abbrev All : ℕ → ℕ → ℕ → List ℕ → PlanAll → Type 0
  All f d n s (PlanAll.refused k) = length s + 1 < f → PlanRefusal P k
  All f d n s (PlanAll.all ts m) = GotAll s d n ts m

  abbrev Elements : ℕ → Type 0
  Elements f = (d n : ℕ) (s : List ℕ) → One f d n s (element_in P f d n s)

  abbrev Sequences : ℕ → Type 0
  Sequences f = (d n : ℕ) (s : List ℕ) → All f d n s (sequence_in P f d n s)

  module _ (f d n : ℕ) (s : List ℕ) where
    module _ (tag len : ℕ) (k : Shown s d n tag len) where
      cell_case : tag ≡ 1 → One (suc f) d n s (cell_in (take len (drop 3 s)) (3 + len) n)
      unfolding PlanEncodes plan_nodes plan_depth Allowed
      cell_case h =
          picked (One (suc f) d n s) (is_text (take len (drop 3 s)))
          (λ e. record {
            is = (omega (arith, k.whole, k.len_is), k.tag_is ∙ h, rw k.len_is refl);
            size_is = omega (arith, k.len_is);
            count_is = omega arith;
            few = omega (arith, k.before);
            shallow = omega (arith, k.deep);
            leaves = e;
          })
          (λ e l. inl (omega arith))

      inside_short : length s < suc f → length (take len (drop 3 s)) + 1 < f
      inside_short h = rw (length-take-le len (drop 3 s) (rw length-drop (omega (arith, k.whole)))) (omega (arith, k.whole))

      group_case : (tag ≡ 1 → ⊥) → (tag ≡ 4 → ⊥) → (x : PlanAll) → All f (d + 1) (n + 1) (take len (drop 3 s)) x → One (suc f) d n s (group_in tag (3 + len) x)
      unfolding PlanEncodes plan_nodes plan_depth Allowed
      group_case h h₄ (PlanAll.refused j) g = λ l. g (inside_short l)
      group_case h h₄ (PlanAll.all ts m) g = record {
        is = (
          omega (arith, k.whole, k.len_is),
          k.tag_is
              ∙ tag_of_lem tag (eqb tag 2) refl k.tag_low (omega (arith, k.tag_high, last_low P)) h h₄,
          rw k.len_is g.are,
        );
        size_is = omega (arith, k.len_is);
        count_is = omega (arith, g.count_is);
        few = g.few (omega (arith, k.before));
        shallow = omega (arith, g.shallow (omega (arith, k.deep)));
        leaves = g.leaves;
      }

      range_case : tag ≡ 4 → One (suc f) d n s (range_in (take len (drop 3 s)) (3 + len) n)
      unfolding PlanEncodes plan_nodes plan_depth Allowed
      range_case h =
          let r = take len (drop 3 s) in
          let l : length r ≡ 4 = length-take-le len (drop 3 s) (rw length-drop (omega (arith, k.whole))) ∙ k.four h in
          let planned : P ≡ true = four_planned P tag k.tag_high h in
          picked (One (suc f) d n s) (is_range r)
          (λ e. record {
            is = (omega (arith, k.whole, k.len_is), k.tag_is ∙ h, rw k.len_is (four_list r l));
            size_is = omega (arith, k.len_is);
            count_is = omega arith;
            few = omega (arith, k.before);
            shallow = omega (arith, k.deep);
            leaves = (planned, good r e);
          })
          (λ e j. inr (planned, refl))

      four_or : Sequences f → (tag ≡ 1 → ⊥) → (b : Bool) → eqb tag 4 ≡ b
          → One (suc f) d n s (elim b
          [ true ↦ range_in (take len (drop 3 s)) (3 + len) n | false ↦ group_in tag (3 + len) (sequence_in P f (d + 1) (n + 1) (take len (drop 3 s))) ])
      four_or ih h true q = range_case (eqb-true _ _ q)
      four_or ih h false q = group_case h (eqb-false _ _ q) (sequence_in P f (d + 1) (n + 1) (take len (drop 3 s))) (ih (d + 1) (n + 1) (take len (drop 3 s)))

      tag_case : Sequences f → (b : Bool) → eqb tag 1 ≡ b
          → One (suc f) d n s (elim b [
            | true ↦ cell_in (take len (drop 3 s)) (3 + len) n
            | false ↦ elim
                (eqb tag 4) [
                  | true ↦ range_in (take len (drop 3 s)) (3 + len) n
                  | false ↦ group_in tag (3 + len)
                      (sequence_in P f (d + 1) (n + 1) (take len (drop 3 s)))
                ]
          ])
      tag_case ih true q = cell_case (eqb-true _ _ q)
      tag_case ih false q = four_or ih (eqb-false _ _ q) (eqb tag 4) refl

    header_case : Sequences f → (h : Header) → Headed s d n h
        → One (suc f) d n s (elim h [
          | Fault k ↦ PlanOne.refused k
          | Element tag len ↦ elim
              (eqb tag 1) [
                | true ↦ cell_in (take len (drop 3 s)) (3 + len) n
                | false ↦ elim
                    (eqb tag 4) [
                      | true ↦ range_in (take len (drop 3 s)) (3 + len) n
                      | false ↦ group_in tag (3 + len)
                          (sequence_in P f (d + 1) (n + 1) (take len (drop 3 s)))
                    ]
              ]
        ])
    header_case ih (Fault k) h = λ l. h
    header_case ih (Element tag len) h = tag_case tag len h ih (eqb tag 1) refl

    rest_case : (t : Plan) (size c : ℕ) → Got s d n t size c → (y : PlanAll) → All f d c (drop size s) y → All (suc f) d n s (more_in t y)
    unfolding PlanEncodes plan_nodes plan_depth Allowed
    rest_case t size c g (PlanAll.refused j) r = λ l. r (rw length-drop (omega (arith, g.size_is, plan_whole t s g.is)))
    rest_case t size c g (PlanAll.all us j) r = record {
      are = (g.is, rw g.size_is at r.are);
      count_is = omega (arith, g.count_is, r.count_is);
      few = λ k. r.few g.few;
      shallow = λ k. omega (arith, g.shallow, r.shallow k);
      leaves = (g.leaves, r.leaves);
    }

    next_case : Sequences f → (x : PlanOne) → One f d n s x
        → All (suc f) d n s (elim x [ PlanOne.refused k ↦ PlanAll.refused k | PlanOne.one t size c ↦ more_in t (sequence_in P f d c (drop size s)) ])
    next_case ih (PlanOne.refused k) g = λ l. g (omega arith)
    next_case ih (PlanOne.one t size c) g = rest_case t size c g (sequence_in P f d c (drop size s)) (ih d c (drop size s))

  list_case : (f d n : ℕ) (s : List ℕ) → Elements f → Sequences f → All (suc f) d n s (sequence_in P (suc f) d n s)
  unfolding element_in PlanEncodes plan_nodes plan_depth Allowed
  list_case f d n [] ih₁ ih₂ = record { are = refl; count_is = omega arith; few = λ k. k; shallow = λ k. omega arith; leaves = tt }
  list_case f d n (b ∷ s) ih₁ ih₂ = next_case f d n (b ∷ s) ih₂ (element_in P f d n (b ∷ s)) (ih₁ d n (b ∷ s))

  mutual
    unfolding element_in

    elements : (f : ℕ) → Elements f
    elements zero = λ d n s h. absurd (omega arith)
    elements (suc f) = λ d n s. header_case f d n s (sequences f) (header_in P s d n) (headed s d n)

    sequences : (f : ℕ) → Sequences f
    sequences zero = λ d n s h. absurd (omega arith)
    sequences (suc f) = λ d n s. list_case f d n s (elements f) (sequences f)

  -- ---- the whole tree

  abbrev Whole : List ℕ → PlanOne → Type 0
  Whole s (PlanOne.refused k) = PlanRefusal P k
  Whole s (PlanOne.one t size n) = GotPlan P s t size n

  root_case : (s : List ℕ) → length s ≤ 32768 → 3 + length_at s ≡ length s → (x : PlanOne) → One (length s + 1) 1 0 s x → Whole s x
  root_case s short ends (PlanOne.refused k) g = g (omega arith)
  root_case s short ends (PlanOne.one t size n) g = record {
    is = g.is;
    ends = ends;
    short = short;
    few = omega (arith, g.count_is, g.few);
    shallow = omega (arith, g.shallow);
    leaves = g.leaves;
    size_is = g.size_is ∙ ends;
    count_is = omega (arith, g.count_is);
  }

  whole : (s : List ℕ) → Whole s (whole_in P s)
  unfolding whole_in
  whole s =
      picked (Whole s) (ltb 32768 (length s)) (λ e. inl (omega arith)) (λ e₁.
      picked (Whole s) (eqb (3 + length_at s) (length s))
      (λ e₂. root_case s (ltb-false _ _ e₁) (eqb-true _ _ e₂) (element_in P (length s + 1) 1 0 s) (elements (length s + 1) 1 0 s)) (λ e. inl (omega arith)))

  -- an accepted tree, or planning tree
  pub plan_sound : (s : List ℕ) (t : Plan) (size n : ℕ) → whole_in P s ≡ PlanOne.one t size n → GotPlan P s t size n
  plan_sound s t size n e = rw e at (whole s)

  -- a refusal
  pub plan_refusal : (s : List ℕ) (k : ℕ) → whole_in P s ≡ PlanOne.refused k → PlanRefusal P k
  plan_refusal s k e = rw e at (whole s)
