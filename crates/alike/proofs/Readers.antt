-- The readers answer equally for bytes that are alike, of a tree or of none: the same refusal, or alike plans of as many bytes and nodes.
use mathlib.Core.Path.{◌≡◌, refl, sym, ap, ap₂}
use Prim.Native.Nat.{ℕ, zero, suc, ◌+◌, ◌≤◌}
use native.Mathlib.Omega.{arith}
use mathlib.Core.Bool.{Bool, true, false, not}
use mathlib.Core.List.{List, [], ◌∷◌}
use lib.ListN.{length, get_or, take, drop, length-drop}
use lib.Dec.{eqb, ltb, leb}
use Rattle.common.specs.Choice.{pick, both}
use Rattle.tree.specs.Tree.{Axis, across, down}
use Rattle.tree.specs.Bytes.{length_at, tag_of, axis_of, Header, Fault, Element}
use Rattle.tree.specs.Promises.{contents}
use Rattle.tree.specs.Reading.{is_text}
use Rattle.tree.specs.Planning.{Plan, Plans, PlanOne, PlanAll, last_tag, header_in, is_range, cell_in, range_in, group_in, more_in, element_in, sequence_in}
use Rattle.tree.specs.Planning.{whole_in}
use Rattle.tree.proofs.Limits.{opened, by_front, followed, by_first}
use Rattle.text.specs.Text.{line_lengths}
use Rattle.blank.specs.Alike.{covered}
use Rattle.alike.specs.Pairs as pairs
use Rattle.alike.specs.Pairs.{AlikeBytes, SameFront, after_element, plan_recast, plan_recast*, plan_masked}
use Rattle.alike.proofs.Lines.{lines_alike}

-- ---- they are of equal length

whole_length : (s : List ℕ) → 3 + length_at s ≤ length s → length s ≡ 3 + length_at s + length (after_element s)
whole_length s h = omega (arith, length-drop (3 + length_at s) s)

front_length : {s r : List ℕ} → SameFront s r → length (after_element s) ≡ length (after_element r) → length s ≡ length r
front_length {s} {r} f e = omega (arith, f.long, whole_length s f.whole, whole_length r f.other_whole)

pub length_alike : {p q : List ℕ} → AlikeBytes p q → length p ≡ length q
length_alike (pairs.same s) = refl
length_alike (pairs.kept f e k) = front_length f (length_alike k)
length_alike (pairs.cell f t e x k) = front_length f (length_alike k)
length_alike (pairs.group a f t m k) = front_length f (length_alike k)

-- the element at the front of both
data Met (s r : List ℕ) : Type 0 where
  met_kept : contents s ≡ contents r → Met s r
  met_cell : get_or s 0 0 ≡ 1 → line_lengths (contents s) ≡ line_lengths (contents r) → is_text (contents s) ≡ is_text (contents r) → Met s r
  met_group : (a : Axis) → get_or s 0 0 ≡ tag_of a → AlikeBytes (contents s) (contents r) → Met s r

-- ---- two answers: of elements of z bytes, of sequences, of whole trees

data SameOne (z : ℕ) : PlanOne → PlanOne → Type 0 where
  both_refused : (k : ℕ) → SameOne z (PlanOne.refused k) (PlanOne.refused k)
  both_read : (p q : Plan) (n : ℕ) → plan_masked p ≡ plan_masked q → SameOne z (PlanOne.one p z n) (PlanOne.one q z n)

data SameAll : PlanAll → PlanAll → Type 0 where
  both_stopped : (k : ℕ) → SameAll (PlanAll.refused k) (PlanAll.refused k)
  both_all : (ps qs : Plans) (n : ℕ) → plan_recast* (covered 1) ps ≡ plan_recast* (covered 1) qs → SameAll (PlanAll.all ps n) (PlanAll.all qs n)

pub data SamePlans : PlanOne → PlanOne → Type 0 where
  no_plans : (k : ℕ) → SamePlans (PlanOne.refused k) (PlanOne.refused k)
  two_plans : (p q : Plan) (z n : ℕ) → plan_masked p ≡ plan_masked q → SamePlans (PlanOne.one p z n) (PlanOne.one q z n)

all_same : (x : PlanAll) → SameAll x x
all_same (PlanAll.refused k) = both_stopped k
all_same (PlanAll.all ps n) = both_all ps ps n refl

plans_same : (x : PlanOne) → SamePlans x x
plans_same (PlanOne.refused k) = no_plans k
plans_same (PlanOne.one p z n) = two_plans p p z n refl

whole_same : {z : ℕ} {x y : PlanOne} → SameOne z x y → SamePlans x y
whole_same {z} (both_refused k) = no_plans k
whole_same {z} (both_read p q n e) = two_plans p q z n e

-- ---- what an element's contents give

cells_same : (x y : List ℕ) (z n : ℕ) → line_lengths x ≡ line_lengths y → is_text x ≡ is_text y → SameOne z (cell_in x z n) (cell_in y z n)
unfolding plan_masked plan_recast
cells_same x y z n e k = rw k (go (is_text y))
  where
    go : (c : Bool) → SameOne z (pick c (PlanOne.one (Plan.cell x) z (n + 1)) (PlanOne.refused 3)) (pick c (PlanOne.one (Plan.cell y) z (n + 1))
        (PlanOne.refused 3))
    go true = both_read (Plan.cell x) (Plan.cell y) (n + 1) (ap Plan.cell (lines_alike x y e))
    go false = both_refused 3

ranges_same : (r : List ℕ) (z n : ℕ) → SameOne z (range_in r z n) (range_in r z n)
ranges_same r z n = go (is_range r)
  where
    go : (c : Bool) → SameOne z (pick c (PlanOne.one (Plan.range (get_or r 0 0) (get_or r 1 0) (get_or r 2 0) (get_or r 3 0)) z (n + 1)) (PlanOne.refused 17))
        (pick c
        (PlanOne.one (Plan.range (get_or r 0 0) (get_or r 1 0) (get_or r 2 0) (get_or r 3 0)) z (n + 1)) (PlanOne.refused 17))
    go true = both_read _ _ (n + 1) refl
    go false = both_refused 17

groups_same : (tag z : ℕ) {x y : PlanAll} → SameAll x y → SameOne z (group_in tag z x) (group_in tag z y)
unfolding plan_masked plan_recast
groups_same tag z (both_stopped k) = both_refused k
groups_same tag z (both_all ps qs n e) = both_read _ _ n (ap (Plan.group (axis_of (eqb tag 2))) e)

mores_same : (p q : Plan) → plan_masked p ≡ plan_masked q → {x y : PlanAll} → SameAll x y → SameAll (more_in p x) (more_in q y)
unfolding plan_masked plan_recast
mores_same p q e (both_stopped k) = both_stopped k
mores_same p q e (both_all ps qs n d) = both_all (Plans.more p ps) (Plans.more q qs) n (ap₂ Plans.more e d)

-- ---- with planning, or without

module _ (P : Bool) where
  -- the tests use the length, the tag and the two length bytes alone
  abbrev front : ℕ → ℕ → ℕ → ℕ → ℕ → Header
  front long tag len d n =
      pick (ltb long 3) (Fault 2)
      (pick (ltb tag 1) (Fault 2)
      (pick (ltb (last_tag P) tag) (Fault 2)
      (pick (ltb long (3 + len)) (Fault 2)
      (pick (both (not (eqb len 4)) (eqb tag 4)) (Fault 2)
      (pick (ltb 16 d) (Fault 5)
      (pick (leb 512 n) (Fault 4)
      (Element tag len)))))))

  header_front : (s : List ℕ) (d n : ℕ) → header_in P s d n ≡ front (length s) (get_or s 0 0) (length_at s) d n
  unfolding header_in
  header_front s d n = refl

  module _ (f d n : ℕ) (s r : List ℕ) (z : ℕ) where
    abbrev Opens : Header → Type 0
    Opens h = SameOne z (opened P f d n s h) (opened P f d n r h)

    or_fault : (c : Bool) (k : ℕ) (h : Header) → Opens h → Opens (pick c (Fault k) h)
    unfolding opened
    or_fault true k h o = both_refused k
    or_fault false k h o = o

    front_opens : (long tag len : ℕ) → Opens (Element tag len) → Opens (front long tag len d n)
    front_opens long tag len o =
        let h₁ : Header = pick (leb 512 n) (Fault 4) (Element tag len) in
        let h₂ : Header = pick (ltb 16 d) (Fault 5) h₁ in
        let h₃ : Header = pick (both (not (eqb len 4)) (eqb tag 4)) (Fault 2) h₂ in
        let h₄ : Header = pick (ltb long (3 + len)) (Fault 2) h₃ in
        let h₅ : Header = pick (ltb (last_tag P) tag) (Fault 2) h₄ in
        let h₆ : Header = pick (ltb tag 1) (Fault 2) h₅ in
        or_fault (ltb long 3) 2 h₆ (or_fault (ltb tag 1) 2 h₅ (or_fault (ltb (last_tag P) tag) 2 h₄ (or_fault (ltb long (3 + len)) 2 h₃
        (or_fault (both (not (eqb len 4)) (eqb tag 4)) 2 h₂ (or_fault (ltb 16 d) 5 h₁ (or_fault (leb 512 n) 4 (Element tag len) o))))))

    element_step : length r ≡ length s → SameFront s r → Opens (Element (get_or s 0 0) (length_at s))
        → SameOne z (element_in P (suc f) d n s) (element_in P (suc f) d n r)
    element_step a t o =
        let b : get_or r 0 0 ≡ get_or s 0 0 = sym t.tag in
        let c : length_at r ≡ length_at s = sym t.long in
        rw (by_front P f d n s, by_front P f d n r, header_front s d n, header_front r d n, a, b, c)
        (front_opens (length s) (get_or s 0 0) (length_at s) o)

  abbrev Elements : ℕ → Type 0
  Elements f = (d n : ℕ) (s r : List ℕ) → length r ≡ length s → SameFront s r → Met s r
      → SameOne (3 + length_at s) (element_in P f d n s) (element_in P f d n r)

  abbrev Sequences : ℕ → Type 0
  Sequences f = (d n : ℕ) (p q : List ℕ) → AlikeBytes p q → SameAll (sequence_in P f d n p) (sequence_in P f d n q)

  -- ---- an element, by its tag

  module _ (f d n : ℕ) where
    kept_opens : (tag len : ℕ) (s r : List ℕ) → take len (drop 3 r) ≡ take len (drop 3 s)
        → SameOne (3 + len) (opened P f d n s (Element tag len)) (opened P f d n r (Element tag len))
    unfolding opened
    kept_opens tag len s r e = go (eqb tag 1) (eqb tag 4) (take len (drop 3 s)) (take len (drop 3 r)) e
      where
        go : (a b : Bool) (x y : List ℕ) → y ≡ x → SameOne (3 + len)
            (elim a [
              | true ↦ cell_in x
                  (3 + len) n
              | false ↦ elim b [ true ↦ range_in x (3 + len) n | false ↦ group_in tag (3 + len) (sequence_in P f (d + 1) (n + 1) x) ]
            ])
            (elim a [
              | true ↦ cell_in y
                  (3 + len) n
              | false ↦ elim b [ true ↦ range_in y (3 + len) n | false ↦ group_in tag (3 + len) (sequence_in P f (d + 1) (n + 1) y) ]
            ])
        go true b x y e = cells_same x y (3 + len) n (ap line_lengths (sym e)) (ap is_text (sym e))
        go false true x y e = rw e (ranges_same x (3 + len) n)
        go false false x y e = rw e (groups_same tag (3 + len) (all_same (sequence_in P f (d + 1) (n + 1) x)))

    cell_opens : (tag len : ℕ) (s r : List ℕ) → tag ≡ 1 → line_lengths (take len (drop 3 s)) ≡ line_lengths (take len (drop 3 r))
        → is_text (take len (drop 3 s)) ≡ is_text (take len (drop 3 r))
        → SameOne (3 + len) (opened P f d n s (Element tag len)) (opened P f d n r (Element tag len))
    unfolding opened
    cell_opens tag len s r t e k = rw t (cells_same (take len (drop 3 s)) (take len (drop 3 r)) (3 + len) n e k)

    group_opens : (a : Axis) (tag len : ℕ) (s r : List ℕ) → tag ≡ tag_of a
        → SameAll (sequence_in P f (d + 1) (n + 1) (take len (drop 3 s))) (sequence_in P f (d + 1) (n + 1) (take len (drop 3 r)))
        → SameOne (3 + len) (opened P f d n s (Element tag len)) (opened P f d n r (Element tag len))
    unfolding opened
    group_opens across tag len s r t k = rw t (groups_same 2 (3 + len) k)
    group_opens down tag len s r t k = rw t (groups_same 3 (3 + len) k)

  elements_next : (f : ℕ) → Sequences f → Elements (suc f)
  elements_next f ih d n s r a t m = element_step f d n s r (3 + length_at s) a t (go m)
    where
      c : length_at r ≡ length_at s
      c = sym t.long

      go : Met s r → SameOne (3 + length_at s) (opened P f d n s (Element (get_or s 0 0) (length_at s)))
          (opened P f d n r (Element (get_or s 0 0) (length_at s)))
      go (met_kept e) = kept_opens f d n (get_or s 0 0) (length_at s) s r (sym (rw c at e))
      go (met_cell h e x) = cell_opens f d n (get_or s 0 0) (length_at s) s r h (rw c at e) (rw c at x)
      go (met_group b h k) =
          group_opens f d n b (get_or s 0 0) (length_at s) s r h
          (ih (d + 1) (n + 1) (take (length_at s) (drop 3 s)) (take (length_at s) (drop 3 r)) (rw c at k))

  -- ---- a sequence

  module _ (f d : ℕ) (s r : List ℕ) (z : ℕ) (rest : (m : ℕ) → SameAll (sequence_in P f d m (drop z s)) (sequence_in P f d m (drop z r))) where
    follows : {x y : PlanOne} → SameOne z x y → SameAll (followed P f d s x) (followed P f d r y)
    unfolding followed
    follows (both_refused k) = both_stopped k
    follows (both_read p q m e) = mores_same p q e (rest m)

  sequence_step : (f d n : ℕ) (s r : List ℕ) → Elements f → Sequences f → SameFront s r → Met s r → AlikeBytes (after_element s) (after_element r)
      → SameAll (sequence_in P (suc f) d n s) (sequence_in P (suc f) d n r)
  sequence_step f d n [] r ih₁ ih₂ t m k = absurd (omega (arith, t.whole))
  sequence_step f d n (b ∷ s) [] ih₁ ih₂ t m k = absurd (omega (arith, t.other_whole))
  sequence_step f d n (b ∷ s) (c ∷ r) ih₁ ih₂ t m k =
      let e : length_at (c ∷ r) ≡ length_at (b ∷ s) = sym t.long in
      rw (by_first P f d n b s, by_first P f d n c r)
      (follows f d (b ∷ s) (c ∷ r) (3 + length_at (b ∷ s)) (λ j. ih₂ d j (after_element (b ∷ s)) (drop (3 + length_at (b ∷ s)) (c ∷ r)) (rw e at k))
      (ih₁ d n (b ∷ s) (c ∷ r) (sym (front_length t (length_alike k))) t m))

  sequences_next : (f : ℕ) → Elements f → Sequences f → Sequences (suc f)
  sequences_next f ih₁ ih₂ d n p q (pairs.same s) = all_same (sequence_in P (suc f) d n s)
  sequences_next f ih₁ ih₂ d n p q (pairs.kept t e k) = sequence_step f d n p q ih₁ ih₂ t (met_kept e) k
  sequences_next f ih₁ ih₂ d n p q (pairs.cell t h e x k) = sequence_step f d n p q ih₁ ih₂ t (met_cell h e x) k
  sequences_next f ih₁ ih₂ d n p q (pairs.group a t h m k) = sequence_step f d n p q ih₁ ih₂ t (met_group a h m) k

  mutual
    unfolding element_in

    elements : (f : ℕ) → Elements f
    elements zero = λ d n s r a t m. both_refused 0
    elements (suc f) = elements_next f (sequences f)

    sequences : (f : ℕ) → Sequences f
    sequences zero = λ d n p q k. both_stopped 0
    sequences (suc f) = sequences_next f (elements f) (sequences f)

  -- ---- the whole

  whole_step : (s r : List ℕ) (z : ℕ) → length r ≡ length s → length_at r ≡ length_at s
      → SameOne z (element_in P (length s + 1) 1 0 s) (element_in P (length s + 1) 1 0 r) → SamePlans (whole_in P s) (whole_in P r)
  unfolding whole_in
  whole_step s r z a b o = rw (a, b) (go (ltb 32768 (length s)) (eqb (3 + length_at s) (length s)))
    where
      go : (c d : Bool) → SamePlans (pick c (PlanOne.refused 2) (pick d (element_in P (length s + 1) 1 0 s) (PlanOne.refused 2))) (pick c (PlanOne.refused 2)
          (pick d (element_in P (length s + 1) 1 0 r) (PlanOne.refused 2)))
      go true d = no_plans 2
      go false true = whole_same o
      go false false = no_plans 2

  whole_met : (s r : List ℕ) → length s ≡ length r → SameFront s r → Met s r → SamePlans (whole_in P s) (whole_in P r)
  whole_met s r a t m = whole_step s r (3 + length_at s) (sym a) (sym t.long) (elements (length s + 1) 1 0 s r (sym a) t m)

  pub whole_alike : {p q : List ℕ} → AlikeBytes p q → SamePlans (whole_in P p) (whole_in P q)
  whole_alike (pairs.same s) = plans_same (whole_in P s)
  whole_alike (pairs.kept {s} {r} t e k) = whole_met s r (front_length t (length_alike k)) t (met_kept e)
  whole_alike (pairs.cell {s} {r} t h e x k) = whole_met s r (front_length t (length_alike k)) t (met_cell h e x)
  whole_alike (pairs.group {s} {r} a t h m k) = whole_met s r (front_length t (length_alike k)) t (met_group a h m)
