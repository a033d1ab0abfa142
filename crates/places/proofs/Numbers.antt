-- `place_twelve`, `place_thirteen`: when `leaf_at` answers 12 and 13. Nothing here unfolds `sep`: it holds for every separator width.
use mathlib.Core.Path.{◌≡◌, refl, sym, ◌∙◌}
use mathlib.Core.Logic.{◌↔◌, ◌⊎◌, inl, inr}
use Prim.Native.Nat.{ℕ, ◌+◌, ◌≤◌, ◌<◌}
use native.Mathlib.Omega.{arith}
use mathlib.Core.Bool.{Bool, true, false}
use mathlib.Core.List.{List}
use mathlib.Core.Option.{Option, some, none}
use lib.Dec.{ltb, leb, eqb}
use borrow.Author.Tests.{ltb-true, ltb-false, lt-ltb, le-ltb, leb-true, leb-false, le-leb, lt-leb, eqb-true}
use Rattle.common.specs.Choice.{pick, both}
use Rattle.settings.specs.declared.Settings.{Settings}
use Rattle.tree.specs.Tree.{Tree}
use Rattle.sizes.specs.Input.{Input, refused, given, input_of}
use Rattle.sizes.proofs.MeasuredInput.{input_refusal}
use Rattle.layout.specs.Walk.{inside_w, inside_h}
use Rattle.frame.specs.Frame.{W, H, too_large}
use Rattle.places.specs.declared.area.Area.{Area}
use Rattle.places.specs.Places.{among, owner_of, areas, fault_of, no_leaf_place, leaf_place_found, leaf_place_in, leaf_place_of}
use Rattle.places.specs.Promises.{OutsideSheet, Beside, above, under, before, behind, InMargin}

-- ---- the number is that of the fault

found_number : (l k : ℕ) (x : Option Area) → (leaf_place_found l k x).number ≡ 0
found_number l k none = refl
found_number l k (some a) = refl

number_case : (l k n : ℕ) (x : Option Area) (b : Bool) → eqb n 0 ≡ b → (pick b (leaf_place_found l k x) (no_leaf_place n)).number ≡ n
number_case l k n x true e = found_number l k x ∙ sym (eqb-true n 0 e)
number_case l k n x false e = refl

module _ (s : Settings) (t : Tree) (l k : ℕ) where
  place_number : (leaf_place_in s t l k).number ≡ fault_of s t l k
  unfolding leaf_place_in
  place_number = number_case l k (fault_of s t l k) (owner_of (areas s t) l k) (eqb (fault_of s t l k) 0) refl

  abbrev inside : Bool
  inside = both (among s.margin.top (inside_h s t) l) (among s.margin.left (inside_w s t) k)

  -- ---- 12

  outside_case : (a b c : Bool) → leb (H s t) l ≡ a → leb (W s t) k ≡ b → ◌≡◌ {A = ℕ} (pick a 12 (pick b 12 (pick c 0 13))) 12 → (H s t ≤ l) ⊎ (W s t ≤ k)
  outside_case true b c p q h = inl (leb-true (H s t) l p)
  outside_case false true c p q h = inr (leb-true (W s t) k q)
  outside_case false false true p q h = absurd (omega arith)
  outside_case false false false p q h = absurd (omega arith)

  twice : (a : Bool) → ◌≡◌ {A = ℕ} (pick a 12 12) 12
  twice true = refl
  twice false = refl

  outside_fault : (H s t ≤ l) ⊎ (W s t ≤ k) → fault_of s t l k ≡ 12
  unfolding fault_of
  outside_fault (inl h) = rw (le-leb (H s t) l h)
  outside_fault (inr h) = rw (le-leb (W s t) k h) (twice (leb (H s t) l))

  -- ---- 13

  beside_case : (a b c d : Bool) → ltb l s.margin.top ≡ a → ltb l (s.margin.top + inside_h s t) ≡ b → ltb k s.margin.left ≡ c
      → ltb k (s.margin.left + inside_w s t) ≡ d
      → both (pick a false b) (pick c false d) ≡ false → Beside s t l k
  beside_case true b c d p q r w h = above (ltb-true _ _ p)
  beside_case false false c d p q r w h = under (ltb-false _ _ q)
  beside_case false true true d p q r w h = before (ltb-true _ _ r)
  beside_case false true false false p q r w h = behind (ltb-false _ _ w)
  beside_case false true false true p q r w h = let z : ◌≡◌ {A = ℕ} 0 1 = cc in absurd (omega arith)

  margin_case : (a b c : Bool) → leb (H s t) l ≡ a → leb (W s t) k ≡ b → inside ≡ c → ◌≡◌ {A = ℕ} (pick a 12 (pick b 12 (pick c 0 13))) 13
      → (l < H s t) × (k < W s t) × Beside s t l k
  margin_case true b c p q r h = absurd (omega arith)
  margin_case false true c p q r h = absurd (omega arith)
  margin_case false false true p q r h = absurd (omega arith)
  margin_case false false false p q r h = (
    leb-false (H s t) l p,
    leb-false (W s t) k q,
    beside_case (ltb l s.margin.top) (ltb l (s.margin.top + inside_h s t)) (ltb k s.margin.left)
        (ltb k (s.margin.left + inside_w s t)) refl refl refl refl r,
  )

  first_no : (x : Bool) → both false x ≡ false
  first_no true = refl
  first_no false = refl

  past_no : (c : Bool) → pick c false false ≡ false
  past_no true = refl
  past_no false = refl

  beside_out : Beside s t l k → inside ≡ false
  beside_out (above h) = rw (lt-ltb l s.margin.top h) (first_no (among s.margin.left (inside_w s t) k))
  beside_out (under h) = rw (le-ltb l (s.margin.top + inside_h s t) h, past_no (ltb l s.margin.top)) (first_no (among s.margin.left (inside_w s t) k))
  beside_out (before h) = rw (lt-ltb k s.margin.left h)
  beside_out (behind h) = rw (le-ltb k (s.margin.left + inside_w s t) h, past_no (ltb k s.margin.left))

  margin_fault : l < H s t → k < W s t → Beside s t l k → fault_of s t l k ≡ 13
  unfolding fault_of
  margin_fault p q m = rw (lt-leb (H s t) l p, lt-leb (W s t) k q, beside_out m)

  -- ---- of a sheet within the limits

  large_case : (b : Bool) (n : ℕ) → too_large s t ≡ b → (pick b (no_leaf_place 6) (leaf_place_in s t l k)).number ≡ n → 6 < n
      → (too_large s t ≡ false) × (fault_of s t l k ≡ n)
  large_case true n e h m = absurd (omega arith)
  large_case false n e h m = (e, sym place_number ∙ h)

-- the call's number over 6 is the fault of a sheet that was accepted
module _ (bs ts : List ℕ) (l k : ℕ) where
  twelve_in : (x : Input) → input_of bs ts ≡ x → (leaf_place_of x l k).number ≡ 12 → OutsideSheet bs ts l k
  unfolding leaf_place_of fault_of
  twelve_in (refused n) e h = absurd (omega (arith, input_refusal bs ts n e))
  twelve_in (given s t) e h =
      let y = large_case s t l k (too_large s t) 12 refl h (omega arith) in
      record {
        settings = s;
        tree = t;
        input = e;
        within = y.0;
        outside = outside_case s t l k (leb (H s t) l) (leb (W s t) k) (inside s t l k) refl refl y.1;
      }

  thirteen_in : (x : Input) → input_of bs ts ≡ x → (leaf_place_of x l k).number ≡ 13 → InMargin bs ts l k
  unfolding leaf_place_of fault_of
  thirteen_in (refused n) e h = absurd (omega (arith, input_refusal bs ts n e))
  thirteen_in (given s t) e h =
      let y = large_case s t l k (too_large s t) 13 refl h (omega arith) in
      let m = margin_case s t l k (leb (H s t) l) (leb (W s t) k) (inside s t l k) refl refl refl y.1 in
      record { settings = s; tree = t; input = e; within = y.0; line = m.0; column = m.1; beside = m.2 }

  -- "12 for a line or column outside the printed sheet"
  pub place_twelve : ((leaf_place_of (input_of bs ts) l k).number ≡ 12) ↔ OutsideSheet bs ts l k
  unfolding leaf_place_of
  place_twelve = (
    twelve_in (input_of bs ts) refl,
    λ y. rw (y.input, y.within) (place_number y.settings y.tree l k ∙ outside_fault y.settings y.tree l k y.outside),
  )

  -- "13 for a place in the margin"
  pub place_thirteen : ((leaf_place_of (input_of bs ts) l k).number ≡ 13) ↔ InMargin bs ts l k
  unfolding leaf_place_of
  place_thirteen = (
    thirteen_in (input_of bs ts) refl,
    λ y. rw (y.input, y.within) (place_number y.settings y.tree l k ∙ margin_fault y.settings y.tree l k y.line y.column y.beside),
  )
