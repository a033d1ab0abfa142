-- Words, numbers and places of faults, put one after the other.
use mathlib.Core.Path.{◌≡◌, refl, sym, ◌∙◌}
use Prim.Native.Nat.{ℕ, zero, suc, ◌+◌, ◌-◌, ◌/◌, ◌%◌, ◌≤◌, ◌<◌}
use native.Mathlib.Omega.{arith}
use mathlib.Core.Bool.{Bool, true, false}
use mathlib.Core.List.{List, [], ◌∷◌, ◌++◌, append_assoc}
use lib.ListN.{length, set, length-append}
use lib.Seq.{sets}
use lib.Dec.{eqb, ltb}
use borrow.Author.Tests.{ne_eqb, lt-ltb, le-ltb}
use Rattle.common.specs.Choice.{pick}
use Rattle.common.specs.Writing.{Wrote}
use Rattle.common.proofs.Stores.{sets_append}
use Rattle.common.proofs.Copies.{then_wrote}
use Rattle.program.specs.Words.{digits, decimal, words_large}
use Rattle.program.specs.Words.{fault_words, line_text, column_text, colon_text, place_text, fault_text}

-- ---- digits

pub digits_few : (places n : ℕ) → length (digits places n) ≤ places
unfolding digits
digits_few zero n = omega arith
digits_few (suc places) n = go (ltb n 10) (digits_few places (n / 10))
  where
    go : (c : Bool) → length (digits places (n / 10)) ≤ places → length (pick c ((48 + n) ∷ []) (digits places (n / 10) ++ ((48 + n % 10) ∷ []))) ≤ suc places
    go true h = omega arith
    go false h = rw length-append (omega arith)

module _ (o : List ℕ) (at : ℕ) where
  pub no_digit : (places n : ℕ) → places ≡ 0 → Wrote at (at + length (digits places n)) o (sets o at (digits places n))
  unfolding digits
  no_digit places n z = rw z (record { end_is = omega arith; out_is = refl })

  pub one_digit : (places n : ℕ) → (places ≡ 0 → ⊥) → n < 10 → Wrote (at + 1) (at + length (digits places n)) (set o at (48 + n)) (sets o at (digits places n))
  unfolding digits
  one_digit zero n z h = absurd (z refl)
  one_digit (suc places) n z h = rw (lt-ltb n 10 h) (record { end_is = omega arith; out_is = refl })

  pub more_digits : (places n : ℕ) → (places ≡ 0 → ⊥) → 10 ≤ n → (r : ℕ) (o₁ : List ℕ)
      → Wrote r (at + length (digits (places - 1) (n / 10))) o₁ (sets o at (digits (places - 1) (n / 10)))
      → Wrote (r + 1) (at + length (digits places n)) (set o₁ r (48 + n % 10)) (sets o at (digits places n))
  unfolding digits
  more_digits zero n z h r o₁ w = absurd (z refl)
  more_digits (suc places) n z h r o₁ w =
      let d = digits places (n / 10) in
      let p : suc places - 1 ≡ places = omega arith in
      let f : o₁ ≡ sets o at d = rw p at w.out_is in
      let g : r ≡ at + length d = rw p at w.end_is in
      let e : set o₁ r (48 + n % 10) ≡ sets o at (d ++ ((48 + n % 10) ∷ [])) = rw (f, g) (sym (sets_append d ((48 + n % 10) ∷ []) o at)) in
      rw (le-ltb n 10 h) (record { end_is = omega (arith, length-append d ((48 + n % 10) ∷ [])); out_is = e })

-- ---- words

-- the number is none of 30 to 39
pub words_left : (k : ℕ) → ((i : ℕ) → i < 10 → k ≡ 30 + i → ⊥) → fault_words k ≡ words_large
unfolding fault_words
words_left k other =
    let f : (i : ℕ) → i < 10 → eqb k (30 + i) ≡ false = λ i h. ne_eqb k (30 + i) (other i h) in
    rw (
      f 0 (omega arith),
      f 1 (omega arith),
      f 2 (omega arith),
      f 3 (omega arith),
      f 4 (omega arith),
      f 5 (omega arith),
      f 6 (omega arith),
      f 7 (omega arith),
      f 8 (omega arith),
      f 9 (omega arith),
    )

-- ---- one text after another

-- as the functions have it, from the front on
pub from_front : (r : ℕ) (o₁ o x y : List ℕ) → x ≡ y → Wrote r (0 + length x) o₁ (sets o 0 x) → Wrote r (length y) o₁ (sets o 0 y)
from_front r o₁ o x y e w = rw (← e) (record { end_is = omega (arith, w.end_is); out_is = w.out_is })

pub no_place : (l c : ℕ) (o : List ℕ) → l ≡ 0 → Wrote 0 (length (place_text l c)) o (sets o 0 (place_text l c)) × (0 ≤ 30)
unfolding place_text
no_place l c o e = (rw e (record { end_is = refl; out_is = refl }), omega arith)

five : (a b c d e : List ℕ) → (((a ++ b) ++ c) ++ d) ++ e ≡ a ++ (b ++ (c ++ (d ++ e)))
five a b c d e = append_assoc ((a ++ b) ++ c) d e ∙ append_assoc (a ++ b) c (d ++ e) ∙ append_assoc a b (c ++ (d ++ e))

module _ (l c : ℕ) (z : l ≡ 0 → ⊥) where
  place_is : (((line_text ++ decimal l) ++ column_text) ++ decimal c) ++ colon_text ≡ place_text l c
  unfolding place_text
  place_is = rw (ne_eqb l 0 z) (five line_text (decimal l) column_text (decimal c) colon_text)

  -- `line `, the line, `, column `, the column, `: `
  pub place_put : (o o₁ o₂ o₃ o₄ o₅ : List ℕ) (r₁ r₂ r₃ r₄ r₅ : ℕ) → Wrote r₁ (0 + 5) o₁ (sets o 0 line_text)
      → Wrote r₂ (r₁ + length (decimal l)) o₂ (sets o₁ r₁ (decimal l))
      → Wrote r₃ (r₂ + 9) o₃ (sets o₂ r₂ column_text) → Wrote r₄ (r₃ + length (decimal c)) o₄ (sets o₃ r₃ (decimal c))
      → Wrote r₅ (r₄ + 2) o₅ (sets o₄ r₄ colon_text)
      → Wrote r₅ (length (place_text l c)) o₅ (sets o 0 (place_text l c)) × (r₅ ≤ 30)
  place_put o o₁ o₂ o₃ o₄ o₅ r₁ r₂ r₃ r₄ r₅ w₁ w₂ w₃ w₄ w₅ =
      let a = then_wrote o o₁ o₂ line_text (decimal l) 0 r₁ r₂ w₁ w₂ in
      let b = then_wrote o o₂ o₃ (line_text ++ decimal l) column_text 0 r₂ r₃ a w₃ in
      let d = then_wrote o o₃ o₄ ((line_text ++ decimal l) ++ column_text) (decimal c) 0 r₃ r₄ b w₄ in
      let e = then_wrote o o₄ o₅ (((line_text ++ decimal l) ++ column_text) ++ decimal c) colon_text 0 r₄ r₅ d w₅ in
      (from_front r₅ o₅ o _ _ place_is e, omega (arith, w₁.end_is, w₂.end_is, w₃.end_is, w₄.end_is, w₅.end_is, digits_few 6 l, digits_few 6 c))

-- the place, the words and 0A
pub fault_put : (k l c : ℕ) (o o₁ o₂ : List ℕ) (r q : ℕ) → Wrote r (length (place_text l c)) o₁ (sets o 0 (place_text l c))
    → Wrote q (r + length (fault_words k)) o₂ (sets o₁ r (fault_words k))
    → Wrote (q + 1) (length (fault_text k l c)) (set o₂ q 10) (sets o 0 (fault_text k l c))
unfolding fault_text
fault_put k l c o o₁ o₂ r q a b =
    let x = then_wrote o o₁ o₂ (place_text l c) (fault_words k) 0 r q (record { end_is = omega (arith, a.end_is); out_is = a.out_is }) b in
    let y = then_wrote o o₂ (set o₂ q 10) (place_text l c ++ fault_words k) (10 ∷ []) 0 q (q + 1) x (record { end_is = omega arith; out_is = refl }) in
    from_front (q + 1) (set o₂ q 10) o _ _ (append_assoc (place_text l c) (fault_words k) (10 ∷ [])) y
