-- The settings that were read as 28 numbers, and their margin as 8.
use mathlib.Core.Path.{◌≡◌, sym, ap, ◌∙◌}
use Prim.Native.Nat.{ℕ, ◌+◌, ◌≤◌, ◌<◌}
use native.Mathlib.Omega.{arith}
use mathlib.Core.List.{List, [], ◌∷◌, ◌++◌}
use lib.ListN.{length, length-append}
use lib.Seq.{sets}
use Rattle.settings.specs.declared.Settings.{Settings}
use Rattle.settings.specs.declared.ReadSettings.{ReadSettings}
use Rattle.settings.specs.Reading.{Parsed, read_settings, parsed_answer}
use Rattle.settings.specs.Promises.{Ranges}
use Rattle.settings.proofs.Ranges.{settings_small}
use Rattle.c_encoding.specs.Words.{packed}
use Rattle.c_encoding.specs.Numbers.{refusal, offered, settings_numbers, margin_numbers, read_given}
use Rattle.c_encoding.specs.Clauses.{choice_numbers}
use Rattle.c_encoding.proofs.WrittenNumbers.{Same, same_refusal, same_written, offered_short, offered_long}
use Rattle.common.proofs.Copies.{stored_on}

-- the marks, the padding, the fills and the choices, stored one after the other
pub settings_stored : (s : Settings) (o : List ℕ) {p k o₁ o₂ o₃ o₄ : List ℕ} → Ranges s → o₁ ≡ sets o 0 s.marks
    → p ≡ s.left ∷ s.right ∷ s.top ∷ s.bottom ∷ [] → o₂ ≡ sets o₁ 15 p
    → o₃ ≡ sets o₂ 19 s.fills → k ≡ choice_numbers s → o₄ ≡ sets o₃ 23 k → o₄ ≡ sets o 0 (settings_numbers s)
settings_stored s o {p} {k} {o₁} {o₂} {o₃} {o₄} r e₁ ep e₂ e₃ ek e₄ =
    let four : 15 + length p ≡ 19 = rw ep in
    let x = stored_on s.fills k o₂ 19 e₃ (omega (arith, r.fills.many)) e₄ in
    let y = stored_on p (s.fills ++ k) o₁ 15 e₂ four x in
    let z = stored_on s.marks (p ++ (s.fills ++ k)) o 0 e₁ (omega (arith, r.marks.many)) y in
    rw (ep, ek) at z

pub settings_many : (s : Settings) → Ranges s → length (settings_numbers s) ≡ 28
settings_many s r = rw (length-append s.marks, length-append s.fills, r.marks.many, r.fills.many)

pub margin_many : (s : Settings) → Ranges s → length (margin_numbers s) ≡ 8
margin_many s r = rw r.margin_fills.many

-- ---- what is answered, for that many numbers

pub taken_case : (r : ReadSettings) (p : Parsed) → r ≡ parsed_answer p → r.number ≡ 0 → p ≡ Parsed.read r.settings
taken_case r Parsed.refused e h = let z : ◌≡◌ {A = ℕ} 1 0 = sym (ap (λ (y : ReadSettings). y.number) e) ∙ h in absurd (omega arith)
taken_case r (Parsed.read s) e h = ap Parsed.read (sym (ap (λ (y : ReadSettings). y.settings) e))

pub read_ranges : (bs : List ℕ) (r : ReadSettings) → r ≡ parsed_answer (read_settings bs) → r.number ≡ 0 → Ranges r.settings
read_ranges bs r e h = settings_small bs r.settings (taken_case r (read_settings bs) e h)

module _ (count : ℕ) (numbers : Settings → List ℕ) (many : (s : Settings) → Ranges s → length (numbers s) ≡ count) (bs o : List ℕ) (r : ReadSettings) where
  refused_case : (p : Parsed) → r ≡ parsed_answer p → (r.number ≡ 0 → ⊥) → read_given count numbers p o ≡ refusal r.number o
  unfolding read_given
  refused_case Parsed.refused e h = ap (λ (k : ℕ). refusal k o) (sym (ap (λ (y : ReadSettings). y.number) e))
  refused_case (Parsed.read s) e h = absurd (h (ap (λ (y : ReadSettings). y.number) e))

  module _ (e : r ≡ parsed_answer (read_settings bs)) where
    pub read_refused : (word : ℕ) → (r.number ≡ 0 → ⊥) → word ≡ packed r.number 0 → Same word o (read_given count numbers (read_settings bs) o)
    read_refused word h w = same_refusal _ (refused_case (read_settings bs) e h) w

    module _ (h : r.number ≡ 0) where
      so_many : length (numbers r.settings) ≡ count
      so_many = many r.settings (read_ranges bs r e h)

      offers : read_given count numbers (read_settings bs) o ≡ offered count (numbers r.settings) o
      unfolding read_given
      offers = ap (λ (p : Parsed). read_given count numbers p o) (taken_case r (read_settings bs) e h)

      pub read_short : (word : ℕ) → length o < count → word ≡ packed 8 0 → Same word o (read_given count numbers (read_settings bs) o)
      read_short word k w = same_refusal 8 (offers ∙ offered_short count _ o (omega (arith, so_many))) w

      pub read_written : (word : ℕ) (p : List ℕ) → count ≤ length o → word ≡ packed 0 count → p ≡ sets o 0 (numbers r.settings)
          → Same word p (read_given count numbers (read_settings bs) o)
      read_written word p k w x = same_written count _ o p (offers ∙ offered_long count _ o (omega (arith, so_many))) (omega (arith, so_many)) w x
