-- Bytes within their bounds, byte by byte.
use mathlib.Core.Path.{◌≡◌, refl, ap, ◌∙◌}
use mathlib.Core.Bool.{Bool, true, false}
use mathlib.Core.List.{List, [], ◌∷◌}
use Prim.Native.Nat.{ℕ, zero, suc, ◌≤◌, ◌<◌}
use native.Mathlib.Omega.{arith}
use lib.ListN.{length, get_or, take, drop, length-take}
use lib.Seq.{get_or-take}
use lib.Dec.{ltb}
use borrow.Author.Tests.{ltb-false}
use Rattle.common.specs.Choice.{pick}
use Rattle.settings.specs.declared.Settings.{Settings}
use Rattle.settings.specs.Reading.{low, high, within, Parsed, refused, read, read_behind, read_form, or_else, read_settings}

passed : (b : Bool) {y : Bool} → pick b false y ≡ true → (b ≡ false) × (y ≡ true)
passed true e = cc
passed false e = (refl, e)

pub within_length : (ls hs bs : List ℕ) → within ls hs bs ≡ true → length bs ≡ length ls
unfolding within
within_length [] [] [] e = refl
within_length (l ∷ ls) (h ∷ hs) (b ∷ bs) e = ap suc (within_length ls hs bs (passed (ltb h b) (passed (ltb b l) e).1).1)
within_length [] [] (b ∷ bs) e = cc
within_length [] (h ∷ hs) bs e = cc
within_length (l ∷ ls) [] bs e = cc
within_length (l ∷ ls) (h ∷ hs) [] e = cc

not-true : (b : Bool) → (b ≡ true → ⊥) → b ≡ false
not-true true f = absurd (f refl)
not-true false f = refl

pub within_other : (ls hs bs : List ℕ) → (length bs ≡ length ls → ⊥) → within ls hs bs ≡ false
within_other ls hs bs f = not-true (within ls hs bs) (λ e. f (within_length ls hs bs e))

pub within_at : (ls hs bs : List ℕ) → within ls hs bs ≡ true → (i : ℕ) → i < length ls → (get_or ls i 0 ≤ get_or bs i 0) × (get_or bs i 0 ≤ get_or hs i 0)
unfolding within
within_at [] hs bs e i p = absurd (omega arith)
within_at (l ∷ ls) [] bs e i p = cc
within_at (l ∷ ls) (h ∷ hs) [] e i p = cc
within_at (l ∷ ls) (h ∷ hs) (b ∷ bs) e zero p = (ltb-false b l (passed (ltb b l) e).0, ltb-false h b (passed (ltb h b) (passed (ltb b l) e).1).0)
within_at (l ∷ ls) (h ∷ hs) (b ∷ bs) e (suc i) p = within_at ls hs bs (passed (ltb h b) (passed (ltb b l) e).1).1 i (omega arith)

-- ---- the two forms

short_form : (lines : Bool) (l : List ℕ) → length l < 31 → read_form lines l ≡ refused
unfolding read_form
short_form lines l h = rw (within_other (low lines) (high lines) (take 31 l) (λ e. omega (arith, length-take 31 l)))

pub short_refused : (l : List ℕ) → length l < 31 → read_settings l ≡ refused
unfolding read_settings
short_refused l h = rw (short_form true l h, short_form false l h)

-- the first mark is within its bounds
form_mark : (lines : Bool) (l : List ℕ) → ((pick lines 32 0 ≤ get_or l 3 0) × (get_or l 3 0 ≤ pick lines 126 0) → ⊥) → read_form lines l ≡ refused
unfolding read_form
form_mark lines l f =
    rw (not-true (within (low lines) (high lines) (take 31 l))
    (λ e. f (rw (get_or-take 31 l 3 0 (omega arith)) at (within_at (low lines) (high lines) (take 31 l) e 3 (omega arith)))))

pub bare_form : (l : List ℕ) → get_or l 3 0 ≡ 0 → read_settings l ≡ read_form false l
unfolding read_settings
bare_form l e = rw (form_mark true l (λ b. omega (arith, b.0)))

pub lined_form : (l : List ℕ) → (get_or l 3 0 ≡ 0 → ⊥) → read_settings l ≡ read_form true l
unfolding read_settings
lined_form l d = rw (form_mark false l (λ b. d (omega (arith, b.1)))) (go (read_form true l))
  where
    go : (p : Parsed) → or_else p refused ≡ p
    go refused = refl
    go (read s) = refl

-- settings that were read have one of them
pub record Form (l : List ℕ) (s : Settings) : Type 0 where
  pub lines : Bool
  pub is : read_form lines l ≡ read s

pub read_form_lem : (l : List ℕ) (s : Settings) → read_settings l ≡ read s → Form l s
unfolding read_settings
read_form_lem l s e = go (read_form true l) refl e
  where
    go : (p : Parsed) → read_form true l ≡ p → or_else p (read_form false l) ≡ read s → Form l s
    go refused q e = record { lines = false; is = e }
    go (read t) q e = record { lines = true; is = q ∙ e }

pub form_front : (lines : Bool) (l : List ℕ) (s : Settings) → read_form lines l ≡ read s
    → (within (low lines) (high lines) (take 31 l) ≡ true) × (read_behind lines (take 31 l) (drop 31 l) ≡ read s)
unfolding read_form
form_front lines l s e = go (within (low lines) (high lines) (take 31 l)) refl e
  where
    go : (b : Bool) → within (low lines) (high lines) (take 31 l) ≡ b → pick b (read_behind lines (take 31 l) (drop 31 l)) refused ≡ read s
        → (within (low lines) (high lines) (take 31 l) ≡ true) × (read_behind lines (take 31 l) (drop 31 l) ≡ read s)
    go true w e = (w, e)
    go false w e = cc
