-- What the planning C function writes is what the definition says.
use mathlib.Core.Path.{◌≡◌}
use Prim.Native.Nat.{ℕ}
use mathlib.Core.List.{List}
use borrow.Author.Tests.{eq-eqb, ne_eqb}
use Rattle.plan.specs.declared.Planned.{Planned}
use Rattle.c_encoding.specs.Words.{packed}
use Rattle.c_encoding.specs.Plans.{ends_numbers, ends_word, ends_after}

-- the word and the lent numbers are the definition's
abbrev Same : ℕ → List ℕ → Planned → List ℕ → Type 0
Same word ends q old = (word ≡ ends_word q) × (ends ≡ ends_after q old)

module _ (r q : Planned) (e : r ≡ q) (old : List ℕ) (word : ℕ) where
  pub ends_stay : (r.number ≡ 0 → ⊥) → word ≡ packed r.number 0 → Same word old q old
  ends_stay h w = (rw (w, ← e, ne_eqb _ _ h), rw (← e, ne_eqb _ _ h))

  pub ends_come : r.number ≡ 0 → word ≡ packed 0 4 → (ends : List ℕ) → ends ≡ ends_numbers r → Same word ends q old
  ends_come h w ends x = (rw (w, ← e, eq-eqb _ _ h), rw (x, ← e, eq-eqb _ _ h))
