-- The number lent to the share, after the call.
use mathlib.Core.Path.{◌≡◌, refl, sym, ap, ◌∙◌}
use mathlib.Core.Bool.{Bool, true, false}
use Prim.Native.Nat.{ℕ}
use native.Mathlib.Omega.{arith}
use lib.Dec.{ltb}
use Rattle.common.specs.Choice.{pick}
use Rattle.settings.specs.declared.Priority.{Priority}
use Rattle.sharing.specs.declared.Shared.{Shared}
use Rattle.sharing.specs.Sharing.{share_of, share}
use Rattle.c_encoding.specs.Words.{packed, part_after}

stays : (b : Bool) (x old : ℕ) (r : Shared) → r ≡ pick b (record { number = 0; part = x }) (record { number = 11; part = 0 }) → (r.number ≡ 0 → ⊥)
    → old ≡ pick b x old
stays true x old r e h = absurd (h (ap (λ (y : Shared). y.number) e))
stays false x old r e h = refl

comes : (b : Bool) (x old : ℕ) (r : Shared) → r ≡ pick b (record { number = 0; part = x }) (record { number = 11; part = 0 }) → r.number ≡ 0
    → r.part ≡ pick b x old
comes true x old r e h = ap (λ (y : Shared). y.part) e
comes false x old r e h = let z : ◌≡◌ {A = ℕ} 11 0 = sym (ap (λ (y : Shared). y.number) e) ∙ h in absurd (omega arith)

module _ (spare n : ℕ) (p q : Priority) (i old : ℕ) (r : Shared) (e : r ≡ share_of spare n p i) (k : p ≡ q) where
  shared : r ≡ share_of spare n q i
  shared = rw k at e

  pub share_word : (word : ℕ) → word ≡ packed r.number 0 → word ≡ packed (share_of spare n q i).number 0
  share_word word h = h ∙ ap (λ (y : Shared). packed y.number 0) shared

  pub part_stays : (r.number ≡ 0 → ⊥) → old ≡ part_after spare n q i old
  part_stays h = stays (ltb i n) (share spare n q i) old r shared h

  pub part_comes : r.number ≡ 0 → r.part ≡ part_after spare n q i old
  part_comes h = comes (ltb i n) (share spare n q i) old r shared h
