-- What the C function that folds writes is what the definition says.
use mathlib.Core.Path.{◌≡◌}
use Prim.Native.Nat.{ℕ}
use mathlib.Core.List.{List}
use borrow.Author.Tests.{eq-eqb, ne_eqb}
use Rattle.fold.specs.declared.Folded.{Folded}
use Rattle.c_encoding.specs.Folds.{found_numbers, found_after}

module _ (r q : Folded) (e : r ≡ q) (old : List ℕ) where
  pub found_stays : (r.number ≡ 0 → ⊥) → old ≡ found_after q old
  found_stays h = rw (← e, ne_eqb _ _ h)

  pub found_comes : r.number ≡ 0 → found_numbers r ≡ found_after q old
  found_comes h = rw (← e, eq-eqb _ _ h)
