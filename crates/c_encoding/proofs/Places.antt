-- What the C functions on places answer and write is what the definitions say.
use mathlib.Core.Path.{◌≡◌, ap, ◌∙◌}
use mathlib.Core.Bool.{Bool}
use Prim.Native.Nat.{ℕ, ◌≤◌, ◌<◌}
use native.Mathlib.Omega.{arith}
use mathlib.Core.List.{List}
use lib.ListN.{length}
use lib.Seq.{sets}
use borrow.Author.Tests.{eq-eqb, ne_eqb}
use Rattle.common.specs.Choice.{pick}
use Rattle.places.specs.declared.LeafPlace.{LeafPlace}
use Rattle.places.specs.declared.FoundPlaces.{FoundPlaces}
use Rattle.c_encoding.specs.Words.{packed}
use Rattle.c_encoding.specs.Numbers.{refusal, offered}
use Rattle.c_encoding.specs.Places.{place_numbers, place_given, read_after}
use Rattle.c_encoding.proofs.WrittenNumbers.{Same, same_refusal, same_written, offered_short, offered_long}

module _ (o : List ℕ) (r q : LeafPlace) (e : r ≡ q) where
  pub place_word_refused : (word : ℕ) → (r.number ≡ 0 → ⊥) → word ≡ packed r.number 0 → Same word o (place_given q o)
  unfolding place_given
  place_word_refused word h w = same_refusal r.number (rw (← e) (simp (ne_eqb _ _ h))) w

  module _ (z : r.number ≡ 0) where
    offers : place_given q o ≡ offered 3 (place_numbers r) o
    unfolding place_given
    offers = rw (← e) (ap (λ (b : Bool). pick b (offered 3 (place_numbers r) o) (refusal r.number o)) (eq-eqb _ _ z))

    pub place_short : (word : ℕ) → length o < 3 → word ≡ packed 8 0 → Same word o (place_given q o)
    place_short word k w = same_refusal 8 (offers ∙ offered_short 3 _ o (omega arith)) w

    pub place_written : (word : ℕ) (p : List ℕ) → 3 ≤ length o → word ≡ packed 0 3 → p ≡ sets o 0 (place_numbers r) → Same word p (place_given q o)
    place_written word p k w x = same_written 3 (place_numbers r) o p (offers ∙ offered_long 3 _ o (omega arith)) (omega arith) w x

-- ---- the elements read

module _ (r q : FoundPlaces) (e : r ≡ q) (old : ℕ) where
  pub read_stays : (r.number ≡ 0 → ⊥) → old ≡ read_after q old
  read_stays h = rw (← e, ne_eqb _ _ h)

  pub read_comes : r.number ≡ 0 → r.steps ≡ read_after q old
  read_comes h = rw (← e, eq-eqb _ _ h)
