-- What the C functions on places answer and write (include/leg_sheet.h).
use Rattle.std.specs.Prelude.{ℕ, List, [], ◌∷◌, eqb}
use Rattle.common.specs.Choice.{pick}
use Rattle.common.specs.Outcome.{Outcome}
use Rattle.places.specs.declared.LeafPlace.{LeafPlace}
use Rattle.places.specs.declared.FoundPlaces.{FoundPlaces}
use Rattle.c_encoding.specs.Numbers.{refusal, offered}

-- the leaf's node, the line and the column inside its block
abbrev pub place_numbers : LeafPlace → List ℕ
place_numbers p = p.node ∷ p.line ∷ p.column ∷ []

unfoldable pub place_given : LeafPlace → List ℕ → Outcome ℕ (List ℕ)
unfolding refusal offered
place_given p o = pick (eqb p.number 0) (offered 3 (place_numbers p) o) (refusal p.number o)

-- the number lent for the elements read; after a refusal it stays
abbrev pub read_after : FoundPlaces → ℕ → ℕ
read_after r old = pick (eqb r.number 0) r.steps old
