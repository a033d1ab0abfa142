-- What the planning C function answers and writes (include/leg_sheet.h).
use Rattle.std.specs.Prelude.{ℕ, List, [], ◌∷◌, eqb}
use Rattle.common.specs.Choice.{pick}
use Rattle.plan.specs.declared.Planned.{Planned}
use Rattle.c_encoding.specs.Words.{packed}

-- least W, greatest W, least H, greatest H
abbrev pub ends_numbers : Planned → List ℕ
ends_numbers r = r.least_width ∷ r.greatest_width ∷ r.least_height ∷ r.greatest_height ∷ []

-- the word counts them; after a refusal 0
abbrev pub ends_word : Planned → ℕ
ends_word r = pick (eqb r.number 0) (packed 0 4) (packed r.number 0)

-- the four numbers lent for them; after a refusal they stay
abbrev pub ends_after : Planned → List ℕ → List ℕ
ends_after r old = pick (eqb r.number 0) (ends_numbers r) old
