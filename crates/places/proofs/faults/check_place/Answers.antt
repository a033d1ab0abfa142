use mathlib.Core.Path.{◌≡◌, refl, sym, ◌∙◌}
use mathlib.Core.Bool.{Bool, true, false, ◌&&◌}
use mathlib.Core.Logic.{⊎_elim}
use Rattle.common.specs.Choice.{both}
use Rattle.places.specs.Places.{among}
use Rattle.places.proofs.Outside.{line_out, column_out, on_sheet, and_both}
use Rattle.places.proofs.faults.check_place.Goals as goal
use Rattle.places.proofs.faults.check_place.Goals.{After-among-2}

pub returns-then-f-line : goal.returns-then-f-line
returns-then-f-line c = λ s t x.
    sym (⊎_elim (λ h. line_out x _ _ h) (λ h. column_out x _ _ h.0 h.1) c.then-f-line.either)

-- the test of the rectangle inside the margin
inside : (c : After-among-2) → let a = c.args in
    (c.among.result && c.among-2.result) ≡ both (among a.m.top a.f.tall a.line) (among a.m.left a.f.wide a.column)
inside c = and_both c.among.result c.among-2.result ∙ rw (c.among.ensures, c.from.ensures, c.among-2.ensures, c.from-2.ensures)

pub returns-then-inside : goal.returns-then-inside
returns-then-inside c = λ s t x.
    sym (on_sheet x _ _ c.if-f-line.false c.if-f-column.false true
    (sym c.if-inside.true ∙ inside (goal.at.returns-then-inside c).After-among-2))

pub returns-else-inside : goal.returns-else-inside
returns-else-inside c = λ s t x.
    sym (on_sheet x _ _ c.if-f-line.false c.if-f-column.false false
    (sym c.if-inside.false ∙ inside (goal.at.returns-else-inside c).After-among-2))
