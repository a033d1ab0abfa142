use mathlib.Core.Path.{◌≡◌}
use mathlib.Core.List.{◌++◌}
use lib.ListN.{take, drop}
use Rattle.places.specs.Clauses.{answers_at}
use Rattle.places.proofs.area.answer_places.Given as goal

abbrev pub invariant-loop-i : goal.invariant-loop-i
invariant-loop-i l = answers_at l.a l.places l.initial.answers ≡ take l.i l.answers ++ answers_at l.a (drop l.i l.places) (drop l.i l.answers)
