use mathlib.Core.Path.{◌≡◌}
use lib.ListN.{drop}
use Rattle.settings.specs.declared.Settings.{Settings}
use Rattle.tree.specs.Tree.{Tree}
use Rattle.places.specs.Clauses.{Frames}
use Rattle.places.specs.Together.{first_fault}
use Rattle.places.proofs.faults.check_places.Given as goal

abbrev pub invariant-loop-place : goal.invariant-loop-place
invariant-loop-place l = (s : Settings) (t : Tree) → Frames l.m l.f s t → first_fault s t l.places ≡ first_fault s t (drop l.place-index l.places)
