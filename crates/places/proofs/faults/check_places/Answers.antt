use mathlib.Core.Path.{refl, sym, ◌∙◌}
use Rattle.std.proofs.lemmas.Result.{err_from_is_err_and}
use Rattle.sheet.proofs.Refusals.{refused_some}
use Rattle.places.proofs.PlaceLists.{first_bad, first_good, first_end}
use Rattle.places.proofs.faults.check_places.Goals as goal

pub loop-place-init : goal.loop-place-init
loop-place-init c = λ s t x. refl

pub returns-in_err-check_place : goal.returns-in_err-check_place
returns-in_err-check_place c = λ s t x. let k = c.loop-place in
    let p = err_from_is_err_and c.from_residual.result c.from_residual.ensures.1 in
    rw (p.1, p.2)
    (sym (k.invariant s t x ∙ first_bad s t _ k.place-index _ _ _ c.loop-place-test.true c.line_of.ensures c.column_of.ensures
    (c.in_err-check_place.ensures s t x) (refused_some _)))

pub loop-place-preserved : goal.loop-place-preserved
loop-place-preserved c = λ s t x. let k = c.loop-place in
    k.invariant s t x ∙ first_good s t _ k.place-index _ _ _ c.loop-place-test.true c.line_of.ensures c.column_of.ensures
    (c.in_ok-check_place.ensures s t x) refl

pub returns : goal.returns
returns c = λ s t x. let k = c.loop-place in sym (k.invariant s t x ∙ first_end s t _ k.place-index c.loop-place-test.false)
