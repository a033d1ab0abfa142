use mathlib.Core.Path.{refl, sym, ◌∙◌}
use native.Mathlib.Omega.{arith}
use native.Mathlib.Numerals.{add-one}
use Rattle.places.proofs.LeafAnswers.{answer_more, answers_end}
use Rattle.places.proofs.area.answer_places.Goals as goal

pub loop-i-init : goal.loop-i-init
loop-i-init c = refl

pub answer_place-requires : goal.answer_place-requires
answer_place-requires c = c.requires.0

pub loop-i-preserved : goal.loop-i-preserved
loop-i-preserved c = let k = c.loop-i in
    let a = c.args in
    k.invariant
    ∙ sym (rw (add-one k.i)
    (answer_more a.a a.places.now k.answers k.i c.answer_place.result (omega arith) (omega arith) c.answer_place.ensures))

pub returns : goal.returns
returns c = let k = c.loop-i in
    let a = c.args in
    answers_end a.a a.places.now a.answers.now k.answers k.i (omega arith) (omega (arith, c.requires.1)) k.invariant
