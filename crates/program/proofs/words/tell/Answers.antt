use native.Mathlib.Omega.{arith}
use mathlib.Core.Path.{◌∙◌}
use lib.ListN.{length-set}
use Rattle.program.proofs.FaultText.{fault_put}
use Rattle.program.proofs.words.tell.Goals as goal

pub shape_of-out : goal.shape_of-out
shape_of-out c = length-set c.copy-end.new.out c.copy-end.result 10 ∙ c.copy-end.auto.out
    ∙ c.put_place-at.auto.out

pub returns : goal.returns
returns c =
    let a = c.put_place-at.ensures in
    let b = rw c.fault_words.ensures.words at c.copy-end.ensures in
    record { wrote = fault_put _ _ _ _ _ _ _ _ a.wrote b; few = omega (arith, a.few, c.fault_words.ensures.few, c.copy-end.ensures.end_is) }
