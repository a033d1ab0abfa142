use native.Mathlib.Omega.{arith}
use Rattle.std.proofs.lemmas.Grind.{common_steps}
use Rattle.typed.proofs.Texts.{counted_none, counted_on, counted_stop, counted_open, counted_all}
use Rattle.common.specs.Refusals.{refusal_of}
use Rattle.typed.proofs.typed_text.check_text.Goals as goal

pub loop-i-init : goal.loop-i-init
loop-i-init c = counted_none _

pub returns-in_err-put-clause-value : goal.returns-in_err-put-clause-value
returns-in_err-put-clause-value c =
    let k = counted_stop _ _ _ _ c.loop-i.invariant c.loop-i-test.true in
    grind (arith, common_steps, k)

pub loop-i-preserved : goal.loop-i-preserved
loop-i-preserved c = rw (c.from-n.ensures, c.is_some.ensures)
    (counted_on _ _ _ _ c.loop-i.invariant c.loop-i-test.true c.in_ok-put.put _ (grind (arith, common_steps)) c.is_none-escaped.ensures)

pub returns-then-escaped-clause-value : goal.returns-then-escaped-clause-value
unfolding refusal_of
returns-then-escaped-clause-value c = counted_open _ _ _ _ c.loop-i.invariant (omega arith) c.if-escaped.true

pub returns-clause-value : goal.returns-clause-value
returns-clause-value c = counted_all _ _ _ _ c.loop-i.invariant (omega arith) c.if-escaped.false
