use Rattle.std.proofs.Common.{◌≡◌, ◌∙◌, ◌+◌, ap, arith, length, take}
use Rattle.std.proofs.Math.Seq.{length-take-le}
use lib.Seq.{sets-eq}
use Rattle.collector.specs.declared.Sizing.{Sizing}
use Rattle.collector.proofs.Recorded.{outcome, outcome_is}
use Rattle.collector.proofs.collect_sizes.Goals as goal

pub returns : goal.returns
returns c =
    let p = c.plan_sizes-p.result in
    let l = c.args.list.now in
    let n = p.answer.count in
    let fits = c.plan_sizes-p.ensures.fits in
    let long : length (take n p.records) ≡ n = length-take-le n p.records (omega (arith, fits.few)) in
    let none : 0 + n ≡ n = omega arith in
    rw (c.copy.ensures.out_is, sets-eq (take n p.records) l 0 (omega (arith, fits.short)), long, none)
    (ap (λ (p : Sizing). outcome p l) c.plan_sizes-p.ensures.value ∙ outcome_is _ l)
