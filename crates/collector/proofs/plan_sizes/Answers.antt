use mathlib.Core.Path.{◌∙◌}
use Prim.Native.Nat.{ℕ}
use native.Mathlib.Omega.{arith}
use lib.ListN.{length-replicate}
use Rattle.collector.proofs.Recorded.{plan_fits, plan_refused, few_measured, branch_ready, plan_short, plan_made}
use Rattle.collector.proofs.plan_sizes.Goals as goal

pub returns-then-m-ne0 : goal.returns-then-m-ne0
returns-then-m-ne0 c =
    let e = c.refused_plan.ensures ∙ plan_refused _ _ _ _ _ c.measure_tree-m.ensures.value c.measure_tree-m.ensures.list _ c.if-m-ne0.true in
    record { value = e; fits = rw e (plan_fits _ _ _) }

pub returns-then-len-m : goal.returns-then-len-m
returns-then-len-m c =
    let e = c.refused_plan-then-len-m.ensures
    ∙ plan_short _ _ _ _ _ c.measure_tree-m.ensures.value c.measure_tree-m.ensures.list c.if-m-ne0.false _ (omega arith) in
    record { value = e; fits = rw e (plan_fits _ _ _) }

pub count_below-below-requires : goal.count_below-below-requires
count_below-below-requires c = branch_ready _ _ _ _ _ c.measure_tree-m.ensures.value c.measure_tree-m.ensures.list c.if-m-ne0.false

pub records_of-requires : goal.records_of-requires
records_of-requires c = few_measured _ _ _ _ _ c.measure_tree-m.ensures.value c.measure_tree-m.ensures.list c.if-m-ne0.false

pub returns : goal.returns
returns c =
    let h = c.if-m-ne0.false in
    let m = c.measure_tree-m.ensures in
    let e = plan_made _ _ _ _ _ m.value m.list h _ (omega (arith, c.if-len-m.false)) (length-replicate {A = ℕ} 2048 0) _
    (c.count_below-below.ensures (branch_ready _ _ _ _ _ m.value m.list h)) _ c.records_of.ensures in
    record { value = e; fits = rw e (plan_fits _ _ _) }
