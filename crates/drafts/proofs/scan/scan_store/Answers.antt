use Rattle.std.proofs.Common.{◌∙◌, arith}
use Rattle.drafts.proofs.Scans.{scanning_none, scan_zero_end, scan_zero, scan_bad, scan_tag, scan_again, scan_found, scan_other}
use Rattle.drafts.proofs.scan.scan_store.Goals as goal
use Rattle.drafts.proofs.scan.scan_store.Goals.{then-b-tag, else-b-tag, then-loop-i-test+else-s-i-ne0, else-loop-i-test}

pub loop-i-init : goal.loop-i-init
loop-i-init c = scanning_none _ _

pub returns-in_err-size : goal.returns-in_err-size
returns-in_err-size c = c.from_residual.ensures ∙ scan_bad _ _ _ _ _ c.loop-i.invariant c.loop-i-test.true c.if-s-i-ne0.true c.in_err-size.ensures.value

pub overflow_sub-k : goal.overflow_sub-k
overflow_sub-k c =
    omega (arith, scan_tag _ _ _ _ _ c.loop-i.invariant c.loop-i-test.true c.if-s-i-ne0.true _ c.in_ok-size.ensures.value)

pub bounds-seen-k : goal.bounds-seen-k
bounds-seen-k c =
    omega (arith, scan_tag _ _ _ _ _ c.loop-i.invariant c.loop-i-test.true c.if-s-i-ne0.true _ c.in_ok-size.ensures.value)

pub returns-then-seen-k : goal.returns-then-seen-k
returns-then-seen-k c =
    scan_again _ _ _ _ _ c.loop-i.invariant c.loop-i-test.true c.if-s-i-ne0.true _ c.in_ok-size.ensures.value (rw c.from-k.ensures at c.if-seen-k.true)

pub bounds-seen-k-in-loop-i : goal.bounds-seen-k-in-loop-i
bounds-seen-k-in-loop-i c =
    omega (arith, scan_tag _ _ _ _ _ c.loop-i.invariant c.loop-i-test.true c.if-s-i-ne0.true _ c.in_ok-size.ensures.value)

pub loop-i-preserved : goal.loop-i-preserved
loop-i-preserved c =
    let s = rw c.from-k.ensures at c.if-seen-k.false in
    elim c.if-b-tag.branch [
      | then-b-tag w ↦ rw (w.spot-is, c.from-k.ensures) (scan_found _ _ _ _ _ c.loop-i.invariant c.loop-i-test.true c.if-s-i-ne0.true
          _ c.in_ok-size.ensures.value s w.if-b-tag.true)
      | else-b-tag w ↦ rw (w.spot-is, c.from-k.ensures) (scan_other _ _ _ _ _ c.loop-i.invariant c.loop-i-test.true c.if-s-i-ne0.true
          _ c.in_ok-size.ensures.value s w.if-b-tag.false)
    ]

pub returns : goal.returns
returns c = c.then_some.ensures ∙ elim c.loop-i-test.branch [
  | then-loop-i-test+else-s-i-ne0 w ↦ scan_zero _ _ _ _ _ c.loop-i.invariant w.loop-i-test.true _ c.all_zero.ensures w.if-s-i-ne0.false
  | else-loop-i-test w ↦ scan_zero_end _ _ _ _ _ c.loop-i.invariant _ c.all_zero.ensures w.loop-i-test.false
]
