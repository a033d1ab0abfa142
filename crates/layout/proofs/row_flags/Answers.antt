use mathlib.Core.Path.{◌≡◌}
use Prim.Native.Nat.{◌-◌, ◌/◌, ◌%◌}
use Rattle.common.specs.Choice.{pick}
use Rattle.layout.proofs.Digits.{row_number}
use Rattle.layout.proofs.row_flags.Goals as goal
use Rattle.layout.proofs.row_flags.Goals.{then-first, else-first, then-last, else-last, then-old, else-old, then-first-2, else-first-2}

pub returns : goal.returns
returns c = let a = c.args in
    let left : c.if-first.left ≡ pick a.first (a.f / 4 % 2) 0 = elim c.if-first.branch [
      | then-first w ↦ rw (w.left-is, w.if-first.true)
      | else-first w ↦ rw (w.left-is, w.if-first.false)
    ] in
    let right : c.if-last.right ≡ pick a.last (a.f / 8 % 2) 0 = elim c.if-last.branch [
      | then-last w ↦ rw (w.right-is, w.if-last.true)
      | else-last w ↦ rw (w.right-is, w.if-last.false)
    ] in
    let met : c.if-old.met ≡ pick a.old 128 0 = elim c.if-old.branch [
      | then-old w ↦ rw (w.met-is, w.if-old.true)
      | else-old w ↦ rw (w.met-is, w.if-old.false)
    ] in
    let tops : c.if-first-2.tops ≡ pick a.first (a.f - a.f % 64) c.if-old.met = elim c.if-first-2.branch [
      | then-first-2 w ↦ rw (w.tops-is, w.if-first-2.true)
      | else-first-2 w ↦ rw (w.tops-is, w.if-first-2.false)
    ] in
    λ flags e. rw (tops, met, right, left) (row_number flags _ e _ _ _)
