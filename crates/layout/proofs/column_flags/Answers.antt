use mathlib.Core.Path.{◌≡◌}
use Prim.Native.Nat.{◌+◌, ◌-◌, ◌/◌, ◌%◌}
use Rattle.common.specs.Choice.{pick}
use Rattle.layout.proofs.Digits.{column_number}
use Rattle.layout.proofs.column_flags.Goals as goal
use Rattle.layout.proofs.column_flags.Goals.{then-last, else-last, then-old, else-old, then-first, else-first}

pub returns : goal.returns
returns c = let a = c.args in
    let bottom : c.if-last.bottom ≡ pick a.last (a.f / 2 % 2) 0 = elim c.if-last.branch [
      | then-last w ↦ rw (w.bottom-is, w.if-last.true)
      | else-last w ↦ rw (w.bottom-is, w.if-last.false)
    ] in
    let met : c.if-old.met ≡ pick a.old 128 0 = elim c.if-old.branch [
      | then-old w ↦ rw (w.met-is, w.if-old.true)
      | else-old w ↦ rw (w.met-is, w.if-old.false)
    ] in
    let tops : c.if-first.tops ≡ pick a.first (a.f % 2 + (a.f - a.f % 32)) (64 + c.if-old.met) = elim c.if-first.branch [
      | then-first w ↦ rw (w.tops-is, w.if-first.true)
      | else-first w ↦ rw (w.tops-is, w.if-first.false)
    ] in
    λ flags e. rw (tops, met, bottom) (column_number flags _ e _ _ _)
