use native.Mathlib.Omega.{arith}
use Rattle.typed.proofs.Texts.{text_left_all, left_room, left_put, left_escape, left_wrong, text_left_none}
use Rattle.typed.proofs.typed_text.write_text.Goals as goal
use Rattle.typed.proofs.typed_text.write_text.Goals.{in-Ok-Some, in-Ok-None, in-Err}

pub loop-b-init : goal.loop-b-init
loop-b-init c = text_left_all _ _ _ c.requires

pub bounds-out-p : goal.bounds-out-p
bounds-out-p c = left_room _ _ _ _ _ _ _ c.loop-b.invariant c.loop-b-test.true c.in-Ok-Some.c (rw c.in-Ok-Some.field-0-is at c.in-Ok-Some.ensures)

pub loop-b-preserved : goal.loop-b-preserved
loop-b-preserved c = elim c.match-byte_of.branch [
  | in-Ok-Some w ↦ rw (w.out-is, w.escaped-is, w.p-is, w.in-Ok-Some.c-is)
      (left_put _ _ _ _ _ _ _ c.loop-b.invariant c.loop-b-test.true _ (rw w.in-Ok-Some.field-0-is at w.in-Ok-Some.ensures))
  | in-Ok-None w ↦ rw (w.out-is, w.escaped-is, w.p-is)
      (left_escape _ _ _ _ _ _ _ c.loop-b.invariant c.loop-b-test.true (rw w.in-Ok-None.field-0-is at w.in-Ok-None.ensures))
  | in-Err w ↦ absurd (left_wrong _ _ _ _ _ _ _ c.loop-b.invariant c.loop-b-test.true _ w.in-Err.ensures)
]

pub returns : goal.returns
returns c = text_left_none _ _ _ _ _ _ _ c.loop-b.invariant (omega arith)
