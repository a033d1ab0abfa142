use native.Mathlib.Omega.{arith}
use mathlib.Core.Path.{◌≡◌, refl, ◌∙◌}
use Prim.Native.Nat.{◌+◌}
use mathlib.Core.Bool.{false}
use Rattle.std.specs.Prelude.{Ok, Err, is_ok}
use Rattle.std.proofs.lemmas.Grind.{common_steps}
use Rattle.common.specs.Refusals.{refusal_of}
use Rattle.typed.specs.declared.typed_text.Misread.{Misread}
use Rattle.text.proofs.Lines.{line_from, line_in}
use Rattle.typed.proofs.Scanned.{spot_small, line_small, stop_of, reading_none, reading_stop, reading_room, reading_next, reading_same, reading_empty}
use Rattle.typed.proofs.Scanned.{reading_all}
use Rattle.typed.proofs.scan.scan.Goals as goal
use Rattle.typed.proofs.scan.scan.Goals.{in-Some, in_default}

pub loop-from-init : goal.loop-from-init
loop-from-init c = reading_none _ _ c.told-spots

pub next_node-requires : goal.next_node-requires
next_node-requires c = (
  record { count = c.loop-from.invariant.count; total = c.loop-from.invariant.total },
  line_small _ c.requires _ _ _ _ c.loop-from.invariant c.loop-from-test.true _ c.next_feed-end.ensures,
)

pub overflow_add-line : goal.overflow_add-line
overflow_add-line c = omega (arith, c.loop-from.invariant.few)

pub slice_bounds-next_node-count : goal.slice_bounds-next_node-count
slice_bounds-next_node-count c = line_from _ _ c.loop-from-test.true _ c.next_feed-end.ensures

pub slice_bounds-next_node-end : goal.slice_bounds-next_node-end
slice_bounds-next_node-end c = line_in _ _ c.loop-from-test.true _ c.next_feed-end.ensures

pub returns-then-z-eq0 : goal.returns-then-z-eq0
unfolding refusal_of
returns-then-z-eq0 c = reading_empty _ _ _ _ _ c.loop-from.invariant c.loop-from-test.false c.if-z-eq0.true

pub returns : goal.returns
returns c = reading_all _ _ _ _ _ c.loop-from.invariant c.loop-from-test.false c.if-z-eq0.false

pub returns-in_err-next : goal.returns-in_err-next
returns-in_err-next c =
    let r = c.next_node.result in
    let k : (f : Misread) → r ≡ Err f
    → stop_of (c.loop-from.line + 1) r ≡ Err (record { refusal = f.refusal; line = c.loop-from.line + 1; column = f.column }) =
    λ f e. rw e refl in
    let w : is_ok r ≡ false = grind (arith, common_steps) in
    let q : c.from_residual.result ≡ stop_of (c.loop-from.line + 1) r = grind (arith, common_steps, k) in
    rw q (reading_stop _ c.requires _ _ _ _ c.loop-from.invariant c.loop-from-test.true _ c.next_feed-end.ensures _ c.next_node.ensures w _)

pub bounds-spots-z : goal.bounds-spots-z
bounds-spots-z c =
    let q : c.next_node.result ≡ Ok c.in_ok-next.next = grind (arith, common_steps) in
    reading_room _ c.requires _ _ _ _ c.loop-from.invariant c.loop-from-test.true _ c.next_feed-end.ensures _
    (rw (q, c.in-Some.is) at c.next_node.ensures)

pub with-z-requires : goal.with-z-requires
with-z-requires c =
    let q : c.next_node.result ≡ Ok c.in_ok-next.next = grind (arith, common_steps) in
    let w = spot_small _ _ _ (rw (q, c.in-Some.is) at c.next_node.ensures) in
    let m = line_small _ c.requires _ _ _ _ c.loop-from.invariant c.loop-from-test.true _ c.next_feed-end.ensures in (
      record { count = c.loop-from.invariant.count; total = c.loop-from.invariant.total },
      omega (arith, w.level, m),
      omega (arith, w.len, m),
    )

pub loop-from-preserved : goal.loop-from-preserved
loop-from-preserved c =
    let q : c.next_node.result ≡ Ok c.in_ok-next.next = grind (arith, common_steps) in
    elim c.match-next.branch [
      | in-Some w ↦ reading_next _ c.requires _ _ _ _ c.loop-from.invariant c.loop-from-test.true _ c.next_feed-end.ensures _
          (rw (q, w.in-Some.is) at c.next_node.ensures) _ _ _ w.spots-is w.spot_in.ensures (w.z-is ∙ w.with-z.ensures)
      | in_default w ↦ reading_same _ c.requires _ _ _ _ c.loop-from.invariant c.loop-from-test.true _ c.next_feed-end.ensures
          _ _ w.spots-is w.z-is (rw (q, w.in_default.is) at c.next_node.ensures)
    ]
