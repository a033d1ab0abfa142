use mathlib.Core.Path.{refl, sym, ◌∙◌}
use Prim.Native.Nat.{◌+◌}
use native.Mathlib.Omega.{arith}
use borrow.Author.Tests.{eqb-true}
use Rattle.text.specs.Text.{lines}
use Rattle.text.proofs.Lines.{lines_from, rest_next, line_in}
use Rattle.text.proofs.Measured.{lines_width, lines_height}
use Rattle.block.specs.Block.{indent}
use Rattle.paint.proofs.Ground.{more_from, last_end, still_start, still_step, still_room, line_over}
use Rattle.paint.proofs.text_lines.text_lines.Goals as goal

pub loop-after-init : goal.loop-after-init
unfolding lines_from
loop-after-init c = let a = c.args in
    let t = a.text.now in (
      lines_height t ∙ sym c.requires.text_len_bound.1,
      rw c.requires.text_len_bound.2 (lines_width t),
      still_start _ _ (lines t) _ _ _ _ _ (lines_height t) c.requires.room,
    )

pub end_of_line-end-requires : goal.end_of_line-end-requires
end_of_line-end-requires c = let t = c.args.text.now in
    let k = c.loop-after in
    let here = more_from t k.from _ k.invariant.0 (omega arith) in
    (here, λ e. let none = eqb-true _ _ e in last_end t k.from here (omega arith) _ refl)

pub slice_bounds-text_line-end : goal.slice_bounds-text_line-end
slice_bounds-text_line-end c = let k = c.loop-after in
    line_in _ _ (more_from _ k.from _ k.invariant.0 (omega arith)) _ c.end_of_line-end.ensures

pub text_line-requires : goal.text_line-requires
text_line-requires c = let t = c.args.text.now in
    let k = c.loop-after in
    let next = rest_next t k.from (more_from t k.from _ k.invariant.0 (omega arith)) c.end_of_line-end.result
    c.end_of_line-end.ensures in
    ((rw next at k.invariant.1).0, c.requires.text_len_bound.3, omega (arith, still_room (rw next at k.invariant.2)))

pub overflow_add-from : goal.overflow_add-from
overflow_add-from c = let k = c.loop-after in
    omega (arith, line_in _ _ (more_from _ k.from _ k.invariant.0 (omega arith)) _ c.end_of_line-end.ensures)

pub loop-after-preserved : goal.loop-after-preserved
loop-after-preserved c = let a = c.args in
    let k = c.loop-after in
    let next = rest_next a.text.now k.from (more_from a.text.now k.from _ k.invariant.0 (omega arith)) c.end_of_line-end.result
    c.end_of_line-end.ensures in
    let fewer = rw next at k.invariant.0 in (
      omega (arith, fewer),
      (rw next at k.invariant.1).1,
      rw c.text_line.ensures.out_after
          (still_step (rw next at k.invariant.2) (k.p + (a.s.left + indent a.s a.inner a.widest _)) (omega (arith, c.text_line.ensures.within))
          (λ b. line_over a.s a.inner a.widest _ b k.p c.text_line.ensures.within)),
    )
