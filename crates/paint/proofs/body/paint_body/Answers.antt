use mathlib.Core.Path.{◌≡◌, refl}
use Prim.Native.Nat.{ℕ, ◌+◌, ◌-◌, ◌*◌, ◌<◌}
use native.Mathlib.Omega.{arith}
use mathlib.Core.List.{List}
use borrow.Author.Rules.{rules}
use Rattle.settings.specs.declared.Settings.{Settings}
use Rattle.text.specs.Text.{text_height}
use Rattle.sizes.specs.declared.Size.{Size}
use Rattle.sizes.specs.Sizes.{leaf_size}
use Rattle.sizes.specs.Clauses.{Fits}
use Rattle.paint.specs.declared.body.BodyRows.{BodyRows}
use Rattle.paint.specs.Clauses.{Room, body_rows_of, ground_lines}
use Rattle.paint.proofs.BodyRows.{natural_wide, natural_tall, BodyFits, body_fits, above_room, text_room}
use Rattle.paint.proofs.Ground.{body_over}
use Rattle.paint.proofs.body.paint_body.Goals as goal

-- what the body requires, and its plan
module _ (s : Settings) (t : List ℕ) (n z : Size) (k : BodyRows) (is : n ≡ leaf_size s t) (fits : Fits n z) (e : k ≡ body_rows_of s n z) (at stride len : ℕ)
    (room : Room at stride z.height z.width len) where
  h : BodyFits s t z k
  h = body_fits s t n z k is fits e

  text_lines : n.height - s.top - s.bottom ≡ text_height t
  text_lines = omega (arith, natural_tall s t n is)

  all_lines : ground_lines s k (n.height - s.top - s.bottom) ≡ z.height
  all_lines = omega (arith, text_lines, h.tall)

  above_small : at + (k.above + s.top) * stride < 18446744073709551616
  above_small = omega (arith, (above_room s t z k h at stride len room).small)

  text_there : {len' : ℕ} → len' ≡ len → Room (at + (k.above + s.top) * stride) stride (text_height t) (s.left + k.inner + s.right) len'
  text_there = text_room s t z k h at stride len room _ refl

pub plan_body-plan-requires : goal.plan_body-plan-requires
plan_body-plan-requires c = (c.requires.text_len_bound.2, natural_wide _ c.args.text.now _ c.requires.text_len_bound.1)

pub overflow_sub-n : goal.overflow_sub-n
overflow_sub-n c = omega (arith, natural_tall _ c.args.text.now _ c.requires.text_len_bound.1)

pub overflow_sub-n-2 : goal.overflow_sub-n-2
overflow_sub-n-2 c = omega (arith, natural_tall _ c.args.text.now _ c.requires.text_len_bound.1)

pub paint_ground-requires : goal.paint_ground-requires
paint_ground-requires c = let a = c.args in
    record {
      right_value = (
        (body_fits a.s a.text.now a.natural a.size _ c.requires.text_len_bound.1 c.requires.text_len_bound.2
            c.plan_body-plan.ensures).wide,
        c.requires.text_len_bound.3,
        all_lines a.s a.text.now a.natural a.size _ c.requires.text_len_bound.1 c.requires.text_len_bound.2 c.plan_body-plan.ensures _ _ _ c.requires.room,
      );
      room = c.requires.room;
    }

pub overflow_add-p : goal.overflow_add-p
overflow_add-p c = let a = c.args in
    let tall = (body_fits a.s a.text.now a.natural a.size _ c.requires.text_len_bound.1 c.requires.text_len_bound.2
    c.plan_body-plan.ensures).tall in
    let size = c.well_formed.1.1.1.1.1.1.0 in
    omega arith

pub overflow_mul-p : goal.overflow_mul-p
overflow_mul-p c = let a = c.args in
    omega (
      arith,
      above_small a.s a.text.now a.natural a.size _ c.requires.text_len_bound.1 c.requires.text_len_bound.2 c.plan_body-plan.ensures _ _ _
          c.requires.room,
    )

pub overflow_add-p-2 : goal.overflow_add-p-2
overflow_add-p-2 c = let a = c.args in
    omega (
      arith,
      above_small a.s a.text.now a.natural a.size _ c.requires.text_len_bound.1 c.requires.text_len_bound.2 c.plan_body-plan.ensures _ _ _
          c.requires.room,
    )

pub text_lines-requires : goal.text_lines-requires
text_lines-requires c = let a = c.args in
    let h = body_fits a.s a.text.now a.natural a.size _ c.requires.text_len_bound.1 c.requires.text_len_bound.2 c.plan_body-plan.ensures in
    let n = text_lines a.s a.text.now a.natural a.size _ c.requires.text_len_bound.1 c.requires.text_len_bound.2 c.plan_body-plan.ensures _ _ _
    c.requires.room in record {
      text_len_bound = (c.requires.text_len_bound.0, n, h.widest_is, h.within, rw h.wide c.requires.text_len_bound.3);
      room = text_there a.s a.text.now a.natural a.size _ c.requires.text_len_bound.1 c.requires.text_len_bound.2 c.plan_body-plan.ensures _ _ _
          c.requires.room (search rules);
    }

pub returns : goal.returns
returns c = let a = c.args in
    let h = body_fits a.s a.text.now a.natural a.size _ c.requires.text_len_bound.1 c.requires.text_len_bound.2 c.plan_body-plan.ensures in
    let n = text_lines a.s a.text.now a.natural a.size _ c.requires.text_len_bound.1 c.requires.text_len_bound.2 c.plan_body-plan.ensures _ _ _
    c.requires.room in
    record {
      done = λ b is. body_over a.s a.text.now a.size _ h b _ _ a.at a.stride (rw n at
          (c.paint_ground.ensures.done b is)) c.text_lines.ensures;
    }
