use borrow.Author.Rules.{rules}
use mathlib.Core.Path.{refl, ◌∙◌}
use native.Mathlib.Omega.{arith}
use Rattle.sheet.proofs.Margins.{below_small, bottom_room, right_room}
use Rattle.sheet.proofs.margin_after.Goals as goal

pub overflow_mul-f : goal.overflow_mul-f
overflow_mul-f c = omega (arith, below_small c.requires.0)

pub overflow_add-base : goal.overflow_add-base
overflow_add-base c = omega (arith, below_small c.requires.0, c.requires.1)

pub rows-requires : goal.rows-requires
rows-requires c = bottom_room c.requires.0 (rw c.requires.1) c.from.ensures refl

pub overflow_add-from : goal.overflow_add-from
overflow_add-from c = omega (
  arith,
  c.requires.0.columns_is,
  c.requires.0.apart,
  c.requires.0.room.small,
  c.well_formed,
)

pub rows-requires-2 : goal.rows-requires-2
rows-requires-2 c = right_room c.requires.0
    (rw c.from-2.ensures) refl c.from-3.ensures (search rules)

pub returns : goal.returns
returns c = let l = c.from-2.ensures in
    let r = c.from-3.ensures in
    let b = c.from.ensures in
    c.rows-2.ensures.out_is ∙ rw (c.rows.ensures.out_is, c.requires.1, l, r, b)
