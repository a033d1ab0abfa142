use borrow.Author.Rules.{rules}
use mathlib.Core.Path.{refl, ◌∙◌}
use native.Mathlib.Omega.{arith}
use Rattle.sheet.proofs.Margins.{margin_left_room, margin_top_room}
use Rattle.sheet.proofs.margin_before.Goals as goal

pub rows-requires : goal.rows-requires
rows-requires c = margin_left_room c.requires refl c.from-left.ensures refl

pub rows-requires-2 : goal.rows-requires-2
rows-requires-2 c = margin_top_room c.requires (omega (arith, c.requires.columns_is, c.from-left.ensures))
    c.from.ensures (search rules)

pub returns : goal.returns
returns c = let l = c.from-left.ensures in
    let t = c.from.ensures in
    record {
      end_is = c.rows-2.ensures.end_is ∙ rw (l, t);
      out_is = c.rows-2.ensures.out_is ∙ rw (c.rows.ensures.out_is, l, t);
    }
