use mathlib.Core.Path.{refl}
use Rattle.paint.proofs.Painted.{lined, bare_room, body_apart, body_room, after_room, block_painted}
use borrow.Author.Rules.{rules}
use Rattle.paint.proofs.paint_block.Goals as goal

pub paint_before-p-requires : goal.paint_before-p-requires
paint_before-p-requires c = record {
  lined = lined c.requires _ c.config_borders-b.ensures.value c.config_borders-b.ensures.fifteen;
  room = bare_room c.requires _ c.config_borders-b.ensures.value c.config_borders-b.ensures.fifteen;
}

pub paint_body-requires : goal.paint_body-requires
paint_body-requires c = record {
  text_len_bound = (c.requires.text_small, c.requires.natural_is, c.requires.fits, body_apart c.requires);
  room = body_room c.requires _ c.config_borders-b.ensures.value c.config_borders-b.ensures.fifteen _ refl _ c.paint_before-p.ensures.at_is (search rules);
}

pub paint_after-requires : goal.paint_after-requires
paint_after-requires c = λ l. after_room c.requires _ c.config_borders-b.ensures.value c.config_borders-b.ensures.fifteen _ refl _ _ _
    c.paint_before-p.ensures l (search rules)

pub returns : goal.returns
returns c = block_painted c.requires _ c.config_borders-b.ensures.value c.config_borders-b.ensures.fifteen _ refl _ _ _ _ _ c.paint_before-p.ensures
    (c.paint_body.ensures.done _ c.paint_before-p.ensures.out_is)
    c.paint_after.ensures
