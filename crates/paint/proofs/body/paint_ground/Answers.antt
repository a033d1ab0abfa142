use Rattle.paint.proofs.Ground.{turned_blank, turned_padded}
use Rattle.paint.proofs.body.paint_ground.Goals as goal

pub returns-then-not-is_blank : goal.returns-then-not-is_blank
returns-then-not-is_blank c = let a = c.args in
    turned_padded a.s a.plan a.n _ _ _ _ _ _ c.requires.right_value.0 c.requires.right_value.2 c.requires.right_value.1 c.paint_padded.ensures

pub returns-else-not-is_blank : goal.returns-else-not-is_blank
returns-else-not-is_blank c = let a = c.args in
    turned_blank a.s a.plan a.n _ _ _ _ _ (c.is_blank.ensures c.if-not-is_blank.false) c.requires.right_value.0 c.requires.right_value.2
