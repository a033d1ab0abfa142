use Rattle.std.proofs.Common.{◌-◌, ◌∙◌, ap, arith, length, length-drop, replicate}
use Rattle.std.proofs.Math.Seq.{length-take-le}
use Rattle.drafts.proofs.MovedBytes.{gap_closed}
use Rattle.drafts.proofs.moves.close_gap.Goals as goal

pub returns : goal.returns
returns c =
    let s = c.move_down.new.s in
    gap_closed _ _ _ _ _ c.requires c.move_down.ensures
    (c.fill.ensures.after (λ y e. e) ∙ ap (λ n. replicate n 0) (length-take-le _ _ (omega (arith, length-drop (length s - c.args.field.size) s))))
