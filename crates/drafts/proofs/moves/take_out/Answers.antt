use Rattle.drafts.proofs.MovedBytes.{nothing_out, part_out}
use Rattle.drafts.proofs.moves.take_out.Goals as goal

pub returns-then-field-eq0 : goal.returns-then-field-eq0
returns-then-field-eq0 c = nothing_out _ c.args.field.at _ c.if-field-eq0.true

pub returns : goal.returns
returns c = part_out _ _ _ _ _ c.requires.0 c.requires.1 c.requires.2 c.close_gap.ensures
