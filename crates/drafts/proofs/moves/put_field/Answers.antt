use Rattle.drafts.proofs.MovedBytes.{field_put}
use Rattle.drafts.proofs.moves.put_field.Goals as goal

pub returns : goal.returns
returns c = field_put _ c.args.t.now _ _ _ _ c.requires.0 c.requires.1 c.put_front.ensures c.copy.ensures.out_is
