use Rattle.drafts.specs.Store.{tag_for}
use Rattle.drafts.proofs.tag_of.Goals as goal

pub returns : goal.returns
unfolding tag_for
returns c = c.saturating_sub.ensures
