use Rattle.std.proofs.Common.{◌∙◌}
use Rattle.text.proofs.FirstFeed.{passed_onward, onward_rest}
use Rattle.text.proofs.next_feed.Goals as goal

pub returns : goal.returns
returns c = c.next_feed_near.ensures ∙ onward_rest _ _ _ (passed_onward _ _ _ c.past_plain.ensures.1)
