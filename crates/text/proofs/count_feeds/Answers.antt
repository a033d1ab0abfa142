use Rattle.std.proofs.Common.{◌≡◌, rules}
use Rattle.text.specs.Clauses.{none_seen}
use Rattle.text.proofs.SeenParts.{reached_none, passed_reached, counted}
use Rattle.text.proofs.count_feeds.Goals as goal

pub loop-i-init : goal.loop-i-init
loop-i-init c = let d : c.default-r.result ≡ none_seen = search rules in
    (c.past_plain-i.ensures.0, passed_reached _ _ _ c.past_plain-i.ensures.1 _ (rw d (reached_none _)))

pub loop-i-preserved : goal.loop-i-preserved
loop-i-preserved c = (c.past_plain-i-in-loop-i.ensures.0, passed_reached _ _ _ c.past_plain-i-in-loop-i.ensures.1 _ c.in_words-r.ensures)

pub returns : goal.returns
returns c = counted _ _ c.in_bytes-r.ensures _ (rw (← c.saturating_sub.ensures) c.max.ensures)
