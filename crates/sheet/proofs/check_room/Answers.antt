use mathlib.Core.Path.{sym, ◌∙◌}
use Rattle.sheet.proofs.Refusals.{refusal_large, refusal_short, refusal_none}
use Rattle.sheet.proofs.check_room.Goals as goal

pub returns-then-is_large : goal.returns-then-is_large
returns-then-is_large c = sym (refusal_large _ _ (sym c.is_large.ensures ∙ c.if-is_large.true))

pub returns-then-len-f : goal.returns-then-len-f
returns-then-len-f c = sym (refusal_short _ _ (sym c.is_large.ensures ∙ c.if-is_large.false) c.if-len-f.true)

pub returns : goal.returns
returns c = sym (refusal_none _ _ (sym c.is_large.ensures ∙ c.if-is_large.false) c.if-len-f.false)
