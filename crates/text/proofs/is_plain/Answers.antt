use Rattle.text.proofs.SeenParts.{plain_four}
use Rattle.text.proofs.is_plain.Goals as goal

pub returns : goal.returns
returns c = λ e. let a = c.args in
    plain_four a.s.now a.at _ _ _ _ c.hint_at.ensures c.hint_at-2.ensures c.hint_at-3.ensures
    c.hint_at-4.ensures e
