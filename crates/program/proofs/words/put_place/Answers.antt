use Rattle.program.proofs.FaultText.{no_place, place_put}
use Rattle.program.proofs.words.put_place.Goals as goal

pub returns-then-line-eq0 : goal.returns-then-line-eq0
returns-then-line-eq0 c = let both = no_place _ _ _ c.if-line-eq0.true in record { wrote = both.0; few = both.1 }

pub returns : goal.returns
returns c =
    let both =
    place_put _ _ c.if-line-eq0.false _ _ _ _ _ _ _ _ _ _ _
    c.copy-first.ensures c.put_digits-second.ensures.wrote c.copy-third.ensures
    c.put_digits-fourth.ensures.wrote c.copy.ensures in
    record { wrote = both.0; few = both.1 }
