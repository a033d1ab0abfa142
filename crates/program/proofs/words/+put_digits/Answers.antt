use Rattle.program.proofs.FaultText.{no_digit, one_digit, more_digits}
use Rattle.program.proofs.words.+put_digits.Goals as goal

pub returns-then-places-eq0-clause-wrote : goal.returns-then-places-eq0-clause-wrote
returns-then-places-eq0-clause-wrote t c = no_digit _ _ _ _ c.if-places-eq0.true

pub returns-then-n-lt10-clause-wrote : goal.returns-then-n-lt10-clause-wrote
returns-then-n-lt10-clause-wrote t c = one_digit _ _ _ _ c.if-places-eq0.false c.if-n-lt10.true

pub returns-clause-wrote : goal.returns-clause-wrote
returns-clause-wrote t c = more_digits _ _ _ _ c.if-places-eq0.false c.if-n-lt10.false _ _ c.put_digits-end.ensures.wrote
