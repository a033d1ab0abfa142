use Rattle.program.specs.Words.{fault_words}
use Rattle.std.proofs.Common.{sym, arith}
use Rattle.program.proofs.FaultText.{words_left}
use Rattle.program.proofs.words.fault_words.Goals as goal

pub returns-in-30-clause-words : goal.returns-in-30-clause-words
unfolding fault_words
returns-in-30-clause-words c = rw c.in-30.is

pub returns-in-31-clause-words : goal.returns-in-31-clause-words
unfolding fault_words
returns-in-31-clause-words c = rw c.in-31.is

pub returns-in-32-clause-words : goal.returns-in-32-clause-words
unfolding fault_words
returns-in-32-clause-words c = rw c.in-32.is

pub returns-in-33-clause-words : goal.returns-in-33-clause-words
unfolding fault_words
returns-in-33-clause-words c = rw c.in-33.is

pub returns-in-34-clause-words : goal.returns-in-34-clause-words
unfolding fault_words
returns-in-34-clause-words c = rw c.in-34.is

pub returns-in-35-clause-words : goal.returns-in-35-clause-words
unfolding fault_words
returns-in-35-clause-words c = rw c.in-35.is

pub returns-in-36-clause-words : goal.returns-in-36-clause-words
unfolding fault_words
returns-in-36-clause-words c = rw c.in-36.is

pub returns-in-37-clause-words : goal.returns-in-37-clause-words
unfolding fault_words
returns-in-37-clause-words c = rw c.in-37.is

pub returns-in-38-clause-words : goal.returns-in-38-clause-words
unfolding fault_words
returns-in-38-clause-words c = rw c.in-38.is

pub returns-in-39-clause-words : goal.returns-in-39-clause-words
unfolding fault_words
returns-in-39-clause-words c = rw c.in-39.is

pub returns-in_default-clause-words : goal.returns-in_default-clause-words
returns-in_default-clause-words c = sym (words_left _ (λ i b e. omega arith))
