use Rattle.program.proofs.words.+put_digits.Given as goal

-- the places fall
abbrev pub decreases-put_digits : goal.decreases-put_digits
decreases-put_digits l = l.places
