use native.Mathlib.Omega.{arith}
use lib.ListN.{length-set}
use Rattle.walk.proofs.steps.give_back.Goals as goal

pub bounds-beside-last : goal.bounds-beside-last
bounds-beside-last c = let a = c.args in omega (arith, length-set a.beside.now 0 a.p.other)
