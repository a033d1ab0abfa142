use Rattle.std.proofs.Common.{◌≡◌, drop}
use Rattle.drafts.specs.Store.{all_zero}
use Rattle.drafts.proofs.scan.all_zero.Given as goal

abbrev pub invariant-loop-b : goal.invariant-loop-b
invariant-loop-b l = all_zero l.s ≡ all_zero (drop l.b-index l.s)
