use Rattle.std.proofs.Common.{arith}
use Rattle.text.proofs.Loads.{eight_marked}
use Rattle.text.proofs.words.feeds_at.Goals as goal

pub returns : goal.returns
returns c = let a = c.args in eight_marked a.s.now a.at _ _ (omega arith) c.load.ensures c.marks.ensures
