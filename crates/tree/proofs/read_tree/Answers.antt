use Rattle.std.proofs.Common.{◌∙◌}
use Rattle.tree.proofs.Numbered.{answer_numbered}
use Rattle.tree.proofs.SameReading.{whole_same}
use Rattle.tree.proofs.read_tree.Goals as goal

pub returns : goal.returns
returns c = c.answer.ensures ∙ rw c.read_whole.ensures (answer_numbered _ _) ∙ whole_same _
