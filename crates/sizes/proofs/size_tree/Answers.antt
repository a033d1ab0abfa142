use Rattle.sizes.proofs.WholeTree.{allot_ready}
use Rattle.sizes.proofs.size_tree.Goals as goal

pub returns : goal.returns
returns c = λ q. c.allot_tree.ensures (allot_ready _ _ q _ _ _ (c.collect_tree.ensures q))
