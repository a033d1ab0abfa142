use Rattle.collector.proofs.Branches.{counts_array}
use Rattle.collector.proofs.below.count_below.Goals as goal

pub returns : goal.returns
returns c = λ q. counts_array _ q _ _ (c.count_node.ensures q)
