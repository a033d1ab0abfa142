use Rattle.std.proofs.Common.{◌+◌, ◌*◌, get_or, arith, rules}
use Rattle.std.proofs.lemmas.List.Edits.{fill_by_more}
use Rattle.sizes.proofs.lists.numbers_of.Goals as goal

pub loop-n-preserved : goal.loop-n-preserved
loop-n-preserved c = record {
  long = search rules;
  below = fill_by_more (λ i. get_or c.args.list.now (4 * i + c.args.k) 0) c.loop-n.out _ _ (omega arith) c.loop-n.invariant.below;
}
