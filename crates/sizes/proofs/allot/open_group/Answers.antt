use mathlib.Core.Path.{◌≡◌}
use lib.ListN.{length}
use Rattle.sizes.proofs.Allotted.{open_asks, natural_asks, spare_fits, group_opened}
use borrow.Author.Rules.{rules}
use Rattle.sizes.proofs.allot.open_group.Goals as goal

pub natural_at-natural-requires : goal.natural_at-natural-requires
natural_at-natural-requires c = let long : length c.args.list.now ≡ 2048 = search rules in
    natural_asks _ _ _ _ _ _ c.requires long

pub store_allotted-requires : goal.store_allotted-requires
store_allotted-requires c = open_asks _ _ _ _ _ _ c.requires

pub overflow_sub-spare : goal.overflow_sub-spare
overflow_sub-spare c = rw (
  c.along-2.ensures,
  c.along.ensures,
  c.natural_at-natural.ensures.value,
) (spare_fits _ _ _ _ _ _ c.requires)

pub returns : goal.returns
returns c = record {
  value = λ q. group_opened _ _ _ _ _ _ q _ _ _ (rw (c.along-2.ensures, c.along.ensures, c.natural_at-natural.ensures.value))
      (c.count_sharers.ensures (record { trees = q.trees; are = q.are })) c.priority.ensures;
  stored = c.store_allotted.ensures;
}
