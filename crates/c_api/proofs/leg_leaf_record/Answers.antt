use borrow.Author.Rules.{rules}
use mathlib.Core.Path.{◌≡◌}
use lib.ListN.{length}
use Rattle.c_encoding.proofs.Record.{record_plain, record_refused, record_short, record_written}
use Rattle.c_api.proofs.leg_leaf_record.Goals as goal
use Rattle.c_api.proofs.leg_leaf_record.Goals.{After-leaf_record-r}

-- the arrays of the record have 512 entries
across_long : (c : After-leaf_record-r) → length c.leaf_record-r.result.horizontal.pieces ≡ 512
across_long c = search rules

down_long : (c : After-leaf_record-r) → length c.leaf_record-r.result.vertical.pieces ≡ 512
down_long c = search rules

pub returns-then-r-ne0 : goal.returns-then-r-ne0
returns-then-r-ne0 c =
    let both = record_refused _ _ _ c.leaf_record-r.ensures _ c.if-r-ne0.true c.pack.ensures in record { value = both.0; shown = both.1 }

pub returns-then-out-lt1039 : goal.returns-then-out-lt1039
returns-then-out-lt1039 c =
    let both = let e = c.leaf_record-r in
    record_short _ _ _ e.ensures c.if-r-ne0.false (across_long (goal.at.returns-then-out-lt1039 c).After-leaf_record-r)
    (down_long (goal.at.returns-then-out-lt1039 c).After-leaf_record-r) _ c.if-out-lt1039.true c.pack-then-out-lt1039.ensures in
    record { value = both.0; shown = both.1 }

pub put_record-requires : goal.put_record-requires
put_record-requires c = let e = c.leaf_record-r in (
  record_plain _ c.if-r-ne0.false (across_long (goal.at.put_record-requires c).After-leaf_record-r)
      (down_long (goal.at.put_record-requires c).After-leaf_record-r) _ _ _ e.ensures,
  c.if-out-lt1039.false,
)

pub returns : goal.returns
returns c =
    let both = let e = c.leaf_record-r in
    record_written _ _ _ e.ensures c.if-r-ne0.false (across_long (goal.at.returns c).After-leaf_record-r) (down_long (goal.at.returns c).After-leaf_record-r)
    _ _
    c.if-out-lt1039.false c.pack-2.ensures c.put_record.ensures in record { value = both.0; shown = both.1 }
