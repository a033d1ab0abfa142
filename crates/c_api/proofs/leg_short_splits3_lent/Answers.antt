use borrow.Author.Rules.{rules}
use mathlib.Core.Path.{◌≡◌}
use native.Mathlib.Omega.{arith}
use lib.ListN.{length, take}
use Rattle.c_encoding.proofs.Counts.{list_few, kept_few}
use Rattle.c_encoding.proofs.Split.{two_refusal, not_refused, lent_refused, lent_written}
use Rattle.c_api.proofs.leg_short_splits3_lent.Goals as goal
use Rattle.c_api.proofs.leg_short_splits3_lent.Goals.{After-cut_here-kept}

-- the arrays of the cut have 512 entries
taken_long : (c : After-cut_here-kept) → length c.cut_here-kept.result.answer.taken.pieces ≡ 512
taken_long c = search rules

left_long : (c : After-cut_here-kept) → length c.cut_here-kept.result.list.pieces ≡ 512
left_long c = search rules

list_long : (c : After-cut_here-kept) → length c.list_at-list.result.pieces ≡ 512
list_long c = search rules

pub returns-then-number-ne0 : goal.returns-then-number-ne0
returns-then-number-ne0 c =
    let both = let a = c.args in
    two_refusal _ (lent_refused _ _ a.w _ _ c.refused_by-number.ensures c.if-number-ne0.true) c.pack.ensures in
    record { value = both.0; left = both.1.0; shown = both.1.1 }

pub list_at-list-requires : goal.list_at-list-requires
list_at-list-requires c = let h = not_refused _ _ _ _ c.refused_by-number.ensures c.if-number-ne0.false in (omega arith, omega arith)

pub put_kept-requires : goal.put_kept-requires
put_kept-requires c = let a = c.args in
    let few = kept_few _ _ _ c.cut_here-kept.ensures
    (list_few _ (take a.count a.pieces.now) c.list_at-list.ensures (list_long (goal.at.put_kept-requires c).After-cut_here-kept))
    (taken_long (goal.at.put_kept-requires c).After-cut_here-kept) (left_long (goal.at.put_kept-requires c).After-cut_here-kept) in (
      few.0,
      few.1,
      few.2,
      (not_refused _ _ _ _ c.refused_by-number.ensures
          c.if-number-ne0.false).fits,
    )

pub returns : goal.returns
returns c =
    let both = lent_written _ _ _ _ _
    c.refused_by-number.ensures
    c.if-number-ne0.false _
    c.list_at-list.ensures _ c.cut_here-kept.ensures _ _ _ (taken_long (goal.at.returns c).After-cut_here-kept) c.pack-2.ensures
    c.put_left.ensures c.put_kept.ensures in record { value = both.0; left = both.1.0; shown = both.1.1 }
