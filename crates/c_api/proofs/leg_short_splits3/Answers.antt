use borrow.Author.Rules.{rules}
use mathlib.Core.Path.{◌≡◌}
use native.Mathlib.Omega.{arith}
use lib.ListN.{length}
use Rattle.c_encoding.proofs.WrittenNumbers.{same_refusal}
use Rattle.c_encoding.proofs.Counts.{cut_few}
use Rattle.c_encoding.proofs.Split.{not_refused, splits3_refused, splits3_written}
use Rattle.c_api.proofs.leg_short_splits3.Goals as goal
use Rattle.c_api.proofs.leg_short_splits3.Goals.{After-short_splits3-cut}

-- the arrays of the cut have 512 entries
taken_long : (c : After-short_splits3-cut) → length c.short_splits3-cut.result.taken.pieces ≡ 512
taken_long c = search rules

left_long : (c : After-short_splits3-cut) → length c.short_splits3-cut.result.left.pieces ≡ 512
left_long c = search rules

pub returns-then-number-ne0 : goal.returns-then-number-ne0
returns-then-number-ne0 c =
    let both = let a = c.args in
    same_refusal _ (splits3_refused _ _ a.w _ _ c.refused_by-number.ensures c.if-number-ne0.true) c.pack.ensures in record { value = both.0; shown = both.1 }

pub list_at-list-requires : goal.list_at-list-requires
list_at-list-requires c = let h = not_refused _ _ _ _ c.refused_by-number.ensures c.if-number-ne0.false in (omega arith, omega arith)

pub put_cut-requires : goal.put_cut-requires
put_cut-requires c = let few = cut_few _ _ _ c.short_splits3-cut.ensures (taken_long (goal.at.put_cut-requires c).After-short_splits3-cut)
    (left_long (goal.at.put_cut-requires c).After-short_splits3-cut) in
    (few.0, few.1, few.2, (not_refused _ _ _ _ c.refused_by-number.ensures c.if-number-ne0.false).fits)

pub returns : goal.returns
returns c =
    let both = splits3_written _ _ _ _ _ c.refused_by-number.ensures
    c.if-number-ne0.false _ c.list_at-list.ensures _
    c.short_splits3-cut.ensures _ _ (taken_long (goal.at.returns c).After-short_splits3-cut) (left_long (goal.at.returns c).After-short_splits3-cut)
    c.pack-2.ensures c.put_cut.ensures in record { value = both.0; shown = both.1 }
