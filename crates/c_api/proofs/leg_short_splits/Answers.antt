use borrow.Author.Rules.{rules}
use mathlib.Core.Path.{◌≡◌}
use native.Mathlib.Omega.{arith}
use lib.ListN.{length}
use Rattle.c_encoding.proofs.Counts.{short_few}
use Rattle.c_encoding.proofs.Split.{two_refusal, not_refused, splits_refused, splits_written}
use Rattle.c_api.proofs.leg_short_splits.Goals as goal

pub returns-then-number-ne0 : goal.returns-then-number-ne0
returns-then-number-ne0 c =
    let both = let a = c.args in
    two_refusal _ (splits_refused _ _ a.w _ _ _ (rw c.min-room.ensures at c.refused_by-number.ensures)
    c.if-number-ne0.true) c.pack.ensures in record { value = both.0; listed = both.1.0; rest = both.1.1 }

pub list_at-list-requires : goal.list_at-list-requires
list_at-list-requires c = let h = not_refused _ _ _ _ c.refused_by-number.ensures c.if-number-ne0.false in (omega arith, omega arith)

pub put_positions-requires : goal.put_positions-requires
put_positions-requires c = let k = c.short_splits-cut in
    let h : length k.result.positions.entries ≡ 512 = search rules in
    let g : length k.result.left.pieces ≡ 512 = search rules in
    let p = not_refused _ _ _ _ c.refused_by-number.ensures c.if-number-ne0.false in
    ((short_few _ _ _ k.ensures h g).0, omega (arith, c.min-room.ensures))

pub put_list-requires : goal.put_list-requires
put_list-requires c = let k = c.short_splits-cut in
    let h : length k.result.positions.entries ≡ 512 = search rules in
    let g : length k.result.left.pieces ≡ 512 = search rules in
    let p = not_refused _ _ _ _ c.refused_by-number.ensures
    c.if-number-ne0.false in (
      omega arith,
      (short_few _ _ _ k.ensures h g).1,
      omega (arith, c.min-room.ensures),
    )

pub returns : goal.returns
returns c =
    let both = let k = c.short_splits-cut in
    let h : length k.result.positions.entries ≡ 512 = search rules in
    let g : length k.result.left.pieces ≡ 512 = search rules in
    splits_written _ _ _ _ _ _ (rw c.min-room.ensures at c.refused_by-number.ensures)
    c.if-number-ne0.false _ c.list_at-list.ensures _ k.ensures _ _ _ h g c.pack-2.ensures
    c.put_positions.ensures c.put_list.ensures in record { value = both.0; listed = both.1.0; rest = both.1.1 }
