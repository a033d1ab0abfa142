use native.Mathlib.Omega.{arith}
use Rattle.places.proofs.Theorems.{place_small}
use Rattle.c_encoding.proofs.Places.{place_word_refused, place_short, place_written}
use Rattle.c_api.proofs.leg_place.Goals as goal

pub returns-then-p-ne0 : goal.returns-then-p-ne0
returns-then-p-ne0 c =
    let both = place_word_refused _ _ _ c.leaf_at-p.ensures _ c.if-p-ne0.true c.pack.ensures in record { value = both.0; shown = both.1 }

pub returns-then-out-lt3 : goal.returns-then-out-lt3
returns-then-out-lt3 c =
    let both = place_short _ _ _ c.leaf_at-p.ensures c.if-p-ne0.false _ c.if-out-lt3.true c.pack-then-out-lt3.ensures in
    record { value = both.0; shown = both.1 }

pub put_place-requires : goal.put_place-requires
put_place-requires c = let x = place_small _ _ _ _ _ c.leaf_at-p.ensures c.if-p-ne0.false in
    (omega (arith, x), omega (arith, x), omega (arith, x), c.if-out-lt3.false)

pub returns : goal.returns
returns c =
    let both = place_written _ _ _ c.leaf_at-p.ensures
    c.if-p-ne0.false _ _ c.if-out-lt3.false c.pack-2.ensures
    c.put_place.ensures in record { value = both.0; shown = both.1 }
