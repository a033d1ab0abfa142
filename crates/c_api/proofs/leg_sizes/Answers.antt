use Prim.Native.Nat.{ℕ}
use native.Mathlib.Omega.{arith}
use lib.ListN.{length-replicate}
use Rattle.collector.proofs.Recorded.{few_measured, branch_ready}
use Rattle.c_encoding.proofs.Measured.{sizes_refused, sizes_short, sizes_written}
use Rattle.c_api.proofs.leg_sizes.Goals as goal

pub returns-then-m-ne0 : goal.returns-then-m-ne0
returns-then-m-ne0 c =
    let both = sizes_refused _ _ _ _ _ _ c.measure_tree-m.ensures.value c.measure_tree-m.ensures.list _ c.if-m-ne0.true c.pack.ensures in
    record { value = both.0; shown = both.1 }

pub returns-then-list-m : goal.returns-then-list-m
returns-then-list-m c =
    let both = sizes_short _ _ _ _ _ _ c.measure_tree-m.ensures.value c.measure_tree-m.ensures.list c.if-m-ne0.false (length-replicate {A = ℕ} 2048 0) _
    (omega arith) c.pack-then-list-m.ensures in record { value = both.0; shown = both.1 }

pub count_below-below-requires : goal.count_below-below-requires
count_below-below-requires c = branch_ready _ _ _ _ _ c.measure_tree-m.ensures.value c.measure_tree-m.ensures.list c.if-m-ne0.false

pub put_sizes-requires : goal.put_sizes-requires
put_sizes-requires c = (few_measured _ _ _ _ _ c.measure_tree-m.ensures.value c.measure_tree-m.ensures.list c.if-m-ne0.false, omega arith)

pub returns : goal.returns
returns c =
    let both = let h = c.if-m-ne0.false in
    sizes_written _ _ _ _ _ _ c.measure_tree-m.ensures.value c.measure_tree-m.ensures.list h (length-replicate {A = ℕ} 2048 0) _
    (c.count_below-below.ensures (branch_ready _ _ _ _ _ c.measure_tree-m.ensures.value c.measure_tree-m.ensures.list h)) _ _
    (omega arith) c.pack-2.ensures c.put_sizes.ensures in record { value = both.0; shown = both.1 }
