use mathlib.Core.Path.{◌≡◌, sym}
use native.Mathlib.Omega.{arith}
use lib.Seq.{length-take-le}
use Rattle.std.specs.Prelude.{Err}
use Rattle.std.proofs.lemmas.Grind.{common_steps}
use Rattle.typed.proofs.Answered.{typed_long, typed_stop, got_nodes, few_nodes, typed_short, nodes_ready, typed_done}
use Rattle.typed.proofs.read_list.Goals as goal

pub returns-then-text-gt131072-clause-out_after : goal.returns-then-text-gt131072-clause-out_after
returns-then-text-gt131072-clause-out_after c = rw c.unplaced.ensures (typed_long _ _ c.if-text-gt131072.true)

pub returns-in_err-found-clause-out_after : goal.returns-in_err-found-clause-out_after
returns-in_err-found-clause-out_after c =
    let q : c.from_residual.result ≡ Err c.in_err-found.field-0.0 = grind (arith, common_steps) in
    rw q (typed_stop _ _ c.if-text-gt131072.false _ _ c.in_err-found.ensures)

pub returns-then-out-found-clause-out_after : goal.returns-then-out-found-clause-out_after
returns-then-out-found-clause-out_after c =
    let got = got_nodes _ c.args.out.now c.if-text-gt131072.false _ _ c.in_ok-found.ensures in
    rw c.unplaced-then-out-found.ensures (typed_short _ _ c.if-text-gt131072.false _ _ got c.if-out-found.true)

pub slice_bounds-spots-end : goal.slice_bounds-spots-end
slice_bounds-spots-end c =
    let out = c.args.out.now in
    let few = few_nodes _ out c.if-text-gt131072.false _ _ (got_nodes _ out c.if-text-gt131072.false _ _ c.in_ok-found.ensures) in
    omega (arith, c.scan.array_long)

pub slice_bounds-write_spots-end : goal.slice_bounds-write_spots-end
slice_bounds-write_spots-end c =
    let out = c.args.out.now in
    let few = few_nodes _ out c.if-text-gt131072.false _ _ (got_nodes _ out c.if-text-gt131072.false _ _ c.in_ok-found.ensures) in
    sym (length-take-le _ _ (omega (arith, c.scan.array_long)))

pub write_spots-requires : goal.write_spots-requires
write_spots-requires c =
    let out = c.args.out.now in
    record {
      of = _;
      is = nodes_ready _ out c.if-text-gt131072.false _ _ (got_nodes _ out c.if-text-gt131072.false _ _ c.in_ok-found.ensures) c.scan.array_long _
          c.if-out-found.false;
    }

pub returns-clause-out_after : goal.returns-clause-out_after
returns-clause-out_after c =
    let out = c.args.out.now in
    let got = got_nodes _ out c.if-text-gt131072.false _ _ c.in_ok-found.ensures in
    let ready = nodes_ready _ out c.if-text-gt131072.false _ _ got c.scan.array_long _ c.if-out-found.false in
    typed_done _ out c.if-text-gt131072.false _ _ got c.if-out-found.false _ (c.write_spots.ensures _ ready)
