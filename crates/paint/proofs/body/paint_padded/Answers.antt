use Prim.Native.Nat.{◌+◌}
use lib.ListN.{length-append, length-replicate}
use Rattle.paint.specs.Clauses.{ground}
use Rattle.paint.proofs.LinesLeft.{then_pasted}
use Rattle.paint.proofs.body.paint_padded.Goals as goal

pub returns : goal.returns
unfolding ground
returns c = let a = c.args in
    then_pasted _ _ a.out.now _ _ a.at _ a.stride (a.plan.above + a.s.top) (simp (length-append, length-replicate)) c.rows_twice-p.ensures
    (then_pasted _ _ _ _ _ _ _ a.stride a.n (length-replicate _ _) c.paint_sides-q.ensures c.rows_twice.ensures.out_is)
