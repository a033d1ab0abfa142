use mathlib.Core.Path.{refl}
use native.Mathlib.Omega.{arith}
use lib.Seq.{take-set-le}
use lib.ListN.{drop_of_length-le}
use Rattle.splits.proofs.Cuts.{cut_none, cut_yes, cut_no, cuts_in, first_set}
use Rattle.splits.proofs.cut.cut_in.Goals as goal

pub returns-then-pieces-taken : goal.returns-then-pieces-taken
returns-then-pieces-taken c = let k = c.reach_in-taken in
    cuts_in k.ensures _ _ (cut_none k.ensures (omega arith)) _ _ (omega arith) (omega arith) refl
    (drop_of_length-le c.args.pieces.now {i = k.result.0} (omega arith))

pub returns-then-short-eq0 : goal.returns-then-short-eq0
returns-then-short-eq0 c = let k = c.reach_in-taken in
    cuts_in k.ensures _ _ (cut_yes k.ensures (omega arith) (omega arith)) _ _ (omega arith) (omega arith) refl refl

pub returns : goal.returns
returns c = let s = c.args.pieces.now in
    let k = c.reach_in-taken in
    rw (c.from.ensures, c.from-2.ensures) (cuts_in k.ensures _ _ (cut_no k.ensures (omega arith) (λ z. omega arith)) _ _ (omega arith) (omega arith)
    (take-set-le k.result.0 s k.result.0 _ (omega arith)) (first_set s k.result.0 _ (omega arith)))
