use mathlib.Core.Path.{◌≡◌, refl, sym, ◌∙◌}
use native.Mathlib.Omega.{arith}
use lib.ListN.{get_or, length-set}
use Rattle.splits.proofs.Named.{named_from_lem}
use Rattle.paint.proofs.Room.{room_at}
use Rattle.paint.proofs.Crossed.{cross_end, cross_stop, cross_in, cross_out}
use Rattle.paint.proofs.bytes.cross.Goals as goal
use Rattle.paint.proofs.bytes.cross.Goals.{then-k-n, else-k-n}

pub loop-i-init : goal.loop-i-init
loop-i-init c = (omega arith, refl, rw named_from_lem)

pub returns-then-n-pos : goal.returns-then-n-pos
returns-then-n-pos c = let a = c.args in
    let k = c.loop-i in
    sym (k.invariant.2 ∙ cross_stop a.pieces.now a.at a.step a.n a.byte k.out k.pos k.i (omega arith) _ c.from-pos.ensures (omega arith))

pub bounds-out-at : goal.bounds-out-at
bounds-out-at c = omega (arith, room_at _ c.if-k-n.true c.requires.room)

pub loop-i-preserved : goal.loop-i-preserved
loop-i-preserved c = let a = c.args in
    let k = c.loop-i in
    let l = a.pieces.now in
    let p = c.from-pos.result in
    let here : p ≡ get_or l k.i 0 = c.from-pos.ensures in
    elim c.if-k-n.branch [
      | then-k-n w ↦ (
        omega arith,
        rw (w.out-is, length-set) k.invariant.1,
        rw w.out-is (k.invariant.2 ∙ cross_in l a.at a.step a.n a.byte k.out k.pos k.i (omega arith) p here (omega arith) w.if-k-n.true),
      )
      | else-k-n w ↦ (
        omega arith,
        rw w.out-is k.invariant.1,
        rw w.out-is (k.invariant.2 ∙ cross_out l a.at a.step a.n a.byte k.out k.pos k.i (omega arith) p here (omega arith) w.if-k-n.false),
      )
    ]

pub returns : goal.returns
returns c = let a = c.args in
    let k = c.loop-i in
    sym (k.invariant.2 ∙ cross_end a.pieces.now a.at a.step a.n a.byte k.out k.pos k.i (omega arith))
