use Rattle.std.proofs.Common.{◌≡◌, ◌+◌, arith}
use Rattle.text.proofs.SeenParts.{reached_part}
use Rattle.text.proofs.seen.Seen.in_words.Goals as goal

pub loop-i-preserved : goal.loop-i-preserved
loop-i-preserved c = let l = c.loop-i in
    let w = l.invariant.0 in
    (record { on = omega arith; within = w.within; parts = omega arith }, reached_part _ l.i 8 (omega arith) _ _ l.invariant.1 c.in_word-r.ensures)

pub returns-2 : goal.returns-2
returns-2 c = let l = c.loop-i in
    let w = l.invariant.0 in
    let e : l.i + 8 ≡ c.args.to = omega arith in
    rw e at (reached_part _ l.i 8 (omega arith) _ _ l.invariant.1 c.in_word-r.ensures)
