use Rattle.std.proofs.Common.{◌<◌, drop, sym, arith, length-drop, length-take-le}
use Rattle.text.proofs.SeenParts.{after_plain}
use Rattle.text.proofs.Flags.{left_all, flags_left_none, left_fine, left_low, flags_left_on}
use Rattle.text.proofs.seen.Seen.in_word.Goals as goal

pub returns-then-hint_at-eq0 : goal.returns-then-hint_at-eq0
returns-then-hint_at-eq0 c = sym (after_plain _ _ _ (c.hint_at.ensures c.if-hint_at-eq0.true))

pub loop-left-init : goal.loop-left-init
loop-left-init c = let s = c.args.s.now in
    let at = c.args.at in
    left_all _ _ _ _ (length-take-le 8 (drop at s) (rw length-drop (omega arith))) c.feeds_at-left.ensures c.requires.1

pub at_feed-r-requires : goal.at_feed-r-requires
at_feed-r-requires c = let l = c.loop-left in
    let h : 0 < l.left = omega arith in
    record { fine = left_fine _ _ _ _ _ l.invariant h; small = omega (arith, left_low _ _ _ _ _ l.invariant h) }

pub loop-left-preserved : goal.loop-left-preserved
loop-left-preserved c = flags_left_on _ _ _ _ _ c.loop-left.invariant (omega arith) _ c.at_feed-r.ensures

pub returns : goal.returns
returns c = flags_left_none _ _ _ _ _ c.loop-left.invariant (omega arith)
