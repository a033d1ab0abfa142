use Rattle.std.proofs.Common.{◌≤◌, arith}
use mathlib.Core.Logic.{⊎_elim}
use borrow.Author.Tests.{lt-ltb, le-ltb}
use Rattle.c_encoding.specs.Cuts.{refused_by}
use Rattle.c_encoding.proofs.cuts.refused_by.Goals as goal

pub returns-then-room-needed : goal.returns-then-room-needed
unfolding refused_by
returns-then-room-needed c = let a = c.args in
    ⊎_elim (λ h. rw (lt-ltb a.held a.count h)) (λ h. rw (le-ltb a.held a.count h.0, lt-ltb a.room a.needed h.1)) c.if-room-needed.either

pub returns-then-count-gt512 : goal.returns-then-count-gt512
unfolding refused_by
returns-then-count-gt512 c =
    let h : c.args.count ≤ c.args.held = omega arith in
    let r : c.args.needed ≤ c.args.room = omega arith in
    rw (le-ltb _ _ h, le-ltb _ _ r, lt-ltb _ _ c.if-count-gt512.true)

pub returns-else-count-gt512 : goal.returns-else-count-gt512
unfolding refused_by
returns-else-count-gt512 c =
    let h : c.args.count ≤ c.args.held = omega arith in
    let r : c.args.needed ≤ c.args.room = omega arith in
    rw (le-ltb _ _ h, le-ltb _ _ r, le-ltb _ _ c.if-count-gt512.false)
