use mathlib.Core.Path.{◌≡◌, refl, sym, ◌∙◌}
use lib.ListN.{length, drop, get_or, set, length-set}
use Rattle.fold.specs.Clauses.{run_next, SmallRun, ColumnsRoom}
use Rattle.fold.proofs.Running.{small_next, lengths, ran_in, Writing, begin_writing, turn_writing, over_writing, room_set, room_some}
use native.Mathlib.Omega.{arith}
use Prim.Native.Nat.{◌+◌, ◌≤◌}
use lib.Seq.{drop-set-lt}
use Rattle.fold.specs.Fold as fold
use Rattle.fold.proofs.CellSizes.write_columns.Goals as goal
use Rattle.fold.proofs.CellSizes.write_columns.Goals.{After-next-r}

answer : (c : After-next-r)
    → c.next-r.result
    ≡ run_next c.loop-i.r c.args.self.sep c.args.t (get_or c.args.self.widths.now c.loop-i.i 0) (get_or c.args.self.heights.now c.loop-i.i 0)
answer c = c.next-r.ensures

small : (c : After-next-r) → SmallRun (c.loop-i.i + 1) c.next-r.result
small c =
    let l = c.loop-i in
    rw c.next-r.ensures
    (small_next l.i l.r _ _ _ _ l.invariant.0 c.requires.known.thin (omega arith) (omega arith) (omega arith))

writing : (c : After-next-r)
    (q : ColumnsRoom c.args.self.widths.now c.args.self.heights.now c.args.self.sep c.args.t (length (set c.args.columns.now 0 1)))
    → Writing q.known.settings c.args.t q.known.cells (drop (c.loop-i.i + 1) q.known.cells) c.next-r.result
    (set c.loop-i.columns c.next-r.result.columns c.next-r.result.cells) (set c.args.columns.now 0 1)
writing c q =
    let l = c.loop-i in
    turn_writing _ _ _ _ _ q l.i l.r _ _ c.loop-i-test.true refl (l.invariant.1 q) _ (answer c)

pub bounds-columns-0 : goal.bounds-columns-0
bounds-columns-0 c = omega (arith, room_some c.requires, c.requires.enough)

pub loop-i-init : goal.loop-i-init
loop-i-init c = (
  c.start-r.ensures.small,
  λ p. rw c.start-r.ensures.value
      (begin_writing _ _ _ _ _ p c.args.columns.now (omega (arith, room_some c.requires, c.requires.enough))),
)

pub overflow_cast-columns : goal.overflow_cast-columns
overflow_cast-columns c = let q = c.requires.known in let n =
    (small (goal.at.overflow_cast-columns c).After-next-r).cells in omega (arith, (lengths _ _ _ q).1, q.few)

pub offset_bounds-columns-r : goal.offset_bounds-columns-r
offset_bounds-columns-r c = let n : c.next-r.result.columns + 1 ≤ 200 =
    (let q = c.requires.known in
    omega (arith, (lengths _ _ _ q).1, q.few, (small (goal.at.offset_bounds-columns-r c).After-next-r).columns)) in omega arith

pub bounds-columns-r : goal.bounds-columns-r
bounds-columns-r c = let l = c.loop-i in
    let q = room_set (length (set c.args.columns.now 0 1)) c.requires (sym (length-set c.args.columns.now 0 1)) in
    omega (arith, ran_in _ _ _ _ _ (writing (goal.at.bounds-columns-r c).After-next-r q).ran, q.enough)

pub loop-i-preserved : goal.loop-i-preserved
loop-i-preserved c = (
  small (goal.at.loop-i-preserved c).After-next-r,
  writing (goal.at.loop-i-preserved c).After-next-r,
)

pub returns : goal.returns
returns c = let l = c.loop-i in
    λ q. over_writing _ _ _ _ _ (room_set (length (set c.args.columns.now 0 1)) q (sym (length-set c.args.columns.now 0 1))) l.i l.r _ _
    c.loop-i-test.false (l.invariant.1 (room_set (length (set c.args.columns.now 0 1)) q (sym (length-set c.args.columns.now 0 1))))
    ∙ rw (drop-set-lt (length (fold.columns q.known.settings c.args.t q.known.cells)) c.args.columns.now 0 1 (room_some q))
