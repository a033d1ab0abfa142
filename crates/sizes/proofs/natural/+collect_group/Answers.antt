use Rattle.std.proofs.Common.{◌≡◌, ◌-◌, arith, ℕ, List, length, take, drop}
use borrow.Author.Rules.{part_to_end}
use Rattle.tree.specs.declared.front.Front.{Front}
use Rattle.tree.specs.Clauses.{front_of}
use Rattle.tree.proofs.Fronts.{front_asks}
use Rattle.sizes.specs.Clauses.{ReadyGroup}
use Rattle.tree.proofs.Passing.{More, turn, over, InsideNext, inside_at}
use Rattle.sizes.proofs.Naturals.{Turn, Kid, kid_ready, child_asks, next, span_asks, ends, text_shorter, leaf_asks, leaf_gives, group_ready, group_gives}
use Rattle.sizes.proofs.natural.+collect_group.Goals as goal
use Rattle.sizes.proofs.natural.+collect_group.Goals.{In-loop-at, then-t, else-t}

-- ---- inside the loop, and what is known there

abbrev Description : (t : ℕ) → In-loop-at t → Type 0
Description t k = let a = k.args in ReadyGroup a.a a.s.now a.across a.node

abbrev turn_at : (t : ℕ) (k : In-loop-at t) (q : Description t k) → let a = k.args in let m = k.loop-at in
    More (Turn a.a a.s.now a.across a.node q a.list.now m.at m.next m.g m.list)
turn_at t k q = let m = k.loop-at in turn k.args.s.now m.at _ (λ rest l. l.passing) (m.invariant q) k.loop-at-test.true

-- the bytes of the next child and of those after it
abbrev part_at : (t : ℕ) → In-loop-at t → List ℕ
part_at t k = let s = k.args.s.now in let at = k.loop-at.at in take (length s - at) (drop at s)

abbrev kid_at : (t : ℕ) (k : In-loop-at t) (q : Description t k) → Kid q.settings (part_at t k) k.loop-at.next
kid_at t k q =
    let a = k.args in
    let m = k.loop-at in
    kid_ready _ _ _ _ q a.list.now m.at m.next m.g m.list _ _ (turn_at t k q).holds _ (part_to_end a.s.now m.at)

-- its front is read
inside : (t : ℕ) (k : In-loop-at t) (f : Front) → f ≡ front_of (part_at t k) → InsideNext k.args.s.now k.loop-at.at (part_at t k) f
inside t k f e =
    let s = k.args.s.now in
    let at = k.loop-at.at in
    inside_at s at (turn_at t k k.requires).holds.passing _ (part_to_end s at) _ e

pub read_front-t-requires : goal.read_front-t-requires
read_front-t-requires t c = let k = (goal.at.read_front-t-requires t c).In-loop-at in let q = kid_at t k k.requires in front_asks q.tree _ q.is

-- ---- a leaf is collected

pub slice_bounds-inner-end : goal.slice_bounds-inner-end
slice_bounds-inner-end t c =
    let k = (goal.at.slice_bounds-inner-end t c).In-loop-at in omega (arith, (inside t k _ c.read_front-t.ensures).high)

pub collect_leaf-child-requires : goal.collect_leaf-child-requires
collect_leaf-child-requires t c =
    let k = (goal.at.collect_leaf-child-requires t c).In-loop-at in
    let q = c.requires in
    leaf_asks _ _ q.around _ _ (kid_at t k q) _ c.read_front-t.ensures _ (inside t k _ c.read_front-t.ensures).part c.if-t.true (omega arith)

pub collect_group-child-requires : goal.collect_group-child-requires
collect_group-child-requires t c =
    let k = (goal.at.collect_group-child-requires t c).In-loop-at in
    let q = c.requires in
    let x = kid_at t k q in
    let e = c.read_front-t.ensures in
    let i = inside t k _ e in (
      omega (arith, c.decreases, text_shorter _ _ q.around _ _ x _ e _ i.part),
      group_ready _ _ q.around _ _ x _ e _ i.part c.if-t.false,
    )

-- ---- either

pub with_child-g-requires : goal.with_child-g-requires
with_child-g-requires t c =
    let k = (goal.at.with_child-g-requires t c).In-loop-at in
    let q = c.requires in
    let m = c.loop-at in
    let x = kid_at t k q in
    let e = c.read_front-t.ensures in
    let i = inside t k _ e in
    child_asks _ _ _ _ q c.args.list.now m.at m.next m.g m.list _ _ (turn_at t k q).holds _ (part_to_end c.args.s.now m.at) c.if-t.child c.if-t.list
    (elim c.if-t.branch [
      | then-t w ↦ rw (w.child-is, w.list-is)
          (leaf_gives _ _ q.around _ _ x _ e _ i.part w.if-t.true _ _ _ w.collect_leaf-child.ensures.value w.collect_leaf-child.ensures.stored)
      | else-t w ↦ let h = w.if-t.false in
          rw (w.child-is, w.list-is)
          (group_gives _ _ q.around _ _ x _ e _ i.part h _ _ _ (w.collect_group-child.ensures (group_ready _ _ q.around _ _ x _ e _ i.part h)))
    ])

pub loop-at-preserved : goal.loop-at-preserved
loop-at-preserved t c = λ q.
    let k = (goal.at.loop-at-preserved t c).In-loop-at in
    let m = c.loop-at in
    let x = kid_at t k q in
    let e = c.read_front-t.ensures in
    let i = inside t k _ e in
    rw c.with_child-g.ensures
    (next _ _ _ _ q c.args.list.now m.at m.next m.g m.list _ _ (turn_at t k q).holds _ (part_to_end c.args.s.now m.at) _ _
    (elim c.if-t.branch [
      | then-t w ↦ rw (w.child-is, w.list-is)
          (leaf_gives _ _ q.around _ _ x _ e _ i.part w.if-t.true _ _ _ w.collect_leaf-child.ensures.value w.collect_leaf-child.ensures.stored)
      | else-t w ↦ let h = w.if-t.false in
          rw (w.child-is, w.list-is)
          (group_gives _ _ q.around _ _ x _ e _ i.part h _ _ _ (w.collect_group-child.ensures (group_ready _ _ q.around _ _ x _ e _ i.part h)))
    ]) _ c.read_front-t.ensures)

-- ---- all are collected

pub finish_group-requires : goal.finish_group-requires
finish_group-requires t c =
    let m = c.loop-at in
    span_asks _ _ _ _ c.requires c.args.list.now m.at m.next m.g m.list
    (over c.args.s.now m.at _ (λ rest l. l.passing) (m.invariant c.requires) c.loop-at-test.false)

pub returns : goal.returns
returns t c = λ q.
    let m = c.loop-at in
    ends _ _ _ _ q c.args.list.now m.at m.next m.g m.list (over c.args.s.now m.at _ (λ rest l. l.passing) (m.invariant q) c.loop-at-test.false) _ _
    c.finish_group.ensures.value c.finish_group.ensures.stored
