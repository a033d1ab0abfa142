use Rattle.std.proofs.Common.{◌-◌, arith, ℕ, List, length, take, drop}
use borrow.Author.Rules.{part_to_end}
use Rattle.tree.proofs.Fronts.{part_shorter}
use Rattle.plan.specs.Clauses.{ReadyPlan, ReadyPlans}
use Rattle.plan.proofs.Fronts.{front_asks, end_in, inside_shorter}
use Rattle.plan.proofs.Passing.{MorePlans, turn, over, next_whole}
use Rattle.plan.proofs.Turns.{Turn, kid_ready, child_asks, next, span_asks, ends, range_asks, range_gives, leaf_asks, leaf_gives, group_ready, group_gives}
use Rattle.plan.proofs.ends.+end_group_end_node.Goals as goal
use Rattle.plan.proofs.ends.+end_group_end_node.Goals.{end_group-In-loop-at}

-- ---- the group: inside the loop, and what is known there

abbrev Description : (t : ℕ) → end_group-In-loop-at t → Type 0
Description t k = let a = k.args in ReadyPlans a.settings a.most a.across a.s.now

abbrev turn_at : (t : ℕ) (k : end_group-In-loop-at t) (q : Description t k) → let a = k.args in let m = k.loop-at in
    MorePlans (Turn a.settings a.most a.across a.s.now q m.at m.g)
turn_at t k q = let m = k.loop-at in turn k.args.s.now m.at _ (λ rest l. l.passing) (m.invariant q) k.loop-at-test.true

-- the bytes of the next plan and of those after it
abbrev part_at : (t : ℕ) → end_group-In-loop-at t → List ℕ
part_at t k = let s = k.args.s.now in let at = k.loop-at.at in take (length s - at) (drop at s)

abbrev kid_at : (t : ℕ) (k : end_group-In-loop-at t) (q : Description t k) → ReadyPlan k.args.settings k.args.most (part_at t k)
kid_at t k q = let m = k.loop-at in kid_ready _ _ _ _ q m.at m.g _ _ (turn_at t k q).holds _ (part_to_end k.args.s.now m.at)

pub end_group-length_at-used-requires : goal.end_group-length_at-used-requires
end_group-length_at-used-requires t c =
    let k = (goal.at.end_group-length_at-used-requires t c).In-loop-at in
    let s = c.args.s.now in
    let at = c.loop-at.at in
    omega (arith, (next_whole s at (turn_at t k c.requires).holds.passing _ (part_to_end s at)).0)

pub end_group-end_node-z-requires : goal.end_group-end_node-z-requires
end_group-end_node-z-requires t c =
    let k = (goal.at.end_group-end_node-z-requires t c).In-loop-at in
    (part_shorter c.args.s.now c.loop-at.at t c.decreases, kid_at t k c.requires)

pub end_group-with_child-g-requires : goal.end_group-with_child-g-requires
end_group-with_child-g-requires t c =
    let k = (goal.at.end_group-with_child-g-requires t c).In-loop-at in
    let q = c.requires in
    child_asks _ _ _ _ q _ _ _ _ (turn_at t k q).holds _ (part_to_end c.args.s.now c.loop-at.at) _ (c.end_node-z.ensures (kid_at t k q)) (omega arith)

-- the plan is measured: the turn is done
pub end_group-loop-at-preserved : goal.end_group-loop-at-preserved
end_group-loop-at-preserved t c = λ q.
    let k = (goal.at.end_group-loop-at-preserved t c).In-loop-at in
    rw (c.length_at-used.ensures.value, c.with_child-g.ensures)
    (next _ _ _ _ q _ _ _ _ (turn_at t k q).holds _ (part_to_end c.args.s.now c.loop-at.at) _ (c.end_node-z.ensures (kid_at t k q)))

-- ---- the group: all plans are measured

pub end_group-span_size-requires : goal.end_group-span_size-requires
end_group-span_size-requires t c =
    let m = c.loop-at in
    let q = c.requires in
    span_asks _ _ _ _ q m.at m.g (over c.args.s.now m.at _ (λ rest l. l.passing) (m.invariant q) c.loop-at-test.false) _ c.separator.ensures.value

pub end_group-returns : goal.end_group-returns
end_group-returns t c = λ q.
    let m = c.loop-at in
    ends _ _ _ _ q m.at m.g (over c.args.s.now m.at _ (λ rest l. l.passing) (m.invariant q) c.loop-at-test.false) _
    c.separator.ensures.value _ c.span_size.ensures

-- ---- the node

pub end_node-read_front-t-requires : goal.end_node-read_front-t-requires
end_node-read_front-t-requires t c = let q = c.requires in front_asks q.plan _ q.is

pub end_node-bounds-s-0 : goal.end_node-bounds-s-0
end_node-bounds-s-0 t c = let q = c.requires in omega (arith, front_asks q.plan _ q.is)

pub end_node-slice_bounds-contents-end : goal.end_node-slice_bounds-contents-end
end_node-slice_bounds-contents-end t c = let q = c.requires in omega (arith, (end_in q.plan _ q.is _ c.read_front-t.ensures).1)

-- a range

pub end_node-range_end-requires : goal.end_node-range_end-requires
end_node-range_end-requires t c = range_asks _ _ _ c.requires _ c.read_front-t.ensures c.if-s-eq4.true

pub end_node-returns-then-s-eq4 : goal.end_node-returns-then-s-eq4
end_node-returns-then-s-eq4 t c = λ q. range_gives _ _ _ q _ c.read_front-t.ensures c.if-s-eq4.true _ c.range_end.ensures

-- a leaf

pub end_node-text_end-requires : goal.end_node-text_end-requires
end_node-text_end-requires t c = leaf_asks _ _ _ c.requires _ c.read_front-t.ensures c.if-s-eq4.false c.if-t.true (omega arith)

pub end_node-returns-then-t : goal.end_node-returns-then-t
end_node-returns-then-t t c = λ q. leaf_gives _ _ _ q _ c.read_front-t.ensures c.if-s-eq4.false c.if-t.true _ c.text_end.ensures

-- a group

pub end_node-end_group-requires : goal.end_node-end_group-requires
end_node-end_group-requires t c =
    let q = c.requires in
    let e = c.read_front-t.ensures in
    (omega (arith, c.decreases, inside_shorter q.plan _ q.is _ e), group_ready _ _ _ q _ e c.if-s-eq4.false c.if-t.false)

pub end_node-returns-else-t : goal.end_node-returns-else-t
end_node-returns-else-t t c = λ q.
    let e = c.read_front-t.ensures in
    let n = c.if-s-eq4.false in
    let h = c.if-t.false in
    group_gives _ _ _ q _ e n h _ (c.end_group.ensures (group_ready _ _ _ q _ e n h))
