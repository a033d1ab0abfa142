use Rattle.std.proofs.Common.{◌≡◌, ap, ◌∙◌, arith, rules, ℕ, ◌+◌, ◌-◌, ◌≤◌, ◌<◌, List, length, take, drop, get_or, length-drop, length-set, refl}
use native.Mathlib.Nat.{add-sub_cancel_left}
use lib.Seq.{length-take-le}
use borrow.Author.Rules.{part_to_end}
use Rattle.tree.proofs.Fronts.{part_shorter}
use Rattle.tree.specs.Bytes.{length_at, axis_of}
use Rattle.tree.specs.Promises.{contents}
use Rattle.tree.proofs.Passing.{More, turn, over, next_whole}
use Rattle.widen.specs.Widening as widening
use Rattle.widen.specs.Clauses.{NeedNode, NeedGroup}
use Rattle.widen.proofs.Turns.{Turn, kid_width, kid_ready, turned, ends, node_asks, cell_gives, group_ready, group_gives}
use Rattle.widen.proofs.node.+need_group_need_node.Goals as goal
use Rattle.widen.proofs.node.+need_group_need_node.Goals.{need_group-In-loop-at, need_group-After-lost-more}

-- ---- the group: inside the loop, and what is known there

abbrev Description : (t : ℕ) → need_group-In-loop-at t → Type 0
Description t k = let a = k.args in NeedGroup a.s.now a.across a.node a.slack a.widths.now (length a.needs.now)

abbrev turn_at : (t : ℕ) (k : need_group-In-loop-at t) (q : Description t k) → let a = k.args in let m = k.loop-at in
    More (Turn a.s.now a.across a.node a.slack a.widths.now (length a.needs.now) q a.needs.now m.at m.next m.needs)
turn_at t k q = let m = k.loop-at in turn k.args.s.now m.at _ (λ rest l. l.passing) (m.invariant.1 q) k.loop-at-test.true

-- the bytes of the next child and of those after it
abbrev part_at : (t : ℕ) → need_group-In-loop-at t → List ℕ
part_at t k = let s = k.args.s.now in let at = k.loop-at.at in take (length s - at) (drop at s)

whole_at : (t : ℕ) (k : need_group-In-loop-at t)
    → (3 + length_at (part_at t k) ≤ length (part_at t k)) × (k.loop-at.at + (3 + length_at (part_at t k)) ≤ length k.args.s.now)
whole_at t k = let s = k.args.s.now in let at = k.loop-at.at in next_whole s at (turn_at t k k.requires).holds.passing _ (part_to_end s at)

width_at : (t : ℕ) (k : need_group-In-loop-at t) (q : Description t k) → let a = k.args in let m = k.loop-at in
    (m.next < length a.widths.now) × (get_or a.widths.now m.next 0 ≤ k.from-w.result)
width_at t k q =
    let a = k.args in
    let m = k.loop-at in
    let x = turn_at t k q in
    let f = kid_width _ _ _ _ _ _ q a.needs.now m.at m.next m.needs _ _ x.holds _ (part_to_end a.s.now m.at) in
    (f.0, omega (arith, f.1, f.2, q.w_is, k.from-w.ensures))

pub need_group-length_at-used-requires : goal.need_group-length_at-used-requires
need_group-length_at-used-requires t c = omega (arith, (whole_at t (goal.at.need_group-length_at-used-requires t c).In-loop-at).0)

pub need_group-offset_bounds-widths-next : goal.need_group-offset_bounds-widths-next
need_group-offset_bounds-widths-next t c =
    let h = (width_at t (goal.at.need_group-offset_bounds-widths-next t c).In-loop-at c.requires).0 in search rules

pub need_group-bounds-widths-next : goal.need_group-bounds-widths-next
need_group-bounds-widths-next t c = (width_at t (goal.at.need_group-bounds-widths-next t c).In-loop-at c.requires).0

pub need_group-lost-more-requires : goal.need_group-lost-more-requires
need_group-lost-more-requires t c =
    omega (arith, (width_at t (goal.at.need_group-lost-more-requires t c).In-loop-at c.requires).1, c.from.ensures)

-- the child, once what it loses is known
lost_is : (t : ℕ) (c : need_group-After-lost-more t) → let a = c.args in
    (q : NeedGroup a.s.now a.across a.node a.slack a.widths.now (length a.needs.now))
    → c.lost-more.result ≡ widening.lost (axis_of a.across) q.w c.from.result
lost_is t c q = c.lost-more.ensures ∙ ap (λ (y : ℕ). widening.lost (axis_of c.args.across) y c.from.result) (c.from-w.ensures ∙ q.w_is)

abbrev kid_at : (t : ℕ) (k : need_group-In-loop-at t) (q : Description t k) (v more : ℕ) → v ≡ get_or k.args.widths.now k.loop-at.next 0
    → more ≡ widening.lost (axis_of k.args.across) q.w v
    → NeedNode (part_at t k) k.loop-at.next (k.args.slack + more) k.args.widths.now (length k.loop-at.needs)
kid_at t k q v more ve me =
    let a = k.args in
    let m = k.loop-at in
    kid_ready _ _ _ _ _ _ q a.needs.now m.at m.next m.needs _ _ (turn_at t k q).holds _ (part_to_end a.s.now m.at) v more ve me (length m.needs)
    m.invariant.0

pub need_group-overflow_add-slack : goal.need_group-overflow_add-slack
need_group-overflow_add-slack t c =
    let g = goal.at.need_group-overflow_add-slack t c in
    let q = c.requires in
    omega (arith, (kid_at t g.In-loop-at q _ _ c.from.ensures (lost_is t g.After-lost-more q)).small)

pub need_group-need_node-next-requires : goal.need_group-need_node-next-requires
need_group-need_node-next-requires t c =
    let g = goal.at.need_group-need_node-next-requires t c in
    let q = c.requires in
    let k = g.In-loop-at in
    (part_shorter c.args.s.now c.loop-at.at t c.decreases, kid_at t k q _ _ c.from.ensures (lost_is t g.After-lost-more q))

pub need_group-loop-at-preserved : goal.need_group-loop-at-preserved
need_group-loop-at-preserved t c =
    let g = goal.at.need_group-loop-at-preserved t c in
    let k = g.In-loop-at in
    let a = c.args in
    let m = c.loop-at in (
      c.need_node-next.auto.needs ∙ m.invariant.0,
      λ q. let l = lost_is t g.After-lost-more q in
          rw c.length_at-used.ensures.value
          (turned _ _ _ _ _ _ q a.needs.now m.at m.next m.needs _ _ (turn_at t k q).holds _ (part_to_end a.s.now m.at) c.from.result
          c.lost-more.result c.from.ensures l (length m.needs) m.invariant.0 _ _
          (c.need_node-next.ensures (kid_at t k q _ _ c.from.ensures l))),
    )

pub need_group-returns : goal.need_group-returns
need_group-returns t c = let m = c.loop-at in λ q.
    ends _ _ _ _ _ _ q _ m.at m.next m.needs (over c.args.s.now m.at _ (λ rest l. l.passing) (m.invariant.1 q) c.loop-at-test.false)

-- ---- the node

inside_shorter : (s : List ℕ) (len m : ℕ) → 3 + len ≤ length s → length s ≡ m → length (take (3 + len - 3) (drop 3 s)) + 1 < m
inside_shorter s len m h e = rw (add-sub_cancel_left 3 len, length-take-le len (drop 3 s) (rw length-drop (omega arith))) (omega arith)

inside_is : (s : List ℕ) (len : ℕ) → len ≡ length_at s → take (3 + len - 3) (drop 3 s) ≡ contents s
inside_is s len e = rw (add-sub_cancel_left 3 len, e)

pub need_node-bounds-s-0 : goal.need_node-bounds-s-0
need_node-bounds-s-0 t c = omega (arith, (node_asks _ _ _ _ _ c.requires).0)

pub need_node-length_at-end-requires : goal.need_node-length_at-end-requires
need_node-length_at-end-requires t c = omega (arith, (node_asks _ _ _ _ _ c.requires).0)

pub need_node-bounds-needs-node : goal.need_node-bounds-needs-node
need_node-bounds-needs-node t c = omega (arith, (node_asks _ _ _ _ _ c.requires).1)

pub need_node-bounds-needs-node-2 : goal.need_node-bounds-needs-node-2
need_node-bounds-needs-node-2 t c = omega (arith, (node_asks _ _ _ _ _ c.requires).1)

pub need_node-returns-then-tag-eq1 : goal.need_node-returns-then-tag-eq1
need_node-returns-then-tag-eq1 t c = λ q. cell_gives _ _ _ _ _ q c.if-tag-eq1.true _ _ refl

pub need_node-slice_bounds-need_group-end : goal.need_node-slice_bounds-need_group-end
need_node-slice_bounds-need_group-end t c = omega (arith, (node_asks _ _ _ _ _ c.requires).0, c.length_at-end.ensures.value)

pub need_node-need_group-requires : goal.need_node-need_group-requires
need_node-need_group-requires t c =
    let a = c.args in
    let q = c.requires in
    let l = c.length_at-end in (
      inside_shorter a.s.now l.result t (omega (arith, (node_asks _ _ _ _ _ q).0, l.ensures.value)) c.decreases,
      group_ready _ _ _ _ _ q c.if-tag-eq1.false _ (inside_is a.s.now l.result l.ensures.value) _ (length-set _ _ _),
    )

pub need_node-returns : goal.need_node-returns
need_node-returns t c =
    let a = c.args in
    let e = inside_is a.s.now c.length_at-end.result c.length_at-end.ensures.value in
    let n = (length-set _ _ _) in
    λ q. group_gives _ _ _ _ _ q c.if-tag-eq1.false _ e _ n _ _ _ _ refl
    (c.need_group.ensures (group_ready _ _ _ _ _ q c.if-tag-eq1.false _ e _ n))
