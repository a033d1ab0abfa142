use Rattle.std.proofs.Common.{◌∙◌, ◌≡◌, arith, rules, ℕ, List, ◌+◌, ◌-◌, ◌≤◌, ◌<◌, length, take, drop}
use borrow.Author.Rules.{part_to_end}
use Rattle.tree.proofs.Fronts.{part_shorter, front_asks, end_in, inside_shorter}
use Rattle.tree.proofs.Passing.{More, turn, over}
use Rattle.places.specs.declared.locate.Consumed.{Consumed}
use Rattle.places.specs.Locating.{locate}
use Rattle.places.specs.Clauses.{NodeAsks, GroupAsks, NodeGives, anchor_of}
use Rattle.places.proofs.Turns.{Turn, child_in, child_asks, used_in, steps_in, next, ends, leaf_asks, leaf_gives, group_asks, group_gives}
use Rattle.places.proofs.locate.+locate_group_locate_node.Goals as goal
use Rattle.places.proofs.locate.+locate_group_locate_node.Goals.{locate_group-In-loop-at}

-- ---- the group: inside the loop, and what is known there

abbrev Description : (t : ℕ) → locate_group-In-loop-at t → Type 0
Description t k = let a = k.args in GroupAsks a.s.now a.g a.node (length a.places.now) (length a.answers.now)

abbrev turn_at : (t : ℕ) (k : locate_group-In-loop-at t) (q : Description t k) → let a = k.args in let m = k.loop-at in
    More (Turn a.s.now a.g a.list.now a.node a.places.now a.answers.now (length a.answers.now) q m.at m.offset m.steps m.answers)
turn_at t k q = let m = k.loop-at in turn k.args.s.now m.at _ (λ rest l. l.passing) (m.invariant.1 q) k.loop-at-test.true

-- the bytes of the next child and of those after it
abbrev part_at : (t : ℕ) → locate_group-In-loop-at t → List ℕ
part_at t k = let s = k.args.s.now in let at = k.loop-at.at in take (length s - at) (drop at s)

same_at : (t : ℕ) (k : locate_group-In-loop-at t) → length k.loop-at.answers ≡ length k.args.places.now
same_at t k = k.loop-at.invariant.0 ∙ k.requires.same

abbrev child_at : (t : ℕ) (k : locate_group-In-loop-at t) (q : Description t k) → let a = k.args in let m = k.loop-at in
    NodeAsks (part_at t k) a.g (a.node + m.steps) m.offset (length a.places.now) (length m.answers)
child_at t k q =
    let a = k.args in
    let m = k.loop-at in
    child_asks a.s.now a.g a.list.now a.node a.places.now a.answers.now _ q m.at m.offset m.steps m.answers _ _
    (turn_at t k q).holds (part_at t k) (part_to_end a.s.now m.at) (length m.answers) (same_at t k)

in_at : (t : ℕ) (k : locate_group-In-loop-at t) → k.args.node + k.loop-at.steps < 512
in_at t k =
    let a = k.args in
    let m = k.loop-at in
    let q = k.requires in
    child_in a.s.now a.g a.list.now a.node a.places.now a.answers.now _ q m.at m.offset m.steps m.answers _ _
    (turn_at t k q).holds (part_at t k) (part_to_end a.s.now m.at)

pub locate_group-overflow_add-child : goal.locate_group-overflow_add-child
locate_group-overflow_add-child t c = omega (arith, in_at t (goal.at.locate_group-overflow_add-child t c).In-loop-at)

pub locate_group-locate_node-r-requires : goal.locate_group-locate_node-r-requires
locate_group-locate_node-r-requires t c =
    let k = (goal.at.locate_group-locate_node-r-requires t c).In-loop-at in
    (part_shorter c.args.s.now c.loop-at.at t c.decreases, child_at t k c.requires)

pub locate_group-allotted_at-requires : goal.locate_group-allotted_at-requires
locate_group-allotted_at-requires t c =
    let long : length c.args.list.now ≡ 2048 = search rules in
    omega (arith, in_at t (goal.at.locate_group-allotted_at-requires t c).In-loop-at)

pub locate_group-next_offset-offset-requires : goal.locate_group-next_offset-offset-requires
locate_group-next_offset-offset-requires t c =
    let k = (goal.at.locate_group-next_offset-offset-requires t c).In-loop-at in
    let q = c.requires in
    (q.thin, omega (arith, (turn_at t k q).holds.low.line, in_at t k), c.allotted_at.ensures.small)

-- the child is passed
module _ (t : ℕ) (k : locate_group-In-loop-at t) (q : Description t k) (r : Consumed) (f : List ℕ)
    (gives : let a = k.args in let m = k.loop-at in
    NodeGives (part_at t k) (locate a.g.gap a.list.now (child_at t k q).tree (a.node + m.steps) (anchor_of (part_at t k) a.g m.offset)) a.places.now r
    m.answers f) where
  used_at : (3 ≤ r.used) × (k.loop-at.at + r.used ≤ length k.args.s.now)
  used_at =
      let a = k.args in
      let m = k.loop-at in
      used_in a.s.now a.g a.list.now a.node a.places.now a.answers.now _ q m.at m.offset m.steps m.answers _ _
      (turn_at t k q).holds (part_at t k) (part_to_end a.s.now m.at) (length m.answers) (same_at t k) _ _ gives

  steps_at : (k.loop-at.steps + r.steps ≤ 512) × (1 ≤ r.steps)
  steps_at =
      let a = k.args in
      let m = k.loop-at in
      steps_in a.s.now a.g a.list.now a.node a.places.now a.answers.now _ q m.at m.offset m.steps m.answers _ _
      (turn_at t k q).holds (part_at t k) (part_to_end a.s.now m.at) (length m.answers) (same_at t k) _ _ gives

pub locate_group-overflow_add-at : goal.locate_group-overflow_add-at
locate_group-overflow_add-at t c =
    let k = (goal.at.locate_group-overflow_add-at t c).In-loop-at in
    omega (arith, (used_at t k c.requires _ _ (c.locate_node-r.ensures (child_at t k c.requires))).1)

pub locate_group-overflow_add-steps : goal.locate_group-overflow_add-steps
locate_group-overflow_add-steps t c =
    let k = (goal.at.locate_group-overflow_add-steps t c).In-loop-at in
    omega (arith, (steps_at t k c.requires _ _ (c.locate_node-r.ensures (child_at t k c.requires))).0)

pub locate_group-loop-at-smaller : goal.locate_group-loop-at-smaller
locate_group-loop-at-smaller t c =
    let k = (goal.at.locate_group-loop-at-smaller t c).In-loop-at in
    omega (arith, used_at t k c.requires _ _ (c.locate_node-r.ensures (child_at t k c.requires)))

pub locate_group-loop-at-preserved : goal.locate_group-loop-at-preserved
locate_group-loop-at-preserved t c =
    let k = (goal.at.locate_group-loop-at-preserved t c).In-loop-at in
    let a = c.args in
    let m = c.loop-at in
    let d = c.locate_node-r in (
      d.auto.answers ∙ m.invariant.0,
      λ q. next a.s.now a.g a.list.now a.node a.places.now a.answers.now _ q m.at m.offset m.steps m.answers _ _
          (turn_at t k q).holds (part_at t k) (part_to_end a.s.now m.at) (length m.answers) (same_at t k) _ _ (d.ensures (child_at t k q)) _
          c.allotted_at.ensures.value c.allotted_at.ensures.small _ c.next_offset-offset.ensures,
    )

pub locate_group-returns : goal.locate_group-returns
locate_group-returns t c = λ q.
    let a = c.args in
    let m = c.loop-at in
    ends a.s.now a.g a.list.now a.node a.places.now a.answers.now _ q m.at m.offset m.steps m.answers
    (over a.s.now m.at _ (λ rest l. l.passing) (m.invariant.1 q) c.loop-at-test.false)

-- ---- the node

pub locate_node-read_front-t-requires : goal.locate_node-read_front-t-requires
locate_node-read_front-t-requires t c = let q = c.requires in front_asks q.tree _ q.is

-- a leaf

pub locate_node-locate_leaf-requires : goal.locate_node-locate_leaf-requires
locate_node-locate_leaf-requires t c =
    let a = c.args in
    leaf_asks a.s.now a.g a.list.now a.node a.offset a.places.now _ c.requires

pub locate_node-returns-then-t : goal.locate_node-returns-then-t
locate_node-returns-then-t t c = λ q.
    let a = c.args in
    leaf_gives a.s.now a.g a.list.now a.node a.offset a.places.now _ q _ c.read_front-t.ensures _ c.child_anchor-p.ensures c.if-t.true _ _
    c.locate_leaf.ensures

-- a group

pub locate_node-slice_bounds-locate_group-end : goal.locate_node-slice_bounds-locate_group-end
locate_node-slice_bounds-locate_group-end t c =
    let q = c.requires in
    omega (arith, (end_in q.tree _ q.is _ c.read_front-t.ensures).1)

pub locate_node-locate_group-steps-requires : goal.locate_node-locate_group-steps-requires
locate_node-locate_group-steps-requires t c =
    let a = c.args in
    let q = c.requires in
    let e = c.read_front-t.ensures in (
      omega (arith, c.decreases, inside_shorter q.tree _ q.is _ e),
      group_asks a.s.now a.g a.list.now a.node a.offset a.places.now _ q _ e _ c.child_anchor-p.ensures c.if-t.false,
    )

pub locate_node-overflow_add-result : goal.locate_node-overflow_add-result
locate_node-overflow_add-result t c =
    let a = c.args in
    let q = c.requires in
    let e = c.read_front-t.ensures in
    let p = c.child_anchor-p.ensures in
    let h = c.if-t.false in
    let asks = group_asks a.s.now a.g a.list.now a.node a.offset a.places.now _ q _ e _ p h in
    omega (
      arith,
      (group_gives a.s.now a.g a.list.now a.node a.offset a.places.now _ q _ e _ p h _ _ _ (c.locate_group-steps.ensures asks)).0,
    )

pub locate_node-returns : goal.locate_node-returns
locate_node-returns t c = λ q.
    let a = c.args in
    let e = c.read_front-t.ensures in
    let p = c.child_anchor-p.ensures in
    let h = c.if-t.false in
    let asks = group_asks a.s.now a.g a.list.now a.node a.offset a.places.now _ q _ e _ p h in
    (group_gives a.s.now a.g a.list.now a.node a.offset a.places.now _ q _ e _ p h _ _ _ (c.locate_group-steps.ensures asks)).1
