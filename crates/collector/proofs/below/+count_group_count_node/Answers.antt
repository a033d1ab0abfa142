use Rattle.std.proofs.Common.{◌≡◌, ◌∙◌, refl, arith, ℕ, ◌+◌, ◌≤◌, ◌<◌, List, length, drop}
use borrow.Author.Rules.{part_to_end}
use Rattle.tree.specs.Tree.{nodes}
use Rattle.collector.specs.Below.{belows}
use Rattle.tree.specs.Bytes.{length_at}
use Rattle.tree.proofs.Fronts.{part_shorter, front_asks, end_in, inside_shorter}
use Rattle.tree.proofs.Passing.{Some, More, turn, over, next_whole}
use Rattle.collector.specs.Clauses.{ReadyBranch, ReadyBranches, CountsBelow}
use Rattle.collector.proofs.Branches.{Turn, kid_ready, turned, ends, node_in, leaf_gives, group_ready, count_in, group_gives}
use Rattle.collector.proofs.below.+count_group_count_node.Goals as goal

-- ---- the group: where one more child is to come, in the part p that starts at byte `at`

module _ (s : List ℕ) (node len : ℕ) (q : ReadyBranches s node len) (b₀ : List ℕ) (at next : ℕ) (b : List ℕ) (some : Some (Turn s node len q b₀ at next b))
    (h : at < length s) (p : List ℕ) (pe : p ≡ drop at s) where
  abbrev turn_at : More (Turn s node len q b₀ at next b)
  turn_at = turn s at _ (λ rest l. l.passing) some h

  whole_at : 3 ≤ length p
  whole_at = omega (arith, (next_whole s at turn_at.holds.passing p pe).0)

  kid_at : (m : ℕ) → m ≡ len → ReadyBranch p next m
  kid_at m e = kid_ready s node len q b₀ at next b _ _ turn_at.holds p pe m e

  -- the child is counted
  turned_at : (m : ℕ) (e : m ≡ len) (r : ℕ) (b₁ : List ℕ) → CountsBelow next (nodes (kid_at m e).tree) (belows (kid_at m e).tree) r b b₁
      → Some (Turn s node len q b₀ (at + (3 + length_at p)) r b₁)
  unfolding kid_at
  turned_at m e r b₁ k = turned s node len q b₀ at next b _ _ turn_at.holds p pe m e r b₁ k

pub count_group-length_at-requires : goal.count_group-length_at-requires
count_group-length_at-requires t c =
    let s = c.args.s.now in
    let m = c.loop-at in
    whole_at s _ _ c.requires _ m.at m.next m.below (m.invariant.1 c.requires) c.loop-at-test.true _ (part_to_end s m.at)

pub count_group-count_node-next-requires : goal.count_group-count_node-next-requires
count_group-count_node-next-requires t c =
    let s = c.args.s.now in
    let m = c.loop-at in (
      part_shorter s m.at t c.decreases,
      kid_at s _ _ c.requires _ m.at m.next m.below (m.invariant.1 c.requires) c.loop-at-test.true _ (part_to_end s m.at) _ m.invariant.0,
    )

pub count_group-loop-at-preserved : goal.count_group-loop-at-preserved
count_group-loop-at-preserved t c =
    let s = c.args.s.now in
    let m = c.loop-at in
    let d = c.count_node-next in (
      d.auto.below ∙ m.invariant.0,
      λ q.
          let some = m.invariant.1 q in
          let h = c.loop-at-test.true in
          let pe = part_to_end s m.at in
          rw c.length_at.ensures.value (turned_at s _ _ q _ m.at m.next m.below some h _ pe _ m.invariant.0 _ _
          (d.ensures (kid_at s _ _ q _ m.at m.next m.below some h _ pe _ m.invariant.0))),
    )

pub count_group-returns : goal.count_group-returns
count_group-returns t c = λ q.
    let a = c.args in
    let m = c.loop-at in
    ends a.s.now a.node _ q a.below.now m.at m.next m.below (over a.s.now m.at _ (λ rest l. l.passing) (m.invariant.1 q) c.loop-at-test.false)

-- ---- the node

pub count_node-read_front-t-requires : goal.count_node-read_front-t-requires
count_node-read_front-t-requires t c = let q = c.requires in front_asks q.tree _ q.is

pub count_node-bounds-below-node : goal.count_node-bounds-below-node
count_node-bounds-below-node t c = (node_in _ _ _ c.requires _ c.read_front-t.ensures).0

pub count_node-returns-then-t : goal.count_node-returns-then-t
count_node-returns-then-t t c = λ q. leaf_gives _ _ _ q _ c.read_front-t.ensures c.if-t.true _ _ refl

pub count_node-slice_bounds-count_group-end : goal.count_node-slice_bounds-count_group-end
count_node-slice_bounds-count_group-end t c = let q = c.requires in omega (arith, (end_in q.tree _ q.is _ c.read_front-t.ensures).1)

pub count_node-count_group-next-requires : goal.count_node-count_group-next-requires
count_node-count_group-next-requires t c =
    let q = c.requires in (
      omega (arith, c.decreases, inside_shorter q.tree _ q.is _ c.read_front-t.ensures),
      group_ready _ _ _ q _ c.read_front-t.ensures c.if-t.false,
    )

-- the children are counted
pub count_node-overflow_sub-below : goal.count_node-overflow_sub-below
count_node-overflow_sub-below t c =
    let q = c.requires in
    let e = c.read_front-t.ensures in
    let h = c.if-t.false in
    omega (arith, (count_in _ _ _ q _ e h _ _ _ (c.count_group-next.ensures (group_ready _ _ _ q _ e h))).0)

pub count_node-overflow_cast-below : goal.count_node-overflow_cast-below
count_node-overflow_cast-below t c =
    let q = c.requires in
    let e = c.read_front-t.ensures in
    let h = c.if-t.false in
    omega (arith, (count_in _ _ _ q _ e h _ _ _ (c.count_group-next.ensures (group_ready _ _ _ q _ e h))).1)

pub count_node-bounds-below-node-2 : goal.count_node-bounds-below-node-2
count_node-bounds-below-node-2 t c = omega (arith, (node_in _ _ _ c.requires _ c.read_front-t.ensures).0, c.count_group-next.auto.below)

pub count_node-returns : goal.count_node-returns
count_node-returns t c = λ q.
    let e = c.read_front-t.ensures in
    let h = c.if-t.false in
    group_gives _ _ _ q _ e h _ _ _ (c.count_group-next.ensures (group_ready _ _ _ q _ e h)) _ refl
