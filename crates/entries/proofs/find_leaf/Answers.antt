use native.Mathlib.Omega.{arith}
use Rattle.entries.proofs.Passing.{seeks_first, seeking_none, seeking_hit, seeks_on, part_room, forward}
use Rattle.entries.proofs.find_leaf.Goals as goal

pub loop-i-init : goal.loop-i-init
loop-i-init c = (omega arith, λ q. seeks_first _ q _)

pub entry_at-e-requires : goal.entry_at-e-requires
entry_at-e-requires c = part_room (c.loop-i.invariant.1 c.requires).going c.loop-i-test.true

pub returns-then-e-node : goal.returns-then-e-node
returns-then-e-node c = λ q. seeking_hit _ q _ _ (c.loop-i.invariant.1
    q) c.loop-i-test.true _ c.entry_at-e.ensures c.if-e-node.true

pub entry_length-i-requires : goal.entry_length-i-requires
entry_length-i-requires c = part_room (c.loop-i.invariant.1 c.requires).going
    c.loop-i-test.true

pub overflow_add-i : goal.overflow_add-i
overflow_add-i c = omega (arith, forward (c.loop-i.invariant.1 c.requires).going c.loop-i-test.true _ c.entry_length-i.ensures.value)

pub loop-i-smaller : goal.loop-i-smaller
loop-i-smaller c = omega (arith, forward (c.loop-i.invariant.1 c.requires).going c.loop-i-test.true _ c.entry_length-i.ensures.value)

pub loop-i-preserved : goal.loop-i-preserved
loop-i-preserved c = (
  omega (arith, forward (c.loop-i.invariant.1 c.requires).going c.loop-i-test.true _ c.entry_length-i.ensures.value),
  λ q. seeks_on _ q _ _ (c.loop-i.invariant.1 q) c.loop-i-test.true _ c.entry_at-e.ensures
      c.if-e-node.false _ c.entry_length-i.ensures.value,
)

pub returns : goal.returns
returns c = λ q. seeking_none _ q _ _ (c.loop-i.invariant.1 q) c.loop-i-test.false
