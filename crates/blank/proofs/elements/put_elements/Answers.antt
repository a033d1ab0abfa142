use mathlib.Core.Path.{◌≡◌, refl, ◌∙◌}
use Prim.Native.Nat.{ℕ, ◌+◌, ◌-◌, ◌≤◌, ◌<◌}
use native.Mathlib.Omega.{arith}
use lib.ListN.{length, take, drop, length-take}
use borrow.Author.Rules.{rules}
use Rattle.blank.specs.Clauses.{text_at}
use Rattle.blank.proofs.ElementPass.{part, put_begins, put_in, put_more, put_ends}
use Rattle.blank.proofs.elements.put_elements.Goals as goal
use Rattle.blank.proofs.elements.put_elements.Goals.{In-loop-at}

-- inside the loop: the next element is whole
in_at : (c : In-loop-at) → let s = c.args.tree.now in let l = c.loop-at in
    (3 + text_at (part s l.at) ≤ length (part s l.at)) × (l.at + (3 + text_at (part s l.at)) ≤ length s) × (l.node < 512)
in_at c = let q = c.requires.0 in put_in _ q _ _ _ _ _ (c.loop-at.invariant.1 q) c.loop-at-test.true

-- and n bytes of text follow its front
text_in : (c : In-loop-at) (n : ℕ) → let s = c.args.tree.now in let l = c.loop-at in
    n ≡ text_at (part s l.at) → (3 + n ≤ length (part s l.at)) × (l.at + 3 + n ≤ length s)
text_in c n e = (omega (arith, (in_at c).0), omega (arith, (in_at c).1))

pub loop-at-init : goal.loop-at-init
loop-at-init c = (refl, λ q. put_begins _ q _ _)

pub text_length-n-requires : goal.text_length-n-requires
text_length-n-requires c = omega (arith, (in_at (goal.at.text_length-n-requires c).In-loop-at).0)

pub length_at-requires : goal.length_at-requires
length_at-requires c = omega (arith, (in_at (goal.at.length_at-requires c).In-loop-at).0)

pub put_front-requires : goal.put_front-requires
put_front-requires c = omega (arith, (in_at (goal.at.put_front-requires c).In-loop-at).1, c.loop-at.invariant.0, c.requires.1)

pub slice_bounds-put_text-end : goal.slice_bounds-put_text-end
slice_bounds-put_text-end c = omega (arith, (text_in (goal.at.slice_bounds-put_text-end c).In-loop-at _ c.text_length-n.ensures).0)

pub bounds-dots-node : goal.bounds-dots-node
bounds-dots-node c = (in_at (goal.at.bounds-dots-node c).In-loop-at).2

pub put_text-requires : goal.put_text-requires
put_text-requires c =
    let n = c.text_length-n.result in
    let long : length c.put_front.new.s ≡ length c.loop-at.out = search rules in
    let text : length (take (3 + n - 3) (drop 3 (part c.args.tree.now c.loop-at.at))) ≤ n = rw length-take (omega arith) in
    omega (arith, (text_in (goal.at.put_text-requires c).In-loop-at n c.text_length-n.ensures).1, c.loop-at.invariant.0, c.requires.1)

pub overflow_add-node : goal.overflow_add-node
overflow_add-node c = omega (arith, (in_at (goal.at.overflow_add-node c).In-loop-at).2)

pub loop-at-preserved : goal.loop-at-preserved
loop-at-preserved c =
    let l = c.loop-at in
    let n = c.length_at.ensures in
    let long : length c.put_text.new.out ≡ length l.out = search rules in (
      long ∙ l.invariant.0,
      λ q. put_more _ q _ _ _ _ _ (l.invariant.1 q) c.loop-at-test.true _ _ _ _ n.value n.small c.text_length-n.ensures c.put_front.ensures c.put_text.ensures,
    )

pub returns : goal.returns
returns c = λ q. put_ends _ q _ _ _ _ _ (c.loop-at.invariant.1 q) c.loop-at-test.false
