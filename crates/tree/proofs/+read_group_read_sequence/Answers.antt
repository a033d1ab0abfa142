-- The two readers call each other. The measure of a group is its bytes, that of a sequence one more; a sequence's loop reads one element a turn, a Cell by
-- itself.
use Rattle.std.proofs.Common.{◌≡◌, arith, ℕ, ◌-◌, ◌≤◌, true, false, ◌==◌, List, length, take, drop, length-drop}
use borrow.Author.Rules.{part_to_end}
use Rattle.std.proofs.lemmas.Bool.Decides.{nat_tests}
use Rattle.std.proofs.lemmas.Result.{err_from_is_err_and}
use Rattle.tree.proofs.Steps.{element_group, sequence_refused, sequence_follows, sequence_ends}
use Rattle.tree.proofs.+read_group_read_sequence.Goals as goal

pub read_group-returns : goal.read_group-returns
read_group-returns t c = element_group _ _ _ _ _ c.requires _ c.read_sequence.ensures

none : (n : ℕ) → true ≡ (n == 0) → n ≡ 0
none n e = grind (arith, nat_tests)

some : (n : ℕ) → false ≡ (n == 0) → n ≡ 0 → ⊥
some n e h = let z : false ≡ (0 == 0) = rw h at e in cc

shorter : (r : List ℕ) (n m : ℕ) → length r ≤ m → length (take (length r - n) (drop n r)) ≤ m
shorter r n m h = rw (part_to_end r n, length-drop) (omega arith)

pub read_sequence-returns-in_err-size : goal.read_sequence-returns-in_err-size
read_sequence-returns-in_err-size t c =
    let p = err_from_is_err_and c.from_residual.result c.from_residual.ensures.1 in
    rw (p.1, p.2) (c.loop-rest.invariant.same _ (sequence_refused _ _ _ _ (some _ c.loop-rest-test.ensures) _ c.in_err-size.ensures))

-- a Cell is read
pub read_sequence-loop-rest-preserved-in-Leaf : goal.read_sequence-loop-rest-preserved-in-Leaf
read_sequence-loop-rest-preserved-in-Leaf t c =
    let k = rw c.in-Leaf.is at c.in_ok-size.ensures in
    record {
      within = shorter _ _ _ c.loop-rest.invariant.within;
      same = λ r h. c.loop-rest.invariant.same r (sequence_follows _ _ _ _ (some _ c.loop-rest-test.ensures) _ _ k.is k.low k.whole r h);
    }

-- a Row or a Column is read
pub read_sequence-returns-in_err-nodes-in-Group : goal.read_sequence-returns-in_err-nodes-in-Group
read_sequence-returns-in_err-nodes-in-Group t c =
    let p = err_from_is_err_and c.from_residual-in_err-nodes-in-Group.result c.from_residual-in_err-nodes-in-Group.ensures.1 in
    rw (p.1, p.2) (c.loop-rest.invariant.same _ (sequence_refused _ _ _ _ (some _ c.loop-rest-test.ensures) _ c.in_err-nodes-in-Group.ensures))

pub read_sequence-loop-rest-preserved : goal.read_sequence-loop-rest-preserved
read_sequence-loop-rest-preserved t c =
    let k = rw c.in-Group.is at c.in_ok-size.ensures in
    let r = c.in_ok-nodes-in-Group.ensures in
    let low : 3 ≤ c.in-Group.size = omega (arith, k.end_is) in
    record {
      within = shorter _ _ _ c.loop-rest.invariant.within;
      same = λ x h. c.loop-rest.invariant.same x (sequence_follows _ _ _ _ (some _ c.loop-rest-test.ensures) _ _ r low k.whole x h);
    }

pub read_sequence-returns : goal.read_sequence-returns
read_sequence-returns t c = c.loop-rest.invariant.same _ (sequence_ends _ _ _ _ (none _ c.loop-rest-test.ensures))
