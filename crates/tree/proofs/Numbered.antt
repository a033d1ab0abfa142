-- A refusal of the readers has its number again.
use Rattle.std.proofs.Common.{◌≡◌, refl, ℕ, zero, suc, ◌≤◌, Bool, List, arith}
use mathlib.Core.Logic.{inl, inr}
use Rattle.common.specs.Refusals.{number_of, refusal_of}
use Rattle.tree.specs.Planning.{PlanOne, whole_in}
use Rattle.tree.specs.Promises.{PlanRefusal}
use Rattle.tree.specs.Clauses.{read_nodes, numbered, plan_answer}
use Rattle.tree.proofs.PlanSound.{plan_refusal}

again : (k : ℕ) → 2 ≤ k → k ≤ 5 → number_of (refusal_of k) ≡ k
unfolding refusal_of
again zero h l = absurd (omega arith)
again (suc zero) h l = absurd (omega arith)
again (suc (suc zero)) h l = refl
again (suc (suc (suc zero))) h l = refl
again (suc (suc (suc (suc zero)))) h l = refl
again (suc (suc (suc (suc (suc zero))))) h l = refl
again (suc (suc (suc (suc (suc (suc k)))))) h l = absurd (omega arith)

number_again : (p : Bool) (k : ℕ) → PlanRefusal p k → number_of (refusal_of k) ≡ k
unfolding refusal_of
number_again p k (inl h) = again k h.0 h.1
number_again p k (inr h) = rw h.1

pub answer_numbered : (p : Bool) (s : List ℕ) → numbered (read_nodes (whole_in p s)) ≡ plan_answer (whole_in p s)
answer_numbered p s = go (whole_in p s) refl
  where
    go : (x : PlanOne) → whole_in p s ≡ x → numbered (read_nodes x) ≡ plan_answer x
    go (PlanOne.refused k) e = rw (number_again p k (plan_refusal p s k e))
    go (PlanOne.one q size n) e = refl
