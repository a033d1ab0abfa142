use mathlib.Core.Path.{◌≡◌, refl, sym}
use Prim.Native.Nat.{ℕ, zero, suc, ◌+◌}
use mathlib.Core.List.{List, []}
use lib.ListN.{replicate}
use Rattle.block.specs.Block.{edge}
use Rattle.paint.specs.Clauses.{pasted, right_of}
use Rattle.paint.proofs.borders.print_right.Goals as goal

pasted_empty : (n : ℕ) (o : List ℕ) (at stride : ℕ) → pasted o at stride (replicate n []) ≡ o
unfolding pasted
pasted_empty zero o at stride = refl
pasted_empty (suc n) o at stride = pasted_empty n o (at + stride) stride

pub returns-then-b : goal.returns-then-b
unfolding right_of edge
returns-then-b c = rw c.if-b.true c.stack.ensures.out_is

pub returns-else-b : goal.returns-else-b
unfolding right_of edge
returns-else-b c = rw c.if-b.false (sym (pasted_empty c.args.n _ _ _))
