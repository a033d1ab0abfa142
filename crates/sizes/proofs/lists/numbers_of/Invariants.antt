use Rattle.std.proofs.Common.{◌≡◌, ℕ, ◌+◌, ◌*◌, ◌<◌, length, get_or}
use Rattle.sizes.proofs.lists.numbers_of.Given as goal

abbrev pub invariant-loop-n : goal.invariant-loop-n
invariant-loop-n l = record { long : length l.out ≡ 512; below : (i : ℕ) → i < l.n → get_or l.out i 0 ≡ get_or l.list (4 * i + l.k) 0 }
