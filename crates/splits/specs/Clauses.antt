-- What the functions of this crate require and ensure, beyond the definitions; no theorem mentions it.
use Rattle.std.specs.Prelude.{ℕ, ◌+◌, ◌≤◌, ◌<◌, ◌≡◌, List, length, take, drop, get_or}
use Rattle.splits.specs.declared.SplitList.{SplitList}
use Rattle.splits.specs.declared.cut.CutAt.{CutAt}
use Rattle.splits.specs.declared.Positions.{Positions}
use Rattle.splits.specs.Splits.{reach, short_splits3, pair_of}
use Rattle.splits.specs.Lists.{list_of, position_list}

-- over the first n of s, the loop of a cut stops before entry `at`, at position `pos`
pub record Stops (step w n : ℕ) (s : List ℕ) (at pos : ℕ) : Type 0 where
  pub within : at ≤ n
  pub low : pos ≤ w
  pub high : at < n → w ≤ pos + get_or s at 0
  pub taken : (reach step w (take n s) 0).taken ≡ take at (take n s)
  pub left : (reach step w (take n s) 0).left ≡ drop at (take n s)
  pub reached : (reach step w (take n s) 0).pos ≡ pos

-- what `short_splits3` of s₀ answers: the pieces taken are at the front of s, those left past the ones that are gone
pub record CutsIn (w : ℕ) (r : CutAt) (s₀ s : List ℕ) : Type 0 where
  pub split : r.split ≡ (short_splits3 s₀ w).split
  pub pair : r.pair ≡ pair_of (short_splits3 s₀ w)
  pub taken : take r.pair.taken s ≡ (short_splits3 s₀ w).taken
  pub left : drop r.gone s ≡ (short_splits3 s₀ w).left
  pub some : r.pair.taken ≤ r.gone
  pub within : r.gone ≤ length s₀

-- what the loop of `short_splits` answers
pub record PositionsListed (w : ℕ) (list : SplitList) (positions : Positions) (pos : ℕ) : Type 0 where
  pub stops : Stops 0 w list.count list.pieces positions.count pos
  pub listed : positions ≡ position_list (reach 0 w (list_of list) 0).positions
