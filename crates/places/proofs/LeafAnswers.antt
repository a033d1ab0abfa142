-- What the walk writes at its leaves, place by place.
use mathlib.Core.Path.{◌≡◌, refl, sym, ◌∙◌}
use Prim.Native.Nat.{ℕ, suc, ◌+◌, ◌-◌, ◌*◌, ◌≤◌, ◌<◌}
use native.Mathlib.Omega.{arith}
use mathlib.Core.Bool.{Bool, true, false}
use mathlib.Core.List.{List, [], ◌∷◌, ◌++◌, append_assoc, append-nil}
use lib.ListN.{length, get_or, take, drop, set, drop_of_length-le}
use lib.Seq.{take-suc-set, drop-set-lt, drop-cons, take_all}
use Rattle.common.specs.Choice.{pick}
use Rattle.sizes.specs.declared.Size.{Size}
use Rattle.sizes.specs.Clauses.{SmallSize}
use Rattle.places.specs.declared.anchor.Anchor.{Anchor}
use Rattle.places.specs.declared.area.Area.{Area}
use Rattle.places.specs.Words.{line_of, column_of}
use Rattle.places.specs.Places.{covers}
use Rattle.places.specs.Locating.{area_at}
use Rattle.places.specs.Clauses.{answer_at, answers_at, answers_by, SmallArea}

-- ---- one place

module _ (a : Area) (p before l k : ℕ) (le : l ≡ line_of p) (ke : k ≡ column_of p) where
  pub answer_covered : covers a l k ≡ true → a.node * 4294967296 + (l - a.line) * 65536 + (k - a.column) ≡ answer_at a p before
  unfolding answer_at
  answer_covered h = rw (← le, ← ke, h)

  pub answer_other : covers a l k ≡ false → before ≡ answer_at a p before
  unfolding answer_at
  answer_other h = rw (← le, ← ke, h)

-- ---- the loop over the places

-- one more place is tested
pub answer_more : (a : Area) (ps fs : List ℕ) (i v : ℕ) → i < length ps → i < length fs → v ≡ answer_at a (get_or ps i 0) (get_or fs i 0)
    → take (suc i) (set fs i v) ++ answers_at a (drop (suc i) ps) (drop (suc i) (set fs i v)) ≡ take i fs ++ answers_at a (drop i ps) (drop i fs)
unfolding answers_at
answer_more a ps fs i v h k e = rw (take-suc-set fs i v k, drop-set-lt (suc i) fs i v (omega arith), drop-cons ps i 0 h, drop-cons fs i 0 k, append_assoc, e)

-- all places are tested
pub answers_end : (a : Area) (ps f₀ fs : List ℕ) (i : ℕ) → length ps ≤ i → length fs ≡ length ps
    → answers_at a ps f₀ ≡ take i fs ++ answers_at a (drop i ps) (drop i fs) → fs ≡ answers_at a ps f₀
unfolding answers_at
answers_end a ps f₀ fs i h k e =
    sym (e ∙ rw (take_all i fs (omega arith), drop_of_length-le ps {i = i} h, drop_of_length-le fs {i = i} (omega arith), append-nil fs))

-- ---- at one leaf after the other

pub answers_one : (a : Area) (ps fs : List ℕ) → answers_by (a ∷ []) ps fs ≡ answers_at a ps fs
unfolding answers_by
answers_one a ps fs = refl

pub answers_append : (rs bs : List Area) (ps fs : List ℕ) → answers_by (rs ++ bs) ps fs ≡ answers_by bs ps (answers_by rs ps fs)
unfolding answers_by
answers_append [] bs ps fs = refl
answers_append (a ∷ rs) bs ps fs = answers_append rs bs ps (answers_at a ps fs)

-- ---- a leaf's area is small

pick_low : (b : Bool) (n : ℕ) → pick b n 0 ≤ n
pick_low true n = omega arith
pick_low false n = omega arith

pub area_small : (gap : ℕ) (z : Size) (node : ℕ) (p : Anchor) → node < 512 → gap ≤ 1 → SmallSize z → SmallArea (area_at gap z node p)
unfolding area_at
area_small gap z node p n h k =
    record { node = n; tall = omega (arith, k.tall, pick_low p.last_row gap); wide = omega (arith, k.wide, pick_low p.last_col gap) }
