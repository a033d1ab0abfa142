-- How large the ends of a planning tree can be: 42 for each of its bytes.
use mathlib.Core.Path.{◌≡◌, ap, subst}
use Prim.Native.Nat.{ℕ, zero, suc, ◌+◌, ◌*◌, ◌≤◌, ◌<◌}
use native.Mathlib.Omega.{arith}
use mathlib.Core.Bool.{Bool, true, false}
use mathlib.Core.List.{List, [], ◌∷◌, map}
use lib.ListN.{length, get_or, take, drop, length-drop}
use lib.Seq.{get_or-drop}
use Rattle.common.specs.Choice.{pick}
use Rattle.common.specs.Sums.{total}
use Rattle.settings.specs.declared.Settings.{Settings}
use Rattle.settings.specs.Promises.{Ranges}
use Rattle.tree.specs.Tree.{Axis, across, down}
use Rattle.tree.specs.Bytes.{length_at}
use Rattle.tree.specs.Promises.{contents, PlanEncodes, PlanEncodesAll, GotPlan}
use Rattle.tree.specs.Planning.{Plan, Plans}
use Rattle.tree.proofs.PlanSound.{plan_whole}
use Rattle.sizes.specs.Sizes.{along, sep}
use Rattle.sizes.proofs.Bounds.{each, leaf_le, sep_le, span_le}
use Rattle.sizes.proofs.Limits.{contents_le, each_small}
use Rattle.plan.specs.Ends.{no_plans?, range_size, end_size, end_sizes}
use Rattle.plan.specs.Clauses.{ShortSize}

-- ---- a range's numbers are bytes

abbrev pub LowBytes : List ℕ → Type 0
LowBytes s = (i : ℕ) → get_or s i 0 < 256

take_low : (n : ℕ) (s : List ℕ) → LowBytes s → LowBytes (take n s)
take_low zero s h i = omega arith
take_low (suc n) [] h i = omega arith
take_low (suc n) (b ∷ s) h zero = h zero
take_low (suc n) (b ∷ s) h (suc i) = take_low n s (λ j. h (suc j)) i

drop_low : (n : ℕ) (s : List ℕ) → LowBytes s → LowBytes (drop n s)
drop_low n s h i = rw (get_or-drop n s i 0) (h (n + i))

contents_low : (s : List ℕ) → LowBytes s → LowBytes (contents s)
contents_low s h = take_low (length_at s) (drop 3 s) (drop_low 3 s h)

-- ---- sizes

pick_low : (m : Bool) (a b : ℕ) → a < 256 → b < 256 → pick m b a < 256
pick_low true a b h k = k
pick_low false a b h k = h

range_le : (s : Settings) (d : Axis) (m : Bool) (x y z w : ℕ) (r : List ℕ) → r ≡ x ∷ y ∷ z ∷ w ∷ [] → LowBytes r
    → along d (range_size s (pick m y x) (pick m w z)) + sep s ≤ each s d + 255
unfolding along range_size each
range_le s across m x y z w r e h = let l = subst LowBytes e h in omega (arith, pick_low m x y (l 0) (l 1))
range_le s down m x y z w r e h = let l = subst LowBytes e h in omega (arith, pick_low m z w (l 2) (l 3))

module _ (s : Settings) (m : Bool) (d : Axis) (h : each s d ≤ 34) where
  group_le : (a : Axis) (ps : Plans) (n : ℕ) → total (map (along d) (end_sizes s m ps)) + length (end_sizes s m ps) * sep s ≤ 42 * n
      → along d (end_size s m (Plan.group a ps)) + sep s ≤ 42 * (3 + n)
  unfolding end_size no_plans?
  group_le a Plans.none n i = omega (arith, leaf_le s d [])
  group_le a (Plans.more p ps) n i = omega (arith, span_le s d a (end_sizes s m (Plans.more p ps)), sep_le s d)

  mutual
    unfolding PlanEncodes end_size total

    end_le : (p : Plan) (b : List ℕ) → PlanEncodes p b → LowBytes b → along d (end_size s m p) + sep s ≤ 42 * (3 + length_at b)
    end_le (Plan.cell t) b k l = omega (arith, leaf_le s d t, contents_le b, ap length k.2)
    end_le (Plan.range x y z w) b k l = omega (arith, range_le s d m x y z w (contents b) k.2 (contents_low b l), contents_le b, ap length k.2)
    end_le (Plan.group a ps) b k l = group_le a ps (length_at b) (omega (arith, contents_le b, ends_le ps (contents b) k.2 (contents_low b l)))

    ends_le : (ps : Plans) (b : List ℕ) → PlanEncodesAll ps b → LowBytes b
        → total (map (along d) (end_sizes s m ps)) + length (end_sizes s m ps) * sep s ≤ 42 * length b
    ends_le Plans.none b k l = omega arith
    ends_le (Plans.more p ps) b k l =
        let n = 3 + length_at b in
        omega (arith, end_le p b k.0 l, ends_le ps (drop n b) k.1 (drop_low n b l), length-drop n b, plan_whole p b k.0)

-- an accepted planning tree's: 21 bits
module _ (s : Settings) (m : Bool) (p : Plan) (b : List ℕ) (size n : ℕ) (r : Ranges s) (low : LowBytes b) (g : GotPlan true b p size n) where
  side_short : (d : Axis) → along d (end_size s m p) < 2097152
  side_short d = omega (arith, end_le s m d (each_small s d r) p b g.is low, g.short, g.ends)

  pub end_short : ShortSize (end_size s m p)
  unfolding along
  end_short = record { wide = side_short across; tall = side_short down }
