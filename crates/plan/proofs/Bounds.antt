-- `plan_bounds`: every choice of a planning tree has its size between the least and the greatest. Nothing here unfolds `sep`: it holds for every separator
-- width.
use mathlib.Core.Path.{◌≡◌, refl, ap}
use Prim.Native.Nat.{ℕ, suc, ◌≤◌}
use native.Mathlib.Omega.{arith}
use mathlib.Core.Bool.{true, false}
use mathlib.Core.List.{List, [], ◌∷◌, map}
use lib.ListN.{length}
use Rattle.common.specs.Sums.{total, greatest}
use Rattle.settings.specs.declared.Settings.{Settings}
use Rattle.tree.specs.Tree as tree
use Rattle.tree.specs.Tree.{Axis, across, down, Tree, Trees}
use Rattle.tree.specs.Planning.{Plan, Plans}
use Rattle.sizes.specs.declared.Size.{Size}
use Rattle.sizes.specs.Sizes.{along, beside, sized, spanned, leaf_size, natural, naturals}
use Rattle.sizes.specs.Clauses.{Fits}
use Rattle.sizes.proofs.Fill.{fits_refl}
use Rattle.plan.specs.Promises.{WithinRange, Chooses, Chooses*}
use Rattle.plan.specs.Ends.{no_plans?, range_size, end_size, end_sizes, outer}

-- ---- larger children make a larger group

unfoldable pub FitsEach : List Size → List Size → Type 0
FitsEach [] [] = Unit {0}
FitsEach [] (z ∷ zs) = ⊥
FitsEach (n ∷ ns) [] = ⊥
FitsEach (n ∷ ns) (z ∷ zs) = Fits n z × FitsEach ns zs

record Larger (f : Size → ℕ) (ns zs : List Size) : Type 0 where
  sum : total (map f ns) ≤ total (map f zs)
  most : greatest (map f ns) ≤ greatest (map f zs)
  many : length ns ≡ length zs

larger : (f : Size → ℕ) → ((n z : Size) → Fits n z → f n ≤ f z) → (ns zs : List Size) → FitsEach ns zs → Larger f ns zs
unfolding FitsEach total greatest
larger f m [] [] h = record { sum = omega arith; most = omega arith; many = refl }
larger f m [] (z ∷ zs) h = absurd h
larger f m (n ∷ ns) [] h = absurd h
larger f m (n ∷ ns) (z ∷ zs) h =
    let k = larger f m ns zs h.1 in
    record { sum = omega (arith, m n z h.0, k.sum); most = omega (arith, m n z h.0, k.most); many = ap suc k.many }

along_fits : (a : Axis) (n z : Size) → Fits n z → along a n ≤ along a z
unfolding along
along_fits across n z f = f.wide
along_fits down n z f = f.tall

beside_fits : (a : Axis) (n z : Size) → Fits n z → beside a n ≤ beside a z
unfolding beside
beside_fits across n z f = f.tall
beside_fits down n z f = f.wide

sized_fits : (a : Axis) (n m x y : ℕ) → n ≤ x → m ≤ y → Fits (sized a n m) (sized a x y)
unfolding sized
sized_fits across n m x y h k = record { wide = h; tall = k }
sized_fits down n m x y h k = record { wide = k; tall = h }

spanned_fits : (s : Settings) (a : Axis) (ns zs : List Size) → FitsEach ns zs → Fits (spanned s a ns) (spanned s a zs)
unfolding spanned
spanned_fits s a ns zs h =
    let p = larger (along a) (along_fits a) ns zs h in
    let q = larger (beside a) (beside_fits a) ns zs h in
    rw p.many (sized_fits a _ _ _ _ (omega (arith, p.sum)) q.most)

-- ---- both ends

record Between (s : Settings) (p : Plan) (t : Tree) : Type 0 where
  least : Fits (end_size s false p) (natural s t)
  greatest : Fits (natural s t) (end_size s true p)

record BetweenEach (s : Settings) (ps : Plans) (ts : Trees) : Type 0 where
  least : FitsEach (end_sizes s false ps) (naturals s ts)
  greatest : FitsEach (naturals s ts) (end_sizes s true ps)

range_case : (s : Settings) (a b c d : ℕ) (u : List ℕ) → WithinRange a b c d u → Between s (Plan.range a b c d) (tree.cell u)
unfolding end_size range_size natural leaf_size
range_case s a b c d u w = record {
  least = record { wide = omega (arith, w.least_width_lem); tall = omega (arith, w.least_lines) };
  greatest = record { wide = omega (arith, w.greatest_width_lem); tall = omega (arith, w.greatest_lines) };
}

cell_case : (s : Settings) (t u : List ℕ) → t ≡ u → Between s (Plan.cell t) (tree.cell u)
unfolding end_size natural
cell_case s t u e = rw e (record { least = fits_refl _; greatest = fits_refl _ })

group_case : (s : Settings) (x : Axis) (ps : Plans) (us : Trees) → Chooses* ps us → BetweenEach s ps us → Between s (Plan.group x ps) (tree.group x us)
unfolding end_size natural no_plans? tree.empty? Chooses
group_case s x Plans.none tree.none k h = record { least = fits_refl _; greatest = fits_refl _ }
group_case s x Plans.none (tree.more u us) k h = absurd k
group_case s x (Plans.more p ps) tree.none k h = absurd k
group_case s x (Plans.more p ps) (tree.more u us) k h = record { least = spanned_fits s x _ _ h.least; greatest = spanned_fits s x _ _ h.greatest }

axis_case : (s : Settings) (x y : Axis) (ps : Plans) (us : Trees) → x ≡ y → Between s (Plan.group x ps) (tree.group x us)
    → Between s (Plan.group x ps) (tree.group y us)
axis_case s x y ps us e h = rw (← e) h

mutual
  unfolding Chooses end_size naturals FitsEach

  between : (s : Settings) (p : Plan) (t : Tree) → Chooses p t → Between s p t
  between s (Plan.cell t) (tree.cell u) k = cell_case s t u k
  between s (Plan.cell t) (tree.group y us) k = absurd k
  between s (Plan.range a b c d) (tree.cell u) k = range_case s a b c d u k
  between s (Plan.range a b c d) (tree.group y us) k = absurd k
  between s (Plan.group x ps) (tree.cell u) k = absurd k
  between s (Plan.group x ps) (tree.group y us) k = axis_case s x y ps us k.0 (group_case s x ps us k.1 (between* s ps us k.1))

  between* : (s : Settings) (ps : Plans) (ts : Trees) → Chooses* ps ts → BetweenEach s ps ts
  between* s Plans.none tree.none k = record { least = tt; greatest = tt }
  between* s Plans.none (tree.more u us) k = absurd k
  between* s (Plans.more p ps) tree.none k = absurd k
  between* s (Plans.more p ps) (tree.more u us) k =
      let h = between s p u k.0 in
      let l = between* s ps us k.1 in
      record { least = (h.least, l.least); greatest = (h.greatest, l.greatest) }

-- ---- the theorem

-- W and H of a choice are between the least and the greatest
pub record BetweenEnds (s : Settings) (p : Plan) (t : Tree) : Type 0 where
  pub least : Fits (outer s (end_size s false p)) (outer s (natural s t))
  pub greatest : Fits (outer s (natural s t)) (outer s (end_size s true p))

outer_fits : (s : Settings) (n z : Size) → Fits n z → Fits (outer s n) (outer s z)
unfolding outer
outer_fits s n z f = record { wide = omega (arith, f.wide); tall = omega (arith, f.tall) }

pub plan_bounds : (s : Settings) (p : Plan) (t : Tree) → Chooses p t → BetweenEnds s p t
plan_bounds s p t k = let h = between s p t k in record { least = outer_fits s _ _ h.least; greatest = outer_fits s _ _ h.greatest }
