-- The span of a group's children, as they are measured one after the other: the loop of the natural sizes, and of a planning tree's ends.
use mathlib.Core.Path.{◌≡◌}
use Prim.Native.Nat.{ℕ, ◌+◌, ◌-◌, ◌*◌, ◌≤◌, ◌<◌, max}
use native.Mathlib.Omega.{arith}
use mathlib.Core.Bool.{Bool}
use mathlib.Core.List.{List, [], ◌∷◌, map}
use lib.ListN.{length}
use Rattle.common.specs.Sums.{total, greatest}
use Rattle.settings.specs.declared.Settings.{Settings}
use Rattle.tree.specs.Bytes.{axis_of}
use Rattle.sizes.specs.declared.Size.{Size}
use Rattle.sizes.specs.declared.natural.Span.{Span}
use Rattle.sizes.specs.Sizes.{along, beside, sep, spanned}
use Rattle.sizes.specs.Clauses.{with_child, span_of, SizeUnder}
use Rattle.sizes.proofs.Fill.{along_sized, beside_sized}
use Rattle.sizes.proofs.Sides.{sides_under, under_sides}

-- g spans the sizes `all` but for `rest`, which are still to come
pub record Spans (a : Bool) (all : List Size) (g : Span) (rest : List Size) : Type 0 where
  pub along_is : g.along + total (map (along (axis_of a)) rest) ≡ total (map (along (axis_of a)) all)
  pub beside_is : max g.beside (greatest (map (beside (axis_of a)) rest)) ≡ greatest (map (beside (axis_of a)) all)
  pub children : g.children + length rest ≡ length all

pub spans_none : (a : Bool) (all : List Size) → Spans a all (record { along = 0; beside = 0; children = 0 }) all
spans_none a all = record { along_is = omega arith; beside_is = omega arith; children = omega arith }

pub spans_more : {a : Bool} {all : List Size} {g : Span} {z : Size} {rest : List Size} → Spans a all g (z ∷ rest) → Spans a all (with_child g a z) rest
unfolding total greatest
spans_more k = record { along_is = omega (arith, k.along_is); beside_is = omega (arith, k.beside_is); children = omega (arith, k.children) }

-- where the group's size is under n
module _ (S : Settings) (a : Bool) (all : List Size) {n : ℕ} (h : SizeUnder n (spanned S (axis_of a) all)) where
  sums : (total (map (along (axis_of a)) all) + (length all - 1) * sep S < n) × (greatest (map (beside (axis_of a)) all) < n)
  unfolding spanned
  sums = rw (along_sized, beside_sized) at (sides_under (axis_of a) (spanned S (axis_of a) all) h)

  -- before a child
  pub child_under : {g : Span} {z : Size} {rest : List Size} → Spans a all g (z ∷ rest)
      → (g.along + along (axis_of a) z < n) × (g.children + 1 ≤ length all) × SizeUnder n z
  unfolding total greatest
  child_under {g} {z} k =
      let w : g.along + along (axis_of a) z < n = omega (arith, k.along_is, sums.0) in
      (w, omega (arith, k.children), under_sides (axis_of a) z (omega arith) (omega (arith, k.beside_is, sums.1)))

  -- after the last
  module _ {gap : ℕ} (gap_is : gap ≡ sep S) {g : Span} (k : Spans a all g []) where
    pub span_is : span_of gap a g ≡ spanned S (axis_of a) all
    unfolding spanned total greatest
    span_is =
        let x : g.along ≡ total (map (along (axis_of a)) all) = omega (arith, k.along_is) in
        let y : g.beside ≡ greatest (map (beside (axis_of a)) all) = omega (arith, k.beside_is) in
        let z : g.children ≡ length all = omega (arith, k.children) in
        rw (gap_is, x, y, z)

    pub span_under : (g.children ≡ length all) × (g.along + (g.children - 1) * gap < n) × (g.beside < n)
    unfolding spanned
    span_under =
        let u = sides_under {n = n} (axis_of a) (span_of gap a g) (rw span_is h) in
        (omega (arith, k.children), rw along_sized at u.0, rw beside_sized at u.1)
