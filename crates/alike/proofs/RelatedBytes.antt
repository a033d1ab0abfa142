-- Two contents of the same shape whose bytes are related place by place.
use mathlib.Core.Path.{◌≡◌, refl, ap}
use Prim.Native.Nat.{ℕ, zero, suc, ◌<◌}
use native.Mathlib.Omega.{arith}
use mathlib.Core.Bool.{Bool, true, false}
use mathlib.Core.List.{List, [], ◌∷◌, ◌++◌, map}
use lib.ListN.{length, get_or, replicate}
use Rattle.common.specs.Choice.{pick}
use Rattle.splits.specs.Splits.{is_named}
use Rattle.text.specs.Text.{join_lines}
use Rattle.block.specs.Content.{side_by_side, column, ruled}

module _ (R : ℕ → ℕ → Type 0) where
  -- byte by byte
  pub data Over : List ℕ → List ℕ → Type 0 where
    none : Over [] []
    more : {b c : ℕ} {l m : List ℕ} → R b c → Over l m → Over (b ∷ l) (c ∷ m)

  -- line by line
  pub data Rows : List (List ℕ) → List (List ℕ) → Type 0 where
    none : Rows [] []
    more : {l m : List ℕ} {x y : List (List ℕ)} → Over l m → Rows x y → Rows (l ∷ x) (m ∷ y)

pub over_pick : (R : ℕ → ℕ → Type 0) (c : Bool) (a b : ℕ) → R a a → R b b → R (pick c a b) (pick c a b)
over_pick R true a b p q = p
over_pick R false a b p q = q

module _ {R : ℕ → ℕ → Type 0} where
  -- ---- one line

  pub over_append : {l m k n : List ℕ} → Over R l m → Over R k n → Over R (l ++ k) (m ++ n)
  over_append none q = q
  over_append (more r p) q = more r (over_append p q)

  over_copies : (n b c : ℕ) → R b c → Over R (replicate n b) (replicate n c)
  over_copies zero b c r = none
  over_copies (suc n) b c r = more r (over_copies n b c r)

  pub over_replicate : (n b : ℕ) → R b b → Over R (replicate n b) (replicate n b)
  over_replicate n b r = over_copies n b b r

  pub over_map : (f : ℕ → ℕ) → ((b : ℕ) → R (f b) b) → (l : List ℕ) → Over R (map f l) l
  over_map f r [] = none
  over_map f r (b ∷ l) = more (r b) (over_map f r l)

  pub over_ruled : (ns : List ℕ) (b c i n : ℕ) → R b b → R c c → Over R (ruled ns b c i n) (ruled ns b c i n)
  unfolding ruled
  over_ruled ns b c i zero p q = none
  over_ruled ns b c i (suc n) p q = more (over_pick R (is_named i ns) b c p q) (over_ruled ns b c (suc i) n p q)

  pub over_length : {l m : List ℕ} → Over R l m → length l ≡ length m
  over_length none = refl
  over_length (more r p) = ap suc (over_length p)

  pub over_at : {l m : List ℕ} → Over R l m → (i : ℕ) → i < length l → R (get_or l i 0) (get_or m i 0)
  over_at none i h = absurd (omega arith)
  over_at (more r p) zero h = r
  over_at (more r p) (suc i) h = over_at p i (omega arith)

  -- ---- contents

  pub rows_append : {x y u v : List (List ℕ)} → Rows R x y → Rows R u v → Rows R (x ++ u) (y ++ v)
  rows_append none q = q
  rows_append (more r p) q = more r (rows_append p q)

  pub rows_paired : {x y u v : List (List ℕ)} → Rows R x y → Rows R u v → Rows R (side_by_side x u) (side_by_side y v)
  unfolding side_by_side
  rows_paired none q = q
  rows_paired (more r p) none = more r p
  rows_paired (more r p) (more s q) = more (over_append r s) (rows_paired p q)

  pub rows_column : (n : ℕ) {l m : List ℕ} → Over R l m → Rows R (column n l) (column n m)
  unfolding column
  rows_column n none = none
  rows_column n (more r p) = more (over_copies n _ _ r) (rows_column n p)

  pub rows_replicate : (n : ℕ) {l m : List ℕ} → Over R l m → Rows R (replicate n l) (replicate n m)
  rows_replicate zero p = none
  rows_replicate (suc n) p = more p (rows_replicate n p)

  pub rows_map : (g h : List ℕ → List ℕ) (k : List ℕ → List ℕ) → ((l : List ℕ) → Over R (g (k l)) (h l)) → (x : List (List ℕ))
      → Rows R (map g (map k x)) (map h x)
  rows_map g h k e [] = none
  rows_map g h k e (l ∷ x) = more (e l) (rows_map g h k e x)

  -- each line changed in the same way
  pub rows_each : (g : List ℕ → List ℕ) → ((l m : List ℕ) → Over R l m → Over R (g l) (g m)) → {x y : List (List ℕ)} → Rows R x y → Rows R (map g x) (map g y)
  rows_each g e none = none
  rows_each g e (more p q) = more (e _ _ p) (rows_each g e q)

  -- the lines joined by 0A
  pub over_feeds : {x y : List (List ℕ)} → R 10 10 → Rows R x y → Over R (join_lines x) (join_lines y)
  unfolding join_lines
  over_feeds r none = none
  over_feeds r (more p none) = p
  over_feeds r (more p (more q k)) = over_append p (more r (over_feeds r (more q k)))
