-- The dimensions of a list of lines.
use mathlib.Core.Path.{◌≡◌, refl, sym, ap, ◌∙◌}
use Prim.Native.Nat.{ℕ, zero, suc, ◌+◌, ◌<◌}
use native.Mathlib.Omega.{arith}
use mathlib.Core.List.{List, [], ◌∷◌, ◌++◌, append-nil}
use lib.ListN.{length, get_or, replicate, length-append, length-replicate, get_or-append}
use lib.Seq.{get_or-append-add}
use Rattle.common.specs.Every.{Every}
use Rattle.block.specs.Content.{side_by_side}
use Rattle.block.specs.Promises.{byte_at}
use Rattle.common.proofs.Every.{every_append, every_at, every_replicate}

-- h lines of w columns
pub record Dims (x : List (List ℕ)) (h w : ℕ) : Type 0 where
  pub lines : length x ≡ h
  pub columns : Every (λ l. length l ≡ w) x

pub dims_append : {x y : List (List ℕ)} {h k w : ℕ} → Dims x h w → Dims y k w → Dims (x ++ y) (h + k) w
dims_append {x} {y} {w = w} p q = record {
  lines = length-append x y ∙ (omega arith);
  columns = every_append (λ l. length l ≡ w) x y p.columns q.columns;
}

-- n equal lines
pub dims_lines : (n : ℕ) (l : List ℕ) (w : ℕ) → length l ≡ w → Dims (replicate n l) n w
dims_lines n l w e = record { lines = length-replicate n l; columns = every_replicate (λ x. length x ≡ w) n l e }

pub dims_replicate : (n w b : ℕ) → Dims (replicate n (replicate w b)) n w
dims_replicate n w b = record {
  lines = length-replicate n (replicate w b);
  columns = every_replicate (λ l. length l ≡ w) n (replicate w b) (length-replicate w b);
}

-- the proofs come after what decides their statements
pub dims_move : {x : List (List ℕ)} {h k w v : ℕ} → Dims x h w → h ≡ k → w ≡ v → Dims x k v
dims_move d p q = rw (← q) (rw (← p) d)

pub paired_same : (n : ℕ) (a b : List ℕ) → side_by_side (replicate n a) (replicate n b) ≡ replicate n (a ++ b)
unfolding side_by_side
paired_same zero a b = refl
paired_same (suc n) a b = rw (paired_same n a b)

pub dims_cons : {l : List ℕ} {x : List (List ℕ)} {h w : ℕ} → Dims x h w → length l ≡ w → Dims (l ∷ x) (suc h) w
dims_cons d e = record { lines = ap suc d.lines; columns = (e, d.columns) }

-- ---- side by side

paired_columns : (x y : List (List ℕ)) (w v : ℕ) → length x ≡ length y → Every (λ l. length l ≡ w) x → Every (λ l. length l ≡ v) y
    → Every (λ l. length l ≡ w + v) (side_by_side x y)
unfolding side_by_side
paired_columns [] [] w v e p q = tt
paired_columns [] (m ∷ y) w v e p q = absurd (omega arith)
paired_columns (l ∷ x) [] w v e p q = absurd (omega arith)
paired_columns (l ∷ x) (m ∷ y) w v e p q = (rw length-append (omega arith), paired_columns x y w v (omega arith) p.1 q.1)

paired_lines : (x y : List (List ℕ)) → length x ≡ length y → length (side_by_side x y) ≡ length x
unfolding side_by_side
paired_lines [] [] e = refl
paired_lines [] (m ∷ y) e = sym e
paired_lines (l ∷ x) [] e = refl
paired_lines (l ∷ x) (m ∷ y) e = ap suc (paired_lines x y (omega arith))

pub dims_paired : {x y : List (List ℕ)} {h w v : ℕ} → Dims x h w → Dims y h v → Dims (side_by_side x y) h (w + v)
dims_paired {x} {y} {w = w} {v} p q = record {
  lines = paired_lines x y (omega arith) ∙ p.lines;
  columns = paired_columns x y w v (omega arith) p.columns q.columns;
}

pub paired_nil : (x : List (List ℕ)) → side_by_side x [] ≡ x
unfolding side_by_side
paired_nil [] = refl
paired_nil (l ∷ x) = refl

pub paired_at : (x y : List (List ℕ)) (i : ℕ) → get_or (side_by_side x y) i [] ≡ get_or x i [] ++ get_or y i []
unfolding side_by_side
paired_at [] y i = refl
paired_at (l ∷ x) [] i = sym (append-nil (get_or (l ∷ x) i []))
paired_at (l ∷ x) (m ∷ y) zero = refl
paired_at (l ∷ x) (m ∷ y) (suc i) = paired_at x y i

-- ---- the byte at line i, column j

pub byte_left : {x : List (List ℕ)} (y : List (List ℕ)) {h w : ℕ} (i j : ℕ) → Dims x h w → i < h → j < w → byte_at (side_by_side x y) i j ≡ byte_at x i j
unfolding byte_at
byte_left {x} y {h} {w} i j d p q =
    let e : length (get_or x i []) ≡ w = every_at (λ l. length l ≡ w) x [] i d.columns (omega arith) in
    rw paired_at (get_or-append (get_or x i []) (get_or y i []) 0 j (omega arith))

pub byte_right : {x : List (List ℕ)} (y : List (List ℕ)) {h w : ℕ} (i j : ℕ) → Dims x h w → i < h → byte_at (side_by_side x y) i (w + j) ≡ byte_at y i j
unfolding byte_at
byte_right {x} y {h} {w} i j d p =
    let e : length (get_or x i []) ≡ w = every_at (λ l. length l ≡ w) x [] i d.columns (omega arith) in
    rw (paired_at, ← e) (get_or-append-add (get_or x i []) (get_or y i []) j 0)

pub byte_above : {x : List (List ℕ)} (y : List (List ℕ)) {h w : ℕ} (i j : ℕ) → Dims x h w → i < h → byte_at (x ++ y) i j ≡ byte_at x i j
unfolding byte_at
byte_above {x} y i j d p = ap (λ l. get_or l j 0) (get_or-append x y [] i (omega arith))

pub byte_below : {x : List (List ℕ)} (y : List (List ℕ)) {h w : ℕ} (i j : ℕ) → Dims x h w → byte_at (x ++ y) (h + i) j ≡ byte_at y i j
unfolding byte_at
byte_below {x} y i j d = rw (← d.lines) (ap (λ l. get_or l j 0) (get_or-append-add x y i []))
