-- Crossings: the named places of a row or a column become another mark.
use mathlib.Core.Path.{◌≡◌, refl, sym, ap, ◌∙◌}
use Prim.Native.Nat.{ℕ, zero, suc, ◌+◌, ◌*◌, ◌≤◌, ◌<◌}
use native.Mathlib.Nat.{add-zero}
use native.Mathlib.Numerals.{add-one}
use native.Mathlib.Omega.{arith}
use mathlib.Core.Bool.{Bool, true, false}
use mathlib.Core.List.{List, [], ◌∷◌, ◌++◌}
use lib.ListN.{length, drop, get_or, set, replicate, length-set, length-replicate, get_or-replicate, drop_of_length-le}
use lib.Seq.{sets, set-set, drop-cons, get_or-set_same, get_or-set_other, ext_get_or}
use lib.Dec.{ltb}
use borrow.Author.Tests.{lt-ltb, le-ltb, eq-eqb, ne_eqb}
use Rattle.common.specs.Choice.{pick}
use Rattle.splits.proofs.Named.{named_from}
use Rattle.common.proofs.Either.{either}
use Rattle.common.proofs.Stores.{sets_append, sets_sets}
use Rattle.splits.specs.Splits.{is_named}
use Rattle.block.specs.Content.{ruled, column}
use Rattle.paint.specs.Clauses.{pasted, space_lines, crossed}
use Rattle.block.proofs.Dimensions.{Dims, paired_same, dims_lines, dims_replicate}
use Rattle.paint.proofs.Pasted.{sets_pasted, pasted_beside, pasted_aside}
use Rattle.block.proofs.Dims.{length_ruled, left_dims}

-- ---- one place

module _ (o : List ℕ) (at step n b k : ℕ) (ks : List ℕ) where
  crossed_in : k < n → crossed o at step n (k ∷ ks) b ≡ crossed (set o (at + k * step) b) at step n ks b
  unfolding crossed
  crossed_in h = rw (lt-ltb k n h)

  crossed_out : n ≤ k → crossed o at step n (k ∷ ks) b ≡ crossed o at step n ks b
  unfolding crossed
  crossed_out h = rw (le-ltb k n h)

-- ---- one pass over the pieces l, at index i and position pos

module _ (l : List ℕ) (at step n b : ℕ) (o : List ℕ) (pos i : ℕ) where
  pub cross_end : length l ≤ i → crossed o at step n (named_from n pos i (drop i l)) b ≡ o
  unfolding crossed named_from
  cross_end h = rw (drop_of_length-le l h)

  module _ (h : i < length l) (p : ℕ) (is : p ≡ get_or l i 0) where
    pub cross_stop : n ≤ pos + p → crossed o at step n (named_from n pos i (drop i l)) b ≡ o
    unfolding crossed named_from
    cross_stop k = rw (drop-cons l i 0 h, ← is, le-ltb (pos + p) n k)

    next : pos + p < n → named_from n pos i (drop i l) ≡ (pos + p + i) ∷ named_from n (pos + p) (i + 1) (drop (i + 1) l)
    unfolding named_from
    next k = rw (drop-cons l i 0 h, ← is, lt-ltb (pos + p) n k, add-one)

    pub cross_in : pos + p < n → pos + p + i < n
        → crossed o at step n (named_from n pos i (drop i l)) b
        ≡ crossed (set o (at + (pos + p + i) * step) b) at step n (named_from n (pos + p) (i + 1) (drop (i + 1) l)) b
    cross_in k j = rw (next k) (crossed_in o at step n b (pos + p + i) _ j)

    pub cross_out : pos + p < n → n ≤ pos + p + i
        → crossed o at step n (named_from n pos i (drop i l)) b ≡ crossed o at step n (named_from n (pos + p) (i + 1) (drop (i + 1) l)) b
    cross_out k j = rw (next k) (crossed_out o at step n b (pos + p + i) _ j)

-- ---- crossings of equal marks are ruled marks

-- the same or not
same? {ℓ} : {X : Type ℓ} (a b : ℕ) → (a ≡ b → X) → ((a ≡ b → ⊥) → X) → X
same? a b f g = either a b (λ h. either b a (λ k. f (omega arith)) (λ k. g (λ e. omega arith))) (λ h. g (λ e. omega arith))

length_crossed : (ks l : List ℕ) (n b : ℕ) → length (crossed l 0 1 n ks b) ≡ length l
unfolding crossed
length_crossed [] l n b = refl
length_crossed (k ∷ ks) l n b = length_crossed ks (pick (ltb k n) (set l (0 + k * 1) b) l) n b ∙ go (ltb k n)
  where
    go : (c : Bool) → length (pick c (set l (0 + k * 1) b) l) ≡ length l
    go true = length-set l (0 + k * 1) b
    go false = refl

get_or_crossed : (ks l : List ℕ) (n b i : ℕ) → length l ≡ n → i < n → get_or (crossed l 0 1 n ks b) i 0 ≡ pick (is_named i ks) b (get_or l i 0)
unfolding crossed is_named
get_or_crossed [] l n b i h j = refl
get_or_crossed (k ∷ ks) l n b i h j = either n k
    (λ m. rw (crossed_out l 0 1 n b k ks m, get_or_crossed ks l n b i h j, ne_eqb i k (λ e. omega arith)))
    (λ m. let e : 0 + k * 1 ≡ k = omega arith in
    rw (crossed_in l 0 1 n b k ks m, e, get_or_crossed ks (set l k b) n b i (length-set l k b ∙ h) j)
    (same? i k
    (λ q. rw (eq-eqb i k q) (rw q (rw (get_or-set_same l k b 0 (omega arith)) (twice (is_named k ks)))))
    (λ q. rw (ne_eqb i k q, get_or-set_other l k i b 0 q))))
  where
    twice : (c : Bool) → pick c b b ≡ b
    twice true = refl
    twice false = refl

get_or_ruled : (ns : List ℕ) (b c i n j : ℕ) → j < n → get_or (ruled ns b c i n) j 0 ≡ pick (is_named (i + j) ns) b c
unfolding ruled
get_or_ruled ns b c i zero j h = absurd (omega arith)
get_or_ruled ns b c i (suc n) zero h = rw (add-zero i)
get_or_ruled ns b c i (suc n) (suc j) h = let e : i + suc j ≡ suc i + j = omega arith in rw e (get_or_ruled ns b c (suc i) n j (omega arith))

crossed_ruled : (ks : List ℕ) (n b c : ℕ) → crossed (replicate n c) 0 1 n ks b ≡ ruled ks b c 0 n
crossed_ruled ks n b c =
    let l = length_crossed ks (replicate n c) n b ∙ length-replicate n c in
    ext_get_or 0 (crossed (replicate n c) 0 1 n ks b) (ruled ks b c 0 n) (l ∙ sym (length_ruled ks b c 0 n))
    (λ i h. let j : i < n = omega (arith, l) in
    get_or_crossed ks (replicate n c) n b i (length-replicate n c) j ∙ rw (get_or-replicate n i c 0 j) (let z : 0 + i ≡ i = omega arith in
    rw z at (sym (get_or_ruled ks b c 0 n i j))))

-- ---- in a column

-- a store at line k of a column
set_column : (l o : List ℕ) (at step k b : ℕ) → 0 < step → k < length l
    → set (pasted o at step (column 1 l)) (at + k * step) b ≡ pasted o at step (column 1 (set l k b))
unfolding pasted column
set_column [] o at step k b s h = absurd (omega arith)
set_column (x ∷ l) o at step zero b s h =
    let e : at + 0 * step ≡ at = omega arith in
    rw (e, sets_pasted (column 1 l) (b ∷ []) (set o at x) at (at + step) step (omega arith), set-set o at x b)
set_column (x ∷ l) o at step (suc k) b s h =
    let e : at + suc k * step ≡ at + step + k * step = omega arith in
    rw e (set_column l (set o at x) (at + step) step k b s (omega arith))

crossed_column : (ks l o : List ℕ) (at step n b : ℕ) → 0 < step → length l ≡ n
    → crossed (pasted o at step (column 1 l)) at step n ks b ≡ pasted o at step (column 1 (crossed l 0 1 n ks b))
unfolding crossed
crossed_column [] l o at step n b s h = refl
crossed_column (k ∷ ks) l o at step n b s h = either n k
    (λ j. crossed_out (pasted o at step (column 1 l)) at step n b k ks j ∙ crossed_column ks l o at step n b s h ∙ rw (crossed_out l 0 1 n b k ks j))
    (λ j. let e : 0 + k * 1 ≡ k = omega arith in
    crossed_in (pasted o at step (column 1 l)) at step n b k ks j ∙ rw (set_column l o at step k b s (omega arith))
    (crossed_column ks (set l k b) o at step n b s (length-set l k b ∙ h) ∙ rw (crossed_in l 0 1 n b k ks j, e)))

column_replicate : (n c : ℕ) → column 1 (replicate n c) ≡ replicate n (c ∷ [])
unfolding column
column_replicate zero c = refl
column_replicate (suc n) c = ap (λ (x : List (List ℕ)). (c ∷ []) ∷ x) (column_replicate n c)

-- n equal marks, one under another, and then crossed
stack_crossed : (ks o : List ℕ) (at step n b c : ℕ) → 0 < step
    → crossed (pasted o at step (replicate n (c ∷ []))) at step n ks b ≡ pasted o at step (column 1 (ruled ks b c 0 n))
stack_crossed ks o at step n b c h =
    rw (← (column_replicate n c), crossed_column ks (replicate n c) o at step n b h (length-replicate n c), crossed_ruled ks n b c)

-- the same with w spaces behind each
pub marks_crossed : (ks o : List ℕ) (at step n w b c : ℕ) → 1 + w ≤ step
    → crossed (pasted o at step (replicate n (c ∷ replicate w 32))) at step n ks b
    ≡ pasted (pasted o at step (column 1 (ruled ks b c 0 n))) (at + 1) step (space_lines n w)
marks_crossed ks o at step n w b c h =
    let x : List (List ℕ) = replicate n (c ∷ []) in
    let y : List (List ℕ) = space_lines n w in
    let marks : Dims x n 1 = dims_lines n (c ∷ []) 1 refl in
    let blanks : Dims y n w = dims_replicate n w 32 in
    let beside : pasted o at step (replicate n (c ∷ replicate w 32)) ≡ pasted (pasted o (at + 1) step y) at step x
    = sym (pasted_aside o at step marks blanks h ∙ pasted_beside o at step marks blanks h ∙ ap (pasted o at step) (paired_same n (c ∷ []) (replicate w 32))) in
    rw (beside, stack_crossed ks (pasted o (at + 1) step y) at step n b c (omega arith)) (pasted_aside o at step (left_dims 1 ks b c n) blanks h)

-- ---- in a row

-- bytes in a row are a column whose lines are next to each other
pasted_row : (l o : List ℕ) (at : ℕ) → pasted o at 1 (column 1 l) ≡ sets o at l
unfolding pasted column
pasted_row [] o at = refl
pasted_row (b ∷ l) o at = ap (λ (k : ℕ). pasted (set o at b) k 1 (column 1 l)) (add-one at) ∙ pasted_row l (set o at b) (suc at)

-- n equal marks between a corner and what comes after them, and then crossed
pub row_crossed : (ks y o : List ℕ) (at n b c corner : ℕ)
    → crossed (sets o at (corner ∷ (replicate n c ++ y))) (at + 1) 1 n ks b ≡ sets o at (corner ∷ (ruled ks b c 0 n ++ y))
row_crossed ks y o at n b c corner =
    let x : List ℕ = replicate n c in
    let r = ruled ks b c 0 n in
    let o₁ = set o at corner in
    let e : length x ≡ n = length-replicate n c in
    let f : length r ≡ n = length_ruled ks b c 0 n in
    let swap : (z : List ℕ) → length z ≡ n → sets o₁ (suc at) (z ++ y) ≡ sets (sets o₁ (suc at + n) y) (suc at) z =
    λ z h. sets_append z y o₁ (suc at) ∙ rw h (sym (sets_sets z y o₁ (suc at) (suc at + n) (omega arith))) in
    rw (
      swap x e,
      swap r f,
      add-one at,
      ← (pasted_row x (sets o₁ (suc at + n) y) (suc at)),
      crossed_column ks x (sets o₁ (suc at + n) y) (suc at) 1 n b (omega arith) e,
      crossed_ruled ks n b c,
    )
    (pasted_row r (sets o₁ (suc at + n) y) (suc at))
