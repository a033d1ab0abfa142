-- Lines written one after another: what a loop that writes them keeps, and how parts follow each other.
use mathlib.Core.Path.{◌≡◌, refl, ap, ◌∙◌}
use Prim.Native.Nat.{ℕ, zero, suc, ◌+◌, ◌-◌, ◌*◌, ◌≤◌, ◌<◌}
use native.Mathlib.Omega.{arith}
use mathlib.Core.List.{List, [], ◌∷◌, ◌++◌}
use lib.ListN.{length, replicate, length-replicate}
use lib.Seq.{sets, length-sets}
use Rattle.common.proofs.Stores.{sets_append}
use Rattle.common.specs.Writing.{Wrote}
use Rattle.paint.specs.Clauses.{pasted, Room}
use Rattle.paint.proofs.Pasted.{pasted_append}
use Rattle.paint.proofs.Room.{room_tail}

-- the lines y are still to be written over the bytes o from p on; then the bytes are `all`, and p is `end`
pub record LinesLeft (all : List ℕ) (len end : ℕ) (o : List ℕ) (p stride w : ℕ) (y : List (List ℕ)) : Type 0 where
  pub same : pasted o p stride y ≡ all
  pub end_is : p + length y * stride ≡ end
  pub room : Room p stride (length y) w len
  pub long : length o ≡ len

pub left_start : (o : List ℕ) (at stride n w : ℕ) (x : List (List ℕ)) → length x ≡ n → Room at stride n w (length o)
    → LinesLeft (pasted o at stride x) (length o) (at + n * stride) o at stride w x
left_start o at stride n w x e r = record { same = refl; end_is = rw e; room = rw e r; long = refl }

module _ {all : List ℕ} {len end : ℕ} {o : List ℕ} {p stride w : ℕ} where
  pub left_step : (l : List ℕ) (y : List (List ℕ)) → LinesLeft all len end o p stride w (l ∷ y) → LinesLeft all len end (sets o p l) (p + stride) stride w y
  unfolding pasted
  left_step l y k = record { same = k.same; end_is = omega (arith, k.end_is); room = room_tail k.room; long = length-sets o p l ∙ k.long }

  pub left_done : LinesLeft all len end o p stride w [] → Wrote p end o all
  unfolding pasted
  left_done k = record { end_is = omega (arith, k.end_is); out_is = k.same }

-- ---- equal lines: i of n are written

module _ {all : List ℕ} {len end : ℕ} {o : List ℕ} {p stride w : ℕ} (l : List ℕ) (n i : ℕ) where
  pub rows_more : i < n → LinesLeft all len end o p stride w (replicate (n - i) l) → LinesLeft all len end o p stride w (l ∷ replicate (n - (i + 1)) l)
  rows_more h k = let e : n - i ≡ suc (n - (i + 1)) = omega arith in rw e at k

  pub rows_none : n ≤ i → LinesLeft all len end o p stride w (replicate (n - i) l) → LinesLeft all len end o p stride w []
  rows_none h k = let e : n - i ≡ 0 = omega arith in rw e at k

-- ---- equal lines, some of which are still to come: a loop that goes by the place

pub record RowsLeft (all : List ℕ) (len end : ℕ) (o : List ℕ) (p stride w : ℕ) (l : List ℕ) : Type 0 where
  pub count : ℕ
  pub left : LinesLeft all len end o p stride w (replicate count l)

module _ {all : List ℕ} {len end : ℕ} {o : List ℕ} {p stride w : ℕ} {l : List ℕ} where
  -- before the end a line is to come
  pub some_left : (k : RowsLeft all len end o p stride w l) → p < end → LinesLeft all len end o p stride w (l ∷ replicate (k.count - 1) l)
  some_left k h = go k.count k.left
    where
      go : (n : ℕ) → LinesLeft all len end o p stride w (replicate n l) → LinesLeft all len end o p stride w (l ∷ replicate (n - 1) l)
      go zero q = absurd (omega (arith, q.end_is))
      go (suc n) q = let e : suc n - 1 ≡ n = omega arith in rw e q

  pub rows_step : (k : RowsLeft all len end o p stride w l) → p < end → RowsLeft all len end (sets o p l) (p + stride) stride w l
  rows_step k h = record { count = k.count - 1; left = left_step l (replicate (k.count - 1) l) (some_left k h) }

  -- at the end none is
  pub rows_done : 1 ≤ stride → RowsLeft all len end o p stride w l → end ≤ p → Wrote p end o all
  rows_done s k h = go k.count k.left
    where
      go : (n : ℕ) → LinesLeft all len end o p stride w (replicate n l) → Wrote p end o all
      go zero q = left_done q
      go (suc n) q = absurd (omega (arith, q.end_is, length-replicate n l))

-- ---- parts that follow each other

pub then_sets : (x y o o₁ o₂ : List ℕ) (at p n : ℕ) → length x ≡ n → Wrote p (at + n) o₁ (sets o at x) → o₂ ≡ sets o₁ p y → o₂ ≡ sets o at (x ++ y)
then_sets x y o o₁ o₂ at p n h w e = e ∙ rw (sets_append x y o at, h, w.end_is, w.out_is)

pub then_pasted : (x y : List (List ℕ)) (o o₁ o₂ : List ℕ) (at p stride n : ℕ) → length x ≡ n → Wrote p (at + n * stride) o₁ (pasted o at stride x)
    → o₂ ≡ pasted o₁ p stride y → o₂ ≡ pasted o at stride (x ++ y)
then_pasted x y o o₁ o₂ at p stride n h w e = e ∙ rw (pasted_append x y o at stride, h, w.end_is, w.out_is)

pub pasted_first : (l : List ℕ) (x : List (List ℕ)) (o o₁ : List ℕ) (at stride : ℕ) → o₁ ≡ sets o at l
    → pasted o₁ (at + stride) stride x ≡ pasted o at stride (l ∷ x)
unfolding pasted
pasted_first l x o o₁ at stride e = ap (λ (k : List ℕ). pasted k (at + stride) stride x) e
