-- A fault's line and column are small: a list that is read has 131,072 bytes at the most.
use mathlib.Core.Path.{◌≡◌, refl}
use Prim.Native.Nat.{ℕ, zero, suc, ◌+◌, ◌-◌, ◌≤◌}
use native.Mathlib.Omega.{arith}
use mathlib.Core.Bool.{Bool, true, false}
use mathlib.Core.List.{List, [], ◌∷◌, map}
use lib.ListN.{length, get_or, take, length-map, length-take}
use lib.Dec.{ltb, eqb}
use borrow.Author.Tests.{ltb-false}
use Rattle.common.specs.Choice.{pick}
use Rattle.common.specs.Sums.{greatest}
use Rattle.text.specs.Text.{lines, line_lengths, text_width, text_height}
use Rattle.text.proofs.Measured.{width_le, height_le}
use Rattle.common.specs.Outcome.{Outcome}
use Rattle.typed.specs.declared.Typed.{Typed}
use Rattle.typed.specs.Line.{without_return}
use Rattle.typed.specs.Typed.{typed_of}
use Rattle.typed.proofs.Answered.{typed_cases}
use Rattle.typed.proofs.Faults.{fault_at}

-- ---- no line is longer than the list, and there are as many as it has bytes, and one

line_short : (ls : List (List ℕ)) (i : ℕ) → length (get_or ls i []) ≤ greatest (map length ls)
unfolding greatest
line_short [] i = omega arith
line_short (l ∷ ls) zero = omega arith
line_short (l ∷ ls) (suc i) = omega (arith, line_short ls i)

trimmed_short : (x : List ℕ) → length (without_return x) ≤ length x
unfolding without_return
trimmed_short x = go (eqb (get_or x (length x - 1) 0) 13)
  where
    go : (c : Bool) → length (pick c (take (length x - 1) x) x) ≤ length x
    go true = rw length-take (omega arith)
    go false = omega arith

lines_few : (t : List ℕ) → length (lines t) ≤ length t + 1
unfolding text_height line_lengths
lines_few t = omega (arith, height_le t, length-map (lines t) length)

named_short : (t : List ℕ) (i : ℕ) → length (without_return (get_or (lines t) i [])) ≤ length t
unfolding text_width line_lengths
named_short t i = omega (arith, trimmed_short (get_or (lines t) i []), line_short (lines t) i, width_le t)

-- ---- the answer

abbrev SmallPlace : Outcome Typed (List ℕ) → Type 0
SmallPlace x = (x.answer.line ≤ 131073) × (x.answer.column ≤ 131073)

read_small : (t o : List ℕ) → length t ≤ 131072 → SmallPlace (typed_of t o)
read_small t o h =
    typed_cases t o SmallPlace (omega arith, omega arith)
    (λ k l c e. let f = fault_at t k l c e in (omega (arith, f.line_high, lines_few t), omega (arith, f.column_high, named_short t (l - 1))))
    (omega arith, omega arith) (λ ns e. (omega arith, omega arith))

long_small : (t o : List ℕ) → ltb 131072 (length t) ≡ true → SmallPlace (typed_of t o)
unfolding typed_of
long_small t o h = rw h (omega arith, omega arith)

pub fault_small : (t o : List ℕ) → SmallPlace (typed_of t o)
fault_small t o = go (ltb 131072 (length t)) refl
  where
    go : (c : Bool) → ltb 131072 (length t) ≡ c → SmallPlace (typed_of t o)
    go true h = long_small t o h
    go false h = read_small t o (ltb-false 131072 (length t) h)
