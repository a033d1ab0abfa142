-- What the C functions on split lists answer and write (include/leg_sheet.h).
use Rattle.std.specs.Prelude.{ℕ, min, List, ◌∷◌, ◌++◌, length, take, ltb, eqb}
use Rattle.common.specs.Choice.{pick}
use Rattle.common.specs.Outcome.{Outcome}
use Rattle.splits.specs.declared.CutParts.{CutParts}
use Rattle.splits.specs.declared.InPlaceCut.{InPlaceCut}
use Rattle.splits.specs.declared.ShortParts.{ShortParts}
use Rattle.splits.specs.Lists.{split_list}
use Rattle.splits.specs.Cuts.{cut_of, in_place_cut, short_of}
use Rattle.c_encoding.specs.Words.{packed}
use Rattle.c_encoding.specs.Numbers.{refusal, written, overwritten, bit, list_numbers, position_numbers}

-- ---- what all three refuse

-- the number of a cut of the first n of `held` lent numbers, which writes `needed` numbers to a list of `room`, in the order of document 01's table: 8 where n
-- is over `held` or the list too short, then 10 where n is over 512, else 0
unfoldable pub refused_by : ℕ → ℕ → ℕ → ℕ → ℕ
refused_by held n room needed = pick (ltb held n) 8 (pick (ltb room needed) 8 (pick (ltb 512 n) 10 0))

-- what is answered where that number is 0
abbrev pub unless : {X : Type 0} → ℕ → (ℕ → X) → X → X
unless k refused x = pick (eqb k 0) x (refused k)

-- ---- `short_splits3`

-- yes or no, the pair, the list taken, the list left
abbrev pub cut_numbers : CutParts → List ℕ
cut_numbers k = bit k.split ∷ k.pair.taken ∷ k.pair.rest ∷ (list_numbers k.taken ++ list_numbers k.left)

-- the list is the first n of s; those past them are not read
unfoldable pub splits3_given : List ℕ → ℕ → ℕ → List ℕ → Outcome ℕ (List ℕ)
splits3_given s n w o =
    unless (refused_by (length s) n (length o) 1029) (λ k. refusal k o) (written 1029 (cut_numbers (cut_of (split_list (take n s)) w)) o)

-- ---- two lent lists

-- numbers at the front of each, in the order of the lists
unfoldable pub written_two : ℕ → List ℕ → List ℕ → List ℕ → List ℕ → Outcome ℕ (List ℕ × List ℕ)
written_two count a b o p = record { answer = packed 0 count; memory = (overwritten a o, overwritten b p) }

-- ---- `short_splits3` on a lent list

-- yes or no, the pair, the count left, the list taken
abbrev pub kept_numbers : InPlaceCut → List ℕ
kept_numbers k = bit k.answer.split ∷ k.answer.pair.taken ∷ k.answer.pair.rest ∷ k.list.count ∷ list_numbers k.answer.taken

-- the list left, with 0 past its count, is written over the lent one as far as that is long enough; numbers past 512 stay
unfoldable pub kept_given : InPlaceCut → List ℕ → List ℕ → Outcome ℕ (List ℕ × List ℕ)
kept_given k s o = written_two 517 (take (length s) k.list.pieces) (kept_numbers k) s o

unfoldable pub lent_given : List ℕ → ℕ → ℕ → List ℕ → Outcome ℕ (List ℕ × List ℕ)
lent_given s n w o = unless (refused_by (length s) n (length o) 517) (λ k. refusal k (s, o)) (kept_given (in_place_cut (split_list (take n s)) w) s o)

-- ---- `short_splits`

unfoldable pub short_given : ShortParts → List ℕ → List ℕ → Outcome ℕ (List ℕ × List ℕ)
short_given k o p = written_two 513 (position_numbers k.positions) (list_numbers k.left) o p

-- 8 depends on the shorter of the two lists
unfoldable pub splits_given : List ℕ → ℕ → ℕ → List ℕ → List ℕ → Outcome ℕ (List ℕ × List ℕ)
splits_given s n w o p =
    unless (refused_by (length s) n (min (length o) (length p)) 513) (λ k. refusal k (o, p)) (short_given (short_of (split_list (take n s)) w) o p)
