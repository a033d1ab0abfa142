-- What the C functions on split lists answer and write is what the definitions say.
use mathlib.Core.Path.{◌≡◌, refl, sym, ◌∙◌}
use mathlib.Core.Bool.{Bool, true, false}
use Prim.Native.Nat.{ℕ, ◌≤◌, min}
use native.Mathlib.Nat.{min-eq_left, min-eq_right}
use native.Mathlib.Omega.{arith}
use mathlib.Core.List.{List, [], ◌∷◌, ◌++◌}
use lib.Dec.{ltb}
use lib.ListN.{length, take, length-append, length-take}
use lib.Seq.{sets, take_all, take-length}
use borrow.Author.Tests.{ltb-true, ltb-false, eq-eqb, ne_eqb}
use Rattle.common.specs.Choice.{pick}
use Rattle.common.specs.Outcome.{Outcome}
use Rattle.common.proofs.Stores.{sets_front}
use Rattle.common.proofs.Copies.{stored_on}
use Rattle.splits.specs.declared.SplitList.{SplitList}
use Rattle.splits.specs.declared.CutParts.{CutParts}
use Rattle.splits.specs.declared.InPlaceCut.{InPlaceCut}
use Rattle.splits.specs.declared.ShortParts.{ShortParts}
use Rattle.splits.specs.Lists.{split_list}
use Rattle.splits.specs.Cuts.{cut_of, in_place_cut, short_of}
use Rattle.c_encoding.specs.Words.{packed}
use Rattle.c_encoding.specs.Numbers.{refusal, written, overwritten, bit, list_numbers, position_numbers}
use Rattle.c_encoding.specs.Cuts.{refused_by, cut_numbers, splits3_given, written_two, kept_numbers, kept_given, lent_given, short_given, splits_given}
use Rattle.c_encoding.proofs.WrittenNumbers.{Same, same_written}

-- ---- what is stored one after the other

pub cut_stored : (k : CutParts) (o : List ℕ) {b : ℕ} {o₁ o₂ o₃ : List ℕ} → b ≡ bit k.split → o₁ ≡ sets o 0 (b ∷ k.pair.taken ∷ k.pair.rest ∷ [])
    → o₂ ≡ sets o₁ 3 (list_numbers k.taken) → length k.taken.pieces ≡ 512
    → o₃ ≡ sets o₂ 516 (list_numbers k.left) → o₃ ≡ sets o 0 (cut_numbers k)
cut_stored k o {b} {o₁} eb e f long g =
    let x = stored_on (list_numbers k.taken) (list_numbers k.left) o₁ 3 f (omega arith) g in
    rw eb at (stored_on (b ∷ k.pair.taken ∷ k.pair.rest ∷ []) (list_numbers k.taken ++ list_numbers k.left) o 0 e refl x)

-- ---- the list left, written over the lent one

fits_take : (b : Bool) (m : ℕ) (l : List ℕ) → ltb m (length l) ≡ b → take (min m (length l)) l ≡ take m l
fits_take true m l e = let k = ltb-true m (length l) e in let h : m ≤ length l = omega arith in rw (min-eq_left h)
fits_take false m l e = let h = ltb-false m (length l) e in rw (min-eq_right h, take-length l) (sym (take_all m l h))

pub left_stored : (l o : List ℕ) {n : ℕ} {p : List ℕ} → length l ≡ 512 → n ≡ min (length o) 512 → p ≡ sets o 0 (take n l)
    → p ≡ overwritten (take (length o) l) o
left_stored l o {n} long e f =
    let t : take n l ≡ take (length o) l = rw (e, ← long) (fits_take _ (length o) l refl) in
    rw t at f ∙ sets_front (take (length o) l) o (rw length-take (omega arith))

-- ---- what is not refused

passed : (a b c : Bool) → ◌≡◌ {A = ℕ} (pick a 8 (pick b 8 (pick c 10 0))) 0 → (a ≡ false) × ((b ≡ false) × (c ≡ false))
passed true b c e = absurd (omega arith)
passed false true c e = absurd (omega arith)
passed false false true e = absurd (omega arith)
passed false false false e = (refl, (refl, refl))

pub record NotRefused (held n room needed : ℕ) : Type 0 where
  pub within : n ≤ held
  pub fits : needed ≤ room
  pub few : n ≤ 512

pub not_refused : (held n room needed : ℕ) {k : ℕ} → k ≡ refused_by held n room needed → k ≡ 0 → NotRefused held n room needed
unfolding refused_by
not_refused held n room needed e z =
    let h = passed (ltb held n) (ltb room needed) (ltb 512 n) (sym e ∙ z) in
    record { within = ltb-false held n h.0; fits = ltb-false room needed h.1.0; few = ltb-false 512 n h.1.1 }

-- ---- `short_splits3`

module _ (s : List ℕ) (n w : ℕ) (o : List ℕ) (r : ℕ) (er : r ≡ refused_by (length s) n (length o) 1029) where
  pub splits3_refused : (r ≡ 0 → ⊥) → splits3_given s n w o ≡ refusal r o
  unfolding splits3_given
  splits3_refused z = rw (← er, ne_eqb _ _ z)

  module _ (z : r ≡ 0) (list : SplitList) (el : list ≡ split_list (take n s)) (k : CutParts) (ek : k ≡ cut_of list w) where
    splits3_is : splits3_given s n w o ≡ written 1029 (cut_numbers k) o
    unfolding splits3_given
    splits3_is = rw (← er, eq-eqb _ _ z, ek, el)

    pub splits3_written : (word : ℕ) (p : List ℕ) → length k.taken.pieces ≡ 512 → length k.left.pieces ≡ 512 → word ≡ packed 0 1029
        → p ≡ sets o 0 (cut_numbers k) → Same word p (splits3_given s n w o)
    splits3_written word p t l x y =
        let long : length (cut_numbers k) ≡ 1029 = rw (length-append (list_numbers k.taken), t, l) in
        same_written 1029 (cut_numbers k) o p splits3_is (rw long (not_refused (length s) n (length o) 1029 er z).fits) x y

-- ---- two lent lists

abbrev pub SameTwo : ℕ → List ℕ → List ℕ → Outcome ℕ (List ℕ × List ℕ) → Type 0
SameTwo word a b g = (word ≡ g.answer) × ((a ≡ g.memory.0) × (b ≡ g.memory.1))

pub two_refusal : (k : ℕ) {word : ℕ} {a b : List ℕ} {g : Outcome ℕ (List ℕ × List ℕ)} → g ≡ refusal k (a, b) → word ≡ packed k 0 → SameTwo word a b g
unfolding refusal
two_refusal k e w = rw e (w, (refl, refl))

two_written : (count : ℕ) (l m o p a b : List ℕ) {word : ℕ} {g : Outcome ℕ (List ℕ × List ℕ)} → g ≡ written_two count l m o p → word ≡ packed 0 count
    → a ≡ overwritten l o
    → b ≡ overwritten m p → SameTwo word a b g
unfolding written_two
two_written count l m o p a b e w x y = rw e (w, (x, y))

-- ---- `short_splits3` on a lent list

module _ (s : List ℕ) (n w : ℕ) (o : List ℕ) (r : ℕ) (er : r ≡ refused_by (length s) n (length o) 517) where
  pub lent_refused : (r ≡ 0 → ⊥) → lent_given s n w o ≡ refusal r (s, o)
  unfolding lent_given
  lent_refused z = rw (← er, ne_eqb _ _ z)

  module _ (z : r ≡ 0) (list : SplitList) (el : list ≡ split_list (take n s)) (k : InPlaceCut) (ek : k ≡ in_place_cut list w) where
    lent_is : lent_given s n w o ≡ written_two 517 (take (length s) k.list.pieces) (kept_numbers k) s o
    unfolding lent_given kept_given
    lent_is = rw (← er, eq-eqb _ _ z, ek, el)

    pub lent_written : (word : ℕ) (a b : List ℕ) → length k.answer.taken.pieces ≡ 512 → word ≡ packed 0 517
        → a ≡ overwritten (take (length s) k.list.pieces) s → b ≡ sets o 0 (kept_numbers k) → SameTwo word a b (lent_given s n w o)
    lent_written word a b t x y v =
        let h = (not_refused (length s) n (length o) 517 er z).fits in
        two_written 517 (take (length s) k.list.pieces) (kept_numbers k) s o a b lent_is x y (v ∙ sets_front (kept_numbers k) o (omega arith))

-- ---- `short_splits`

module _ (s : List ℕ) (n w : ℕ) (o p : List ℕ) (r : ℕ) (er : r ≡ refused_by (length s) n (min (length o) (length p)) 513) where
  pub splits_refused : (r ≡ 0 → ⊥) → splits_given s n w o p ≡ refusal r (o, p)
  unfolding splits_given
  splits_refused z = rw (← er, ne_eqb _ _ z)

  module _ (z : r ≡ 0) (list : SplitList) (el : list ≡ split_list (take n s)) (k : ShortParts) (ek : k ≡ short_of list w) where
    splits_is : splits_given s n w o p ≡ written_two 513 (position_numbers k.positions) (list_numbers k.left) o p
    unfolding splits_given short_given
    splits_is = rw (← er, eq-eqb _ _ z, ek, el)

    pub splits_written : (word : ℕ) (a b : List ℕ) → length k.positions.entries ≡ 512 → length k.left.pieces ≡ 512 → word ≡ packed 0 513
        → a ≡ sets o 0 (position_numbers k.positions) → b ≡ sets p 0 (list_numbers k.left) → SameTwo word a b (splits_given s n w o p)
    splits_written word a b l t x y v =
        let h = (not_refused (length s) n (min (length o) (length p)) 513 er z).fits in
        two_written 513 (position_numbers k.positions) (list_numbers k.left) o p a b splits_is x
        (y ∙ sets_front (position_numbers k.positions) o (omega arith)) (v ∙ sets_front (list_numbers k.left) p (omega arith))
