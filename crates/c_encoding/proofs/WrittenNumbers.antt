-- What a C function answers and writes is what the definition says.
use Rattle.common.specs.Outcome.{Outcome}
use Rattle.common.proofs.Stores.{sets_front}
use mathlib.Core.Path.{◌≡◌, refl, ◌∙◌}
use Prim.Native.Nat.{ℕ, ◌≤◌, ◌<◌}
use mathlib.Core.List.{List}
use lib.ListN.{length}
use lib.Seq.{sets}
use borrow.Author.Tests.{lt-ltb, le-ltb}
use Rattle.c_encoding.specs.Words.{packed}
use Rattle.c_encoding.specs.Numbers.{refusal, written, offered}

-- a function's word and its lent list at exit are the definition's
abbrev pub Same : ℕ → List ℕ → Outcome ℕ (List ℕ) → Type 0
Same word o g = (word ≡ g.answer) × (o ≡ g.memory)

pub same_refusal : (k : ℕ) {word : ℕ} {o : List ℕ} {g : Outcome ℕ (List ℕ)} → g ≡ refusal k o → word ≡ packed k 0 → Same word o g
unfolding refusal
same_refusal k e w = rw e (w, refl)

pub same_written : (count : ℕ) (l o p : List ℕ) {word : ℕ} {g : Outcome ℕ (List ℕ)} → g ≡ written count l o → length l ≤ length o → word ≡ packed 0 count
    → p ≡ sets o 0 l
    → Same word p g
unfolding written
same_written count l o p e h w k = rw e (w, k ∙ sets_front l o h)

pub offered_short : (count : ℕ) (l o : List ℕ) → length o < length l → offered count l o ≡ refusal 8 o
unfolding offered
offered_short count l o h = simp (lt-ltb _ _ h)

pub offered_long : (count : ℕ) (l o : List ℕ) → length l ≤ length o → offered count l o ≡ written count l o
unfolding offered
offered_long count l o h = simp (le-ltb _ _ h)
