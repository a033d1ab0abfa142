-- Memory lent to two calls, "under equal .. buffer lengths" (document 02, 14): what is written to both, and what is past it.
use Rattle.std.specs.Prelude.{◌≡◌, ℕ, List, get_or, take, drop}
use Rattle.common.specs.Outcome.{Outcome}
use Rattle.collector.specs.declared.SizeRecord.{SizeRecord}
use Rattle.collector.specs.declared.Collected.{Collected}
use Rattle.frame.specs.declared.Written.{Written}
use Rattle.places.specs.declared.FoundPlaces.{FoundPlaces}
use Rattle.fold.specs.declared.Folded.{Folded}
use Rattle.widen.specs.declared.Widened.{Widened}
use Rattle.drafts.specs.declared.Returned.{Returned}
use Rattle.blank.specs.declared.Blanked.{Blanked}
use Rattle.typed.specs.declared.Typed.{Typed}

-- o and r were lent, and hold x and y afterwards: n entries were written at the front of each, and they are related so; past them each is unchanged
pub record Lent {A : Type 0} (Same : List A → List A → Type 0) (n : ℕ) (o r x y : List A) : Type 0 where
  pub front : Same (take n x) (take n y)
  pub rest : drop n x ≡ drop n o
  pub other_rest : drop n y ≡ drop n r

-- equal answers, and as many entries written as they count; a refusal counts none
pub record BothAnswer {R A : Type 0} (count : R → ℕ) (Same : List A → List A → Type 0) (o r : List A) (x y : Outcome R (List A)) : Type 0 where
  pub answer : x.answer ≡ y.answer
  pub lent : Lent Same (count x.answer) o r x.memory y.memory

-- equal entries
abbrev pub Equal : {A : Type 0} → List A → List A → Type 0
Equal x y = x ≡ y

-- equal bytes but where they are a text's own
abbrev pub Agree : (ℕ → Type 0) → List ℕ → List ℕ → Type 0
Agree Own x y = (i : ℕ) → (Own i → ⊥) → get_or x i 0 ≡ get_or y i 0

-- ---- for each call

abbrev pub BothCollect : List SizeRecord → List SizeRecord → Outcome Collected (List SizeRecord) → Outcome Collected (List SizeRecord) → Type 0
BothCollect o r x y = BothAnswer (λ (k : Collected). k.count) Equal o r x y

abbrev pub BothPrint : (List ℕ → List ℕ → Type 0) → List ℕ → List ℕ → Outcome Written (List ℕ) → Outcome Written (List ℕ) → Type 0
BothPrint Same o r x y = BothAnswer (λ (k : Written). k.count) Same o r x y

abbrev pub BothFind : List ℕ → List ℕ → Outcome FoundPlaces (List ℕ) → Outcome FoundPlaces (List ℕ) → Type 0
BothFind o r x y = BothAnswer (λ (k : FoundPlaces). k.count) Equal o r x y

abbrev pub BothFold : List ℕ → List ℕ → Outcome Folded (List ℕ) → Outcome Folded (List ℕ) → Type 0
BothFold o r x y = BothAnswer (λ (k : Folded). k.columns) Equal o r x y

abbrev pub BothReturn : (List ℕ → List ℕ → Type 0) → List ℕ → List ℕ → Outcome Returned (List ℕ) → Outcome Returned (List ℕ) → Type 0
BothReturn Same o r x y = BothAnswer (λ (k : Returned). k.count) Same o r x y

abbrev pub BothBlank : (List ℕ → List ℕ → Type 0) → List ℕ → List ℕ → Outcome Blanked (List ℕ) → Outcome Blanked (List ℕ) → Type 0
BothBlank Same o r x y = BothAnswer (λ (k : Blanked). k.count) Same o r x y

abbrev pub BothType : (List ℕ → List ℕ → Type 0) → List ℕ → List ℕ → Outcome Typed (List ℕ) → Outcome Typed (List ℕ) → Type 0
BothType Same o r x y = BothAnswer (λ (k : Typed). k.count) Same o r x y

-- where two lists are lent
pub record BothNearest (ns ms ls ks : List ℕ) (x y : Outcome Widened (List ℕ × List ℕ)) : Type 0 where
  pub answer : x.answer ≡ y.answer
  pub nodes : Lent Equal x.answer.count ns ms x.memory.0 y.memory.0
  pub letters : Lent Equal x.answer.count ls ks x.memory.1 y.memory.1

-- of a C function: equal words, and some numbers written
pub record BothGive (o r : List ℕ) (x y : Outcome ℕ (List ℕ)) : Type 0 where
  pub answer : x.answer ≡ y.answer
  pub many : ℕ
  pub lent : Lent Equal many o r x.memory y.memory
