-- Refusals and their numbers in the tables of documents 01 and 02 and, from 30 on, of typed lists.
use Rattle.std.specs.Prelude.{ℕ, Result, Ok, Err, List, [], ◌∷◌, eqb}
use Rattle.common.specs.Choice.{pick}
use Rattle.common.specs.declared.refusal.Refusal.{Refusal}
use Rattle.common.specs.declared.refusal.Refusal.TheVariants.{BadSettings, BadTree, BadText, TooManyNodes, TooDeep, TooLarge, TooShort, NoLeaf}
use Rattle.common.specs.declared.refusal.Refusal.TheVariants.{TooManyPieces, NoChild, OutsideSheet, InMargin, TooManyPlaces, NotAList, TooWide, BadRange}
use Rattle.common.specs.declared.refusal.Refusal.TheVariants.{BadStore, NoDraft, NoRoom, ListTooLong, BadCharacter, BadEscape, OddIndent, SecondRoot}
use Rattle.common.specs.declared.refusal.Refusal.TheVariants.{NoParent, ListTooDeep, ListTooMany, ListTooLarge, ListEmpty}

abbrev pub number_of : Refusal → ℕ
number_of BadSettings = 1
number_of BadTree = 2
number_of BadText = 3
number_of TooManyNodes = 4
number_of TooDeep = 5
number_of TooLarge = 6
number_of TooShort = 8
number_of NoLeaf = 9
number_of TooManyPieces = 10
number_of NoChild = 11
number_of OutsideSheet = 12
number_of InMargin = 13
number_of TooManyPlaces = 14
number_of NotAList = 15
number_of TooWide = 16
number_of BadRange = 17
number_of BadStore = 18
number_of NoDraft = 19
number_of NoRoom = 20
number_of ListTooLong = 30
number_of BadCharacter = 31
number_of BadEscape = 32
number_of OddIndent = 33
number_of SecondRoot = 34
number_of NoParent = 35
number_of ListTooDeep = 36
number_of ListTooMany = 37
number_of ListTooLarge = 38
number_of ListEmpty = 39

-- the number of an answer: 0 where the input is accepted
abbrev pub answer_number : {A : Type 0} → Result A Refusal → ℕ
answer_number (Ok x) = 0
answer_number (Err k) = number_of k

abbrev pub table : List Refusal
table =
    BadSettings ∷ BadTree ∷ BadText ∷ TooManyNodes ∷ TooDeep ∷ TooLarge ∷ TooShort ∷ NoLeaf ∷ TooManyPieces ∷ NoChild ∷ OutsideSheet ∷ InMargin
    ∷ TooManyPlaces ∷ NotAList ∷ TooWide ∷ BadRange ∷ BadStore ∷ NoDraft ∷ NoRoom ∷ ListTooLong ∷ BadCharacter ∷ BadEscape ∷ OddIndent ∷ SecondRoot
    ∷ NoParent ∷ ListTooDeep ∷ ListTooMany ∷ ListTooLarge ∷ ListEmpty ∷ []

abbrev pub with_number : List Refusal → ℕ → Refusal
with_number [] k = BadSettings
with_number (r ∷ rs) k = pick (eqb k (number_of r)) r (with_number rs k)

-- the refusal of that number; the first of the table for a number that is not in it, which no definition refuses with
unfoldable pub refusal_of : ℕ → Refusal
refusal_of k = with_number table k
