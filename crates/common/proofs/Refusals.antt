-- A refusal and its number tell each other.
use Rattle.std.proofs.Common.{◌≡◌, refl}
use Rattle.common.specs.declared.refusal.Refusal.{Refusal}
use Rattle.common.specs.declared.refusal.Refusal.TheVariants.{BadSettings, BadTree, BadText, TooManyNodes, TooDeep, TooLarge, TooShort, NoLeaf}
use Rattle.common.specs.declared.refusal.Refusal.TheVariants.{TooManyPieces, NoChild, OutsideSheet, InMargin, TooManyPlaces, NotAList, TooWide, BadRange}
use Rattle.common.specs.declared.refusal.Refusal.TheVariants.{BadStore, NoDraft, NoRoom, ListTooLong, BadCharacter, BadEscape, OddIndent, SecondRoot}
use Rattle.common.specs.declared.refusal.Refusal.TheVariants.{NoParent, ListTooDeep, ListTooMany, ListTooLarge, ListEmpty}
use Rattle.common.specs.Refusals.{number_of, refusal_of}

pub refusal_of_number : (r : Refusal) → refusal_of (number_of r) ≡ r
unfolding refusal_of
refusal_of_number BadSettings = refl
refusal_of_number BadTree = refl
refusal_of_number BadText = refl
refusal_of_number TooManyNodes = refl
refusal_of_number TooDeep = refl
refusal_of_number TooLarge = refl
refusal_of_number TooShort = refl
refusal_of_number NoLeaf = refl
refusal_of_number TooManyPieces = refl
refusal_of_number NoChild = refl
refusal_of_number OutsideSheet = refl
refusal_of_number InMargin = refl
refusal_of_number TooManyPlaces = refl
refusal_of_number NotAList = refl
refusal_of_number TooWide = refl
refusal_of_number BadRange = refl
refusal_of_number BadStore = refl
refusal_of_number NoDraft = refl
refusal_of_number NoRoom = refl
refusal_of_number ListTooLong = refl
refusal_of_number BadCharacter = refl
refusal_of_number BadEscape = refl
refusal_of_number OddIndent = refl
refusal_of_number SecondRoot = refl
refusal_of_number NoParent = refl
refusal_of_number ListTooDeep = refl
refusal_of_number ListTooMany = refl
refusal_of_number ListTooLarge = refl
refusal_of_number ListEmpty = refl
