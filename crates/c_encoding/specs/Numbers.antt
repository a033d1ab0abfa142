-- What the C functions write into lent lists: numbers in the order of include/leg_sheet.h.
use Rattle.std.specs.Prelude.{ℕ, Bool, List, [], ◌∷◌, ◌++◌, length, drop, ltb, eqb}
use Rattle.common.specs.Choice.{pick}
use Rattle.common.specs.Outcome.{Outcome}
use Rattle.settings.specs.declared.Settings.{Settings}
use Rattle.settings.specs.Reading.{Parsed}
use Rattle.settings.specs.Defaults.{settings_bytes, margin_bytes}
use Rattle.tree.specs.Tree.{nodes}
use Rattle.sizes.specs.Input.{Input, refused, given}
use Rattle.collector.specs.declared.SizeRecord.{SizeRecord}
use Rattle.collector.specs.Records.{records_of}
use Rattle.splits.specs.declared.SplitList.{SplitList}
use Rattle.splits.specs.declared.Positions.{Positions}
use Rattle.splits.specs.declared.cut.CutPair.{CutPair}
use Rattle.sizes.specs.declared.Size.{Size}
use Rattle.block.specs.declared.Flags.{Flags}
use Rattle.leaf.specs.declared.LeafRecord.{LeafRecord}
use Rattle.c_encoding.specs.Words.{packed}

-- the word of a refusal, which writes nothing, to one list or to two
unfoldable pub refusal : {M : Type 0} → ℕ → M → Outcome ℕ M
refusal k m = record { answer = packed k 0; memory = m }

-- numbers at the front of a list; what is past them stays
abbrev pub overwritten : List ℕ → List ℕ → List ℕ
overwritten numbers o = numbers ++ drop (length numbers) o

unfoldable pub written : ℕ → List ℕ → List ℕ → Outcome ℕ (List ℕ)
written count numbers o = record { answer = packed 0 count; memory = overwritten numbers o }

-- the same, or 8 where the list is too short for them
unfoldable pub offered : ℕ → List ℕ → List ℕ → Outcome ℕ (List ℕ)
unfolding refusal written
offered count numbers o = pick (ltb (length o) (length numbers)) (refusal 8 o) (written count numbers o)

-- ---- settings

-- the record past its tag and length
abbrev pub settings_numbers : Settings → List ℕ
settings_numbers s = drop 3 (settings_bytes s)

-- the margin's field past its tag and length: four sizes, four fills
abbrev pub margin_numbers : Settings → List ℕ
margin_numbers s = drop 3 (margin_bytes s.margin)

-- 1, or that many numbers of what was read
unfoldable pub read_given : ℕ → (Settings → List ℕ) → Parsed → List ℕ → Outcome ℕ (List ℕ)
unfolding refusal offered
read_given count numbers Parsed.refused o = refusal 1 o
read_given count numbers (Parsed.read s) o = offered count (numbers s) o

abbrev pub settings_given : Parsed → List ℕ → Outcome ℕ (List ℕ)
settings_given p o = read_given 28 settings_numbers p o

abbrev pub margin_given : Parsed → List ℕ → Outcome ℕ (List ℕ)
margin_given p o = read_given 8 margin_numbers p o

-- ---- sizes

-- natural width and height, allotted width and height, nodes below, node by node
unfoldable pub size_numbers : List SizeRecord → List ℕ
size_numbers [] = []
size_numbers (z ∷ zs) = z.natural_width ∷ z.natural_height ∷ z.width ∷ z.height ∷ z.below ∷ size_numbers zs

unfoldable pub sizes_given : Input → List ℕ → Outcome ℕ (List ℕ)
unfolding refusal offered
sizes_given (refused k) o = refusal k o
sizes_given (given s t) o = offered (nodes t) (size_numbers (records_of s t)) o

-- ---- lists

-- the count, then the 512 entries
abbrev pub list_numbers : SplitList → List ℕ
list_numbers l = l.count ∷ l.pieces

abbrev pub position_numbers : Positions → List ℕ
position_numbers p = p.count ∷ p.entries

abbrev pub bit : Bool → ℕ
bit b = pick b 1 0

-- ---- leaf records

-- node, size, flags, the pair of the leaf's cut
abbrev pub front_numbers : ℕ → Size → Flags → CutPair → List ℕ
front_numbers node z f p =
    node ∷ z.width ∷ z.height ∷ bit f.first_row ∷ bit f.last_row ∷ bit f.first_col ∷ bit f.last_col
    ∷ bit f.no_right ∷ bit f.lean_top ∷ bit f.top_left ∷ bit f.top_intersection ∷ p.taken ∷ p.rest ∷ []

abbrev pub record_numbers : LeafRecord → List ℕ
record_numbers r = front_numbers r.node r.size r.flags r.pair ++ (list_numbers r.horizontal ++ list_numbers r.vertical)

unfoldable pub record_given : LeafRecord → List ℕ → Outcome ℕ (List ℕ)
unfolding refusal offered
record_given r o = pick (eqb r.number 0) (offered 1039 (record_numbers r) o) (refusal r.number o)
