-- The numbers that each call answers (the tables of documents 01 and 02; docs/CALLS.md), and each C function in its word (include/leg_sheet.h): one of a list,
-- whatever the input, and each number of the list for some input.
use Rattle.std.specs.Prelude.{◌≡◌, ℕ, true, List, [], ◌∷◌, map}
use Rattle.settings.specs.declared.Priority.{Priority}
use Rattle.settings.specs.Reading.{read_settings, settings_answer, priority_of}
use Rattle.tree.specs.Reading.{read_tree, tree_answer}
use Rattle.splits.specs.declared.SplitList.{SplitList}
use Rattle.splits.specs.Cuts.{cut_of, in_place_cut, short_of}
use Rattle.drafts.specs.Store.{save_of, forget_of, return_of}
use Rattle.sharing.specs.Sharing.{share_of}
use Rattle.sizes.specs.Input.{Input, input_of}
use Rattle.fold.specs.Answers.{fold_of}
use Rattle.collector.specs.declared.SizeRecord.{SizeRecord}
use Rattle.collector.specs.Records.{collect_of}
use Rattle.blank.specs.Blank.{one_of, blank_of}
use Rattle.typed.specs.Typed.{typed_of}
use Rattle.widen.specs.Answers.{nearest_of}
use Rattle.plan.specs.Answers.{plan_input, planned_of}
use Rattle.leaf.specs.Answers.{leaf_record_of, leaf_print_of}
use Rattle.sheet.specs.Answers.{sheet_of}
use Rattle.places.specs.Places.{leaf_place_of}
use Rattle.places.specs.Together.{finds_of}
use Rattle.c_encoding.specs.Words.{packed, typed_word}
use Rattle.c_encoding.specs.Promises.{number_in}
use Rattle.c_encoding.specs.Numbers.{settings_given, margin_given, sizes_given, record_given}
use Rattle.c_encoding.specs.Cuts.{splits3_given, lent_given, splits_given}
use Rattle.c_encoding.specs.Places.{place_given}
use Rattle.c_encoding.specs.Plans.{ends_word}

-- ---- what is stated of each call

-- the number is one of those
abbrev pub Among : ℕ → List ℕ → Type 0
Among n ns = one_of n ns ≡ true

-- each of the numbers occurs: these inputs are answered with them, one after the other
pub record Met {A : Type 0} (number : A → ℕ) (ns : List ℕ) : Type 0 where
  pub inputs : List A
  pub each : map number inputs ≡ ns

-- a call with that number in its answer has these numbers: it answers no other, and each of them
pub record Answers {A : Type 0} (number : A → ℕ) (ns : List ℕ) : Type 0 where
  pub only : (x : A) → Among (number x) ns
  pub met : Met number ns

-- the bytes of settings and of a tree, and the other inputs
pub record Handed (R : Type 0) : Type 0 where
  pub settings : List ℕ
  pub tree : List ℕ
  pub rest : R

abbrev pub input_in : {R : Type 0} → Handed R → Input
input_in x = input_of x.settings x.tree

-- ---- the lists of numbers, in the order of the tests

abbrev pub of_settings : List ℕ
of_settings = 0 ∷ 1 ∷ []

abbrev pub of_tree : List ℕ
of_tree = 0 ∷ 2 ∷ 3 ∷ 4 ∷ 5 ∷ []

abbrev pub of_cut : List ℕ
of_cut = 0 ∷ 10 ∷ []

abbrev pub of_share : List ℕ
of_share = 0 ∷ 11 ∷ []

abbrev pub of_sizes : List ℕ
of_sizes = 0 ∷ 1 ∷ 2 ∷ 3 ∷ 4 ∷ 5 ∷ 8 ∷ []

abbrev pub of_record : List ℕ
of_record = 0 ∷ 1 ∷ 2 ∷ 3 ∷ 4 ∷ 5 ∷ 6 ∷ 9 ∷ []

abbrev pub of_leaf : List ℕ
of_leaf = 0 ∷ 1 ∷ 2 ∷ 3 ∷ 4 ∷ 5 ∷ 6 ∷ 9 ∷ 8 ∷ []

abbrev pub of_sheet : List ℕ
of_sheet = 0 ∷ 1 ∷ 2 ∷ 3 ∷ 4 ∷ 5 ∷ 6 ∷ 8 ∷ []

abbrev pub of_place : List ℕ
of_place = 0 ∷ 1 ∷ 2 ∷ 3 ∷ 4 ∷ 5 ∷ 6 ∷ 12 ∷ 13 ∷ []

abbrev pub of_places : List ℕ
of_places = 0 ∷ 1 ∷ 2 ∷ 3 ∷ 4 ∷ 5 ∷ 6 ∷ 14 ∷ 12 ∷ 13 ∷ 8 ∷ []

abbrev pub of_fold : List ℕ
of_fold = 0 ∷ 1 ∷ 2 ∷ 3 ∷ 4 ∷ 5 ∷ 15 ∷ 16 ∷ 8 ∷ []

abbrev pub of_plan : List ℕ
of_plan = 0 ∷ 1 ∷ 2 ∷ 3 ∷ 4 ∷ 5 ∷ 17 ∷ []

abbrev pub of_save : List ℕ
of_save = 0 ∷ 18 ∷ 19 ∷ 2 ∷ 3 ∷ 4 ∷ 5 ∷ 20 ∷ []

abbrev pub of_forget : List ℕ
of_forget = 0 ∷ 18 ∷ 19 ∷ []

abbrev pub of_return : List ℕ
of_return = 0 ∷ 18 ∷ 19 ∷ 8 ∷ []

abbrev pub of_blank : List ℕ
of_blank = 0 ∷ 2 ∷ 3 ∷ 4 ∷ 5 ∷ 9 ∷ 8 ∷ []

abbrev pub of_typed : List ℕ
of_typed = 0 ∷ 30 ∷ 31 ∷ 32 ∷ 33 ∷ 34 ∷ 35 ∷ 36 ∷ 37 ∷ 38 ∷ 39 ∷ 8 ∷ []

-- of C functions that are lent memory which the call does not take

abbrev pub of_leg_settings : List ℕ
of_leg_settings = 0 ∷ 1 ∷ 8 ∷ []

abbrev pub of_leg_place : List ℕ
of_leg_place = 0 ∷ 1 ∷ 2 ∷ 3 ∷ 4 ∷ 5 ∷ 6 ∷ 12 ∷ 13 ∷ 8 ∷ []

abbrev pub of_leg_cut : List ℕ
of_leg_cut = 0 ∷ 8 ∷ 10 ∷ []

-- ---- the number of each call's answer: the term of its contract, of all inputs

abbrev pub settings_number : List ℕ → ℕ
settings_number bs = (settings_answer bs).number

abbrev pub tree_number : List ℕ → ℕ
tree_number ts = (tree_answer (read_tree ts)).number

-- a list and a width
abbrev pub cut_number : SplitList × ℕ → ℕ
cut_number x = (cut_of x.0 x.1).number

abbrev pub kept_number : SplitList × ℕ → ℕ
kept_number x = (in_place_cut x.0 x.1).answer.number

abbrev pub short_number : SplitList × ℕ → ℕ
short_number x = (short_of x.0 x.1).number

-- spare, n, priority, index
abbrev pub share_number : ℕ × ℕ × Priority × ℕ → ℕ
share_number x = (share_of x.0 x.1 x.2 x.3).number

abbrev pub collect_number : Handed (List SizeRecord) → ℕ
collect_number x = (collect_of (input_in x) x.rest).answer.number

abbrev pub record_number : Handed ℕ → ℕ
record_number x = (leaf_record_of (input_in x) x.rest).number

abbrev pub leaf_number : Handed (ℕ × List ℕ) → ℕ
leaf_number x = (leaf_print_of (input_in x) x.rest.0 x.rest.1).answer.number

abbrev pub sheet_number : Handed (List ℕ) → ℕ
sheet_number x = (sheet_of (input_in x) x.rest).answer.number

-- a line and a column
abbrev pub place_number : Handed (ℕ × ℕ) → ℕ
place_number x = (leaf_place_of (input_in x) x.rest.0 x.rest.1).number

-- places and a lent list of answers
abbrev pub places_number : Handed (List ℕ × List ℕ) → ℕ
places_number x = (finds_of (input_in x) x.rest.0 x.rest.1).answer.number

-- a width, a budget and a lent list of Columns
abbrev pub fold_number : Handed (ℕ × ℕ × List ℕ) → ℕ
fold_number x = (fold_of (input_in x) x.rest.0 x.rest.1 x.rest.2).answer.number

abbrev pub plan_number : List ℕ × List ℕ → ℕ
plan_number x = (planned_of (plan_input x.0 x.1)).number

-- lent lists of nodes and of letters
abbrev pub nearest_number : Handed (List ℕ × List ℕ) → ℕ
nearest_number x = (nearest_of (input_in x) x.rest.0 x.rest.1).answer.number

-- a store, a name, a tree
abbrev pub save_number : List ℕ × ℕ × List ℕ → ℕ
save_number x = (save_of x.0 x.1 x.2).answer

abbrev pub forget_number : List ℕ × ℕ → ℕ
forget_number x = (forget_of x.0 x.1).answer

-- a store, a name, a lent buffer
abbrev pub return_number : List ℕ × ℕ × List ℕ → ℕ
return_number x = (return_of x.0 x.1 x.2).answer.number

-- a tree, node numbers, a lent output
abbrev pub blank_number : List ℕ × List ℕ × List ℕ → ℕ
blank_number x = (blank_of x.0 x.1 x.2).answer.number

-- a typed list and a lent output
abbrev pub typed_number : List ℕ × List ℕ → ℕ
typed_number x = (typed_of x.0 x.1).answer.number

pub record CallNumbers : Type 0 where
  pub read_settings_lem : Answers settings_number of_settings
  pub read_tree_lem : Answers tree_number of_tree
  pub short_splits3_lem : Answers cut_number of_cut
  pub short_splits3_in_place_lem : Answers kept_number of_cut
  pub short_splits_lem : Answers short_number of_cut
  pub share : Answers share_number of_share
  pub collect_sizes_lem : Answers collect_number of_sizes
  pub leaf_record_lem : Answers record_number of_record
  pub print_leaf : Answers leaf_number of_leaf
  pub print_sheet : Answers sheet_number of_sheet
  pub leaf_at : Answers place_number of_place
  pub find_places : Answers places_number of_places
  pub fold_list : Answers fold_number of_fold
  pub plan_sheet : Answers plan_number of_plan
  pub nearest_cells : Answers nearest_number of_sizes
  pub save_draft : Answers save_number of_save
  pub forget_draft : Answers forget_number of_forget
  pub return_draft : Answers return_number of_return
  pub blank_texts : Answers blank_number of_blank
  pub read_typed : Answers typed_number of_typed

-- ---- the number in the word of each C function; what is lent is last

abbrev pub leg_settings : List ℕ × List ℕ → ℕ
leg_settings x = number_in (settings_given (read_settings x.0) x.1).answer

abbrev pub leg_margin : List ℕ × List ℕ → ℕ
leg_margin x = number_in (margin_given (read_settings x.0) x.1).answer

abbrev pub leg_tree : List ℕ → ℕ
leg_tree ts = number_in (packed (tree_number ts) (tree_answer (read_tree ts)).nodes)

abbrev pub leg_sizes : Handed (List ℕ) → ℕ
leg_sizes x = number_in (sizes_given (input_in x) x.rest).answer

abbrev pub leg_record : Handed (ℕ × List ℕ) → ℕ
leg_record x = number_in (record_given (leaf_record_of (input_in x) x.rest.0) x.rest.1).answer

abbrev pub leg_leaf : Handed (ℕ × List ℕ) → ℕ
leg_leaf x = number_in (packed (leaf_number x) (leaf_print_of (input_in x) x.rest.0 x.rest.1).answer.count)

abbrev pub leg_sheet : Handed (List ℕ) → ℕ
leg_sheet x = number_in (packed (sheet_number x) (sheet_of (input_in x) x.rest).answer.count)

abbrev pub leg_place : Handed (ℕ × ℕ × List ℕ) → ℕ
leg_place x = number_in (place_given (leaf_place_of (input_in x) x.rest.0 x.rest.1) x.rest.2).answer

abbrev pub leg_places : Handed (List ℕ × List ℕ) → ℕ
leg_places x = number_in (packed (places_number x) (finds_of (input_in x) x.rest.0 x.rest.1).answer.count)

abbrev pub leg_fold : Handed (ℕ × ℕ × List ℕ) → ℕ
leg_fold x = number_in (packed (fold_number x) (fold_of (input_in x) x.rest.0 x.rest.1 x.rest.2).answer.columns)

abbrev pub leg_plan : List ℕ × List ℕ → ℕ
leg_plan x = number_in (ends_word (planned_of (plan_input x.0 x.1)))

abbrev pub leg_widen : Handed (List ℕ × List ℕ) → ℕ
leg_widen x = number_in (packed (nearest_number x) (nearest_of (input_in x) x.rest.0 x.rest.1).answer.count)

abbrev pub leg_save : List ℕ × ℕ × List ℕ → ℕ
leg_save x = number_in (packed (save_number x) 0)

abbrev pub leg_forget : List ℕ × ℕ → ℕ
leg_forget x = number_in (packed (forget_number x) 0)

abbrev pub leg_return : List ℕ × ℕ × List ℕ → ℕ
leg_return x = number_in (packed (return_number x) (return_of x.0 x.1 x.2).answer.count)

abbrev pub leg_blank : List ℕ × List ℕ × List ℕ → ℕ
leg_blank x = number_in (packed (blank_number x) (blank_of x.0 x.1 x.2).answer.count)

-- pieces, count, width
abbrev pub leg_splits3 : List ℕ × ℕ × ℕ × List ℕ → ℕ
leg_splits3 x = number_in (splits3_given x.0 x.1 x.2 x.3).answer

abbrev pub leg_lent : List ℕ × ℕ × ℕ × List ℕ → ℕ
leg_lent x = number_in (lent_given x.0 x.1 x.2 x.3).answer

abbrev pub leg_splits : List ℕ × ℕ × ℕ × List ℕ × List ℕ → ℕ
leg_splits x = number_in (splits_given x.0 x.1 x.2 x.3 x.4).answer

-- spare, n, priority, index
abbrev pub leg_share : ℕ × ℕ × ℕ × ℕ → ℕ
leg_share x = number_in (packed (share_of x.0 x.1 (priority_of x.2) x.3).number 0)

abbrev pub leg_typed : List ℕ × List ℕ → ℕ
leg_typed x = number_in (typed_word (typed_of x.0 x.1).answer)

pub record ExportNumbers : Type 0 where
  pub leg_read_settings : Answers leg_settings of_leg_settings
  pub leg_read_margin : Answers leg_margin of_leg_settings
  pub leg_read_tree : Answers leg_tree of_tree
  pub leg_sizes_lem : Answers leg_sizes of_sizes
  pub leg_leaf_record : Answers leg_record of_leaf
  pub leg_print_leaf : Answers leg_leaf of_leaf
  pub leg_print_sheet : Answers leg_sheet of_sheet
  pub leg_place_lem : Answers leg_place of_leg_place
  pub leg_places_lem : Answers leg_places of_places
  pub leg_fold_lem : Answers leg_fold of_fold
  pub leg_plan_lem : Answers leg_plan of_plan
  pub leg_widen_lem : Answers leg_widen of_sizes
  pub leg_save_draft : Answers leg_save of_save
  pub leg_forget_draft : Answers leg_forget of_forget
  pub leg_return_draft : Answers leg_return of_return
  pub leg_blank_lem : Answers leg_blank of_blank
  pub leg_short_splits3 : Answers leg_splits3 of_leg_cut
  pub leg_short_splits3_lent : Answers leg_lent of_leg_cut
  pub leg_short_splits : Answers leg_splits of_leg_cut
  pub leg_share_lem : Answers leg_share of_share
  pub leg_read_typed : Answers leg_typed of_typed
