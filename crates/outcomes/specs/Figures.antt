-- Inputs for each number of each call and each C function, computed on the definitions: these inputs are answered with the numbers of the list, one after the
-- other.
use Rattle.std.specs.Prelude.{◌≡◌, refl, ℕ, zero, suc, ◌*◌, Bool, true, false, List, [], ◌∷◌, ◌++◌, map, replicate, ltb}
use Rattle.common.specs.Choice.{pick}
use Rattle.common.specs.Sums.{greatest}
use Rattle.splits.specs.declared.SplitList.{SplitList}
use Rattle.splits.specs.Figures.{all_true}
use Rattle.splits.specs.Lists.{split_list}
use Rattle.splits.specs.Cuts.{cut_of, in_place_cut, short_of}
use Rattle.settings.specs.declared.Priority.{Priority}
use Rattle.settings.specs.Reading.{read_settings}
use Rattle.tree.specs.Tree.{nodes, count}
use Rattle.tree.specs.Reading.{read_tree, read_element, header_of, is_text}
use Rattle.tree.specs.Planning.{whole_in, element_in, header_in}
use Rattle.sizes.specs.Sizes.{sep, naturals, tree_sizes}
use Rattle.sizes.specs.Input.{input_of}
use Rattle.drafts.specs.Store.{save_of, forget_of, return_of}
use Rattle.fold.specs.Fold.{folded, columns}
use Rattle.fold.specs.Answers.{cells?, list?, fold_cells, fold_of}
use Rattle.fold.specs.Answers as fold
use Rattle.collector.specs.declared.SizeRecord.{SizeRecord}
use Rattle.collector.specs.Below.{belows}
use Rattle.collector.specs.Records.{zipped, collect_of}
use Rattle.blank.specs.Blank.{blank_of}
use Rattle.widen.specs.Widening.{needs, tree_needs, of_number, nearest_from, nearest_list}
use Rattle.widen.specs.Answers.{nearest_of}
use Rattle.plan.specs.Answers.{plan_input}
use Rattle.leaf.specs.Answers.{leaf_record_of, leaf_print_of}
use Rattle.sheet.specs.Answers.{sheet_of}
use Rattle.places.specs.Places.{leaf_place_of}
use Rattle.places.specs.Together.{finds_of}
use Rattle.c_encoding.specs.Numbers.{refusal, written, read_given, size_numbers, sizes_given, record_given}
use Rattle.c_encoding.specs.Cuts.{refused_by, splits3_given, written_two, kept_given, lent_given, short_given, splits_given}
use Rattle.c_encoding.specs.Places.{place_given}
use Rattle.outcomes.specs.Promises.{Met, Handed, leg_settings, leg_margin, leg_sizes, leg_record, leg_place, leg_splits3, leg_lent, leg_splits, leg_share}
use Rattle.outcomes.specs.Promises.{of_leg_settings, of_leg_place, of_leg_cut, of_settings, of_tree, of_cut, of_share, of_sizes, of_record, of_leaf, of_sheet}
use Rattle.outcomes.specs.Promises.{of_place}
use Rattle.outcomes.specs.Promises.{of_places, of_fold, of_plan, of_save, of_forget, of_return, of_blank, settings_number, tree_number, cut_number, kept_number}
use Rattle.outcomes.specs.Promises.{short_number, share_number, collect_number, record_number, leaf_number, sheet_number, place_number, places_number}
use Rattle.outcomes.specs.Promises.{fold_number}
use Rattle.outcomes.specs.Promises.{plan_number, nearest_number, save_number, forget_number, return_number, blank_number}

-- ---- settings

-- every mark is `+`, no padding
pub plain_settings : List ℕ
plain_settings = 16 ∷ 0 ∷ 28 ∷ (replicate 15 43 ++ (replicate 4 0 ++ (replicate 4 32 ++ replicate 5 0)))

-- the same with a margin of 1 on all sides
pub edged_settings : List ℕ
unfolding plain_settings
edged_settings = plain_settings ++ (17 ∷ 0 ∷ 8 ∷ (replicate 4 1 ++ replicate 4 32))

pub settings_met : Met settings_number of_settings
unfolding plain_settings read_settings
settings_met = record { inputs = plain_settings ∷ [] ∷ []; each = refl }

-- ---- trees

-- the empty Cell: its sheet has 3 lines of 2 columns
pub empty_cell : List ℕ
empty_cell = 1 ∷ 0 ∷ 0 ∷ []

-- a Cell with byte 0
pub forbidden : List ℕ
forbidden = 1 ∷ 0 ∷ 1 ∷ 0 ∷ []

-- n empty Rows
rows : ℕ → List ℕ
rows zero = []
rows (suc n) = 2 ∷ 0 ∷ 0 ∷ rows n

-- a Row of 512 empty Rows
pub crowded : List ℕ
unfolding rows
crowded = 2 ∷ 6 ∷ 0 ∷ rows 512

-- n Rows, each in the one before
nested : ℕ → List ℕ
nested zero = []
nested (suc n) = 2 ∷ 0 ∷ (3 * n) ∷ nested n

pub deep : List ℕ
unfolding nested
deep = nested 17

-- a Cell of 159 lines
pub tall_cell : List ℕ
tall_cell = 1 ∷ 0 ∷ 158 ∷ replicate 158 10

-- a Column of one Cell, `a`
pub column_of_one : List ℕ
column_of_one = 3 ∷ 0 ∷ 4 ∷ 1 ∷ 0 ∷ 1 ∷ 97 ∷ []

-- a range with a least width above its greatest
pub no_range : List ℕ
no_range = 4 ∷ 0 ∷ 4 ∷ 1 ∷ 0 ∷ 1 ∷ 1 ∷ []

-- refused with 2 to 5
pub bad_trees : List (List ℕ)
unfolding forbidden crowded deep
bad_trees = [] ∷ forbidden ∷ crowded ∷ deep ∷ []

pub tree_met : Met tree_number of_tree
unfolding empty_cell bad_trees read_tree read_element header_of is_text
tree_met = record { inputs = empty_cell ∷ bad_trees; each = refl }

-- ---- calls on settings and a tree

abbrev pub on : {R : Type 0} → List ℕ → List ℕ → R → Handed R
on s t r = record { settings = s; tree = t; rest = r }

-- refused with 1 to 5; what this unfolds is enough to read every input below
pub refusals : {R : Type 0} → R → List (Handed R)
unfolding plain_settings edged_settings empty_cell forbidden crowded deep tall_cell column_of_one bad_trees input_of read_settings read_tree read_element
    header_of is_text
    nodes sep
refusals r = on [] [] r ∷ map (λ (t : List ℕ). on plain_settings t r) bad_trees

abbrev no_sizes : SizeRecord
no_sizes = record { natural_width = 0; natural_height = 0; width = 0; height = 0; below = 0 }

pub collect_met : Met collect_number of_sizes
unfolding refusals collect_of
collect_met = record { inputs = on plain_settings empty_cell (no_sizes ∷ []) ∷ (refusals [] ++ (on plain_settings empty_cell [] ∷ [])); each = refl }

pub record_met : Met record_number of_record
unfolding refusals leaf_record_of
record_met = record {
  inputs = on plain_settings empty_cell 0 ∷ (refusals 0 ++ (on plain_settings tall_cell 0 ∷ on plain_settings empty_cell 1 ∷ []));
  each = refl;
}

pub leaf_met : Met leaf_number of_leaf
unfolding refusals leaf_print_of
leaf_met = record {
  inputs =
      on plain_settings empty_cell (0, replicate 8 0)
      ∷ (refusals (0, []) ++ (on plain_settings tall_cell (0, []) ∷ on plain_settings empty_cell (1, []) ∷ on plain_settings empty_cell (0, []) ∷ []));
  each = refl;
}

pub sheet_met : Met sheet_number of_sheet
unfolding refusals sheet_of
sheet_met = record {
  inputs = on plain_settings empty_cell (replicate 8 0) ∷ (refusals [] ++ (on plain_settings tall_cell [] ∷ on plain_settings empty_cell [] ∷ []));
  each = refl;
}

pub place_met : Met place_number of_place
unfolding refusals leaf_place_of
place_met = record {
  inputs =
      on plain_settings empty_cell (0, 0)
      ∷ (refusals (0, 0) ++ (on plain_settings tall_cell (0, 0) ∷ on plain_settings empty_cell (3, 0) ∷ on edged_settings empty_cell (0, 0) ∷ []));
  each = refl;
}

-- line 0, column 0; that place 257 times; line 0, column 2; a place in the margin
pub places_met : Met places_number of_places
unfolding refusals finds_of
places_met = record {
  inputs =
      on plain_settings empty_cell (0 ∷ [], 0 ∷ [])
      ∷ (refusals ([], [])
      ++ (on plain_settings tall_cell ([], [])
      ∷ on plain_settings empty_cell (replicate 257 0, [])
      ∷ on plain_settings empty_cell (2 ∷ [], [])
      ∷ on edged_settings empty_cell (0 ∷ [], [])
      ∷ on plain_settings empty_cell (0 ∷ [], [])
      ∷ []));
  each = refl;
}

pub fold_met : Met fold_number of_fold
unfolding refusals fold_of list? cells? count fold.listed_trees fold_cells naturals greatest columns folded
fold_met = record {
  inputs =
      on plain_settings column_of_one (1, 0, 0 ∷ [])
      ∷ (refusals (0, 0, [])
      ++ (on plain_settings empty_cell (0, 0, []) ∷ on plain_settings column_of_one (0, 0, []) ∷ on plain_settings column_of_one (1, 0, []) ∷ []));
  each = refl;
}

pub nearest_met : Met nearest_number of_sizes
unfolding refusals nearest_of nearest_list nearest_from tree_needs needs of_number greatest
nearest_met = record {
  inputs = on plain_settings empty_cell (0 ∷ [], 0 ∷ []) ∷ (refusals ([], []) ++ (on plain_settings empty_cell ([], []) ∷ []));
  each = refl;
}

pub plan_met : Met plan_number of_plan
unfolding refusals no_range plan_input whole_in element_in header_in
plan_met = record {
  inputs = (plain_settings, empty_cell) ∷ ([], []) ∷ (map (λ (t : List ℕ). (plain_settings, t)) bad_trees ++ ((plain_settings, no_range) ∷ []));
  each = refl;
}

-- ---- cuts and shares

-- a list that says it has 513 pieces
abbrev too_many : SplitList
too_many = record { pieces = replicate 512 0; count = 513 }

pub cut_met : Met cut_number of_cut
unfolding cut_of
cut_met = record { inputs = (split_list [], 0) ∷ (too_many, 0) ∷ []; each = refl }

pub kept_met : Met kept_number of_cut
unfolding in_place_cut cut_of
kept_met = record { inputs = (split_list [], 0) ∷ (too_many, 0) ∷ []; each = refl }

pub short_met : Met short_number of_cut
unfolding short_of
short_met = record { inputs = (split_list [], 0) ∷ (too_many, 0) ∷ []; each = refl }

pub share_met : Met share_number of_share
share_met = record { inputs = (0, 1, Priority.First, 0) ∷ (0, 0, Priority.First, 0) ∷ []; each = refl }

-- ---- drafts and question papers

-- a store with the empty Cell in it as draft A, byte 65
pub store_of_one : List ℕ
unfolding empty_cell
store_of_one = 32 ∷ 0 ∷ 3 ∷ empty_cell

pub save_met : Met save_number of_save
unfolding refusals save_of
save_met = record {
  inputs =
      (replicate 6 0, 65, empty_cell) ∷ (1 ∷ [], 65, empty_cell) ∷ ([], 64, empty_cell)
      ∷ (map (λ (t : List ℕ). ([], 65, t)) bad_trees ++ (([], 65, empty_cell) ∷ []));
  each = refl;
}

pub forget_met : Met forget_number of_forget
unfolding store_of_one forget_of
forget_met = record { inputs = (store_of_one, 65) ∷ (1 ∷ [], 65) ∷ ([], 65) ∷ []; each = refl }

pub return_met : Met return_number of_return
unfolding store_of_one return_of
return_met = record { inputs = (store_of_one, 65, replicate 3 0) ∷ (1 ∷ [], 65, []) ∷ ([], 65, []) ∷ (store_of_one, 65, []) ∷ []; each = refl }

pub blank_met : Met blank_number of_blank
unfolding refusals blank_of
blank_met = record {
  inputs =
      (empty_cell, [], replicate 3 0) ∷ (map (λ (t : List ℕ). (t, [], [])) bad_trees ++ ((empty_cell, 1 ∷ [], []) ∷ (empty_cell, [], []) ∷ []));
  each = refl;
}

-- ---- the settings, trees and the store above are bytes

bytes? : List ℕ → Bool
bytes? [] = true
bytes? (b ∷ s) = pick (ltb b 256) (bytes? s) false

pub are_bytes : List Bool
unfolding bytes? plain_settings edged_settings empty_cell bad_trees tall_cell column_of_one no_range store_of_one
are_bytes = map bytes? (plain_settings ∷ edged_settings ∷ empty_cell ∷ tall_cell ∷ column_of_one ∷ no_range ∷ store_of_one ∷ bad_trees)

pub inputs_are_bytes : all_true are_bytes ≡ true
unfolding all_true are_bytes
inputs_are_bytes = refl

-- ---- C functions that do more than pack a call's answer

pub leg_settings_met : Met leg_settings of_leg_settings
unfolding refusals read_given
leg_settings_met = record { inputs = (plain_settings, replicate 28 0) ∷ ([], []) ∷ (plain_settings, []) ∷ []; each = refl }

pub leg_margin_met : Met leg_margin of_leg_settings
unfolding refusals read_given
leg_margin_met = record { inputs = (plain_settings, replicate 8 0) ∷ ([], []) ∷ (plain_settings, []) ∷ []; each = refl }

pub leg_sizes_met : Met leg_sizes of_sizes
unfolding refusals sizes_given size_numbers zipped tree_sizes belows
leg_sizes_met = record { inputs = on plain_settings empty_cell (replicate 5 0) ∷ (refusals [] ++ (on plain_settings empty_cell [] ∷ [])); each = refl }

pub leg_record_met : Met leg_record of_leaf
unfolding refusals leaf_record_of record_given
leg_record_met = record {
  inputs = on plain_settings empty_cell (0, replicate 1039 0)
      ∷ (refusals (0, []) ++ (on plain_settings tall_cell (0, []) ∷ on plain_settings empty_cell (1, []) ∷ on plain_settings empty_cell (0, []) ∷ []));
  each = refl;
}

pub leg_place_met : Met leg_place of_leg_place
unfolding refusals leaf_place_of place_given
leg_place_met = record {
  inputs = on plain_settings empty_cell (0, 0, replicate 3 0)
      ∷ (refusals (0, 0, [])
      ++ (on plain_settings tall_cell (0, 0, []) ∷ on plain_settings empty_cell (3, 0, []) ∷ on edged_settings empty_cell (0, 0, [])
      ∷ on plain_settings empty_cell (0, 0, []) ∷ []));
  each = refl;
}

pub leg_splits3_met : Met leg_splits3 of_leg_cut
unfolding splits3_given refused_by refusal written
leg_splits3_met = record { inputs = ([], 0, 0, replicate 1029 0) ∷ ([], 0, 0, []) ∷ (replicate 513 0, 513, 0, replicate 1029 0) ∷ []; each = refl }

pub leg_lent_met : Met leg_lent of_leg_cut
unfolding lent_given refused_by kept_given refusal written_two
leg_lent_met = record { inputs = ([], 0, 0, replicate 517 0) ∷ ([], 0, 0, []) ∷ (replicate 513 0, 513, 0, replicate 517 0) ∷ []; each = refl }

pub leg_splits_met : Met leg_splits of_leg_cut
unfolding splits_given refused_by short_given refusal written_two
leg_splits_met = record {
  inputs =
      ([], 0, 0, replicate 513 0, replicate 513 0) ∷ ([], 0, 0, [], []) ∷ (replicate 513 0, 513, 0, replicate 513 0, replicate 513 0) ∷ [];
  each = refl;
}

pub leg_share_met : Met leg_share of_share
leg_share_met = record { inputs = (0, 1, 0, 0) ∷ (0, 0, 0, 0) ∷ []; each = refl }
