-- Document 02, 14, in one statement: what every call answers for two trees, by their bytes p and q.
use Rattle.std.specs.Prelude.{◌≡◌, ℕ, List, length}
use Rattle.tree.specs.Reading.{read_tree, tree_answer}
use Rattle.sizes.specs.Input.{input_of}
use Rattle.drafts.specs.Store.{save_of}
use Rattle.fold.specs.Answers.{fold_of}
use Rattle.collector.specs.declared.SizeRecord.{SizeRecord}
use Rattle.collector.specs.Records.{collect_of}
use Rattle.blank.specs.Blank.{blank_of}
use Rattle.frame.specs.declared.Written.{Written}
use Rattle.widen.specs.Answers.{nearest_of}
use Rattle.plan.specs.Answers.{plan_input, planned_of}
use Rattle.leaf.specs.Answers.{leaf_record_of, leaf_print_of}
use Rattle.sheet.specs.Answers.{sheet_of}
use Rattle.places.specs.Places.{leaf_place_of}
use Rattle.places.specs.Together.{finds_of}
use Rattle.c_encoding.specs.Words.{packed}
use Rattle.alike.specs.Own.{SheetOwn, LeafOwn}
use Rattle.alike.specs.Pairs.{AlikeBytes, AlikeStores, SameStoreAnswer}
use Rattle.alike.specs.Lent.{Agree, BothCollect, BothPrint, BothFind, BothFold, BothNearest, BothBlank}

-- "Under equal settings, buffer lengths and whatever else is handed in, they must get equal refusals from every call ..; equal sizes, flags, split lists and
-- places; and sheets that agree at every byte outside the texts' own bytes."
pub record OneLayout (p q : List ℕ) : Type 0 where
  pub read_tree_lem : tree_answer (read_tree p) ≡ tree_answer (read_tree q)
  pub collect_sizes_lem : (settings : List ℕ) (o r : List SizeRecord) → length o ≡ length r
      → BothCollect o r (collect_of (input_of settings p) o) (collect_of (input_of settings q) r)
  pub leaf_record_lem : (settings : List ℕ) (node : ℕ) → leaf_record_of (input_of settings p) node ≡ leaf_record_of (input_of settings q) node
  pub print_leaf : (settings : List ℕ) (node : ℕ) (o r : List ℕ) → length o ≡ length r
      → BothPrint (Agree (LeafOwn (input_of settings p) node)) o r (leaf_print_of (input_of settings p) node o) (leaf_print_of (input_of settings q) node r)
  pub print_sheet : (settings o r : List ℕ) → length o ≡ length r
      → BothPrint (Agree (SheetOwn (input_of settings p))) o r (sheet_of (input_of settings p) o) (sheet_of (input_of settings q) r)
  pub leaf_at : (settings : List ℕ) (line column : ℕ) → leaf_place_of (input_of settings p) line column ≡ leaf_place_of (input_of settings q) line column
  pub find_places : (settings places o r : List ℕ) → length o ≡ length r
      → BothFind o r (finds_of (input_of settings p) places o) (finds_of (input_of settings q) places r)
  pub fold_list : (settings : List ℕ) (width budget : ℕ) (o r : List ℕ) → length o ≡ length r
      → BothFold o r (fold_of (input_of settings p) width budget o) (fold_of (input_of settings q) width budget r)
  pub plan_sheet : (settings : List ℕ) → planned_of (plan_input settings p) ≡ planned_of (plan_input settings q)
  pub nearest_cells : (settings ns ms ls ks : List ℕ) → length ns ≡ length ms → length ls ≡ length ks
      → BothNearest ns ms ls ks (nearest_of (input_of settings p) ns ls) (nearest_of (input_of settings q) ms ks)
  -- the stores stay alike, so forgetting and returning answer equally too (`forget_draft_alike`, `return_draft_alike`)
  pub save_draft : (store other : List ℕ) → AlikeStores store other → (name : ℕ) → SameStoreAnswer (save_of store name p) (save_of other name q)
  pub blank_texts : (ns o r : List ℕ) → length o ≡ length r → BothBlank AlikeBytes o r (blank_of p ns o) (blank_of q ns r)

-- a printer's word
abbrev pub word_for : Written → ℕ
word_for w = packed w.number w.count
