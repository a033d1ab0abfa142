-- `one_layout`: document 02, 14, of every call.
use mathlib.Core.List.{List}
use Prim.Native.Nat.{ℕ}
use Rattle.alike.specs.Pairs.{AlikeBytes}
use Rattle.alike.specs.Promises.{OneLayout}
use Rattle.alike.proofs.Calls.{read_tree_alike, collect_sizes_alike, leaf_record_alike, leaf_at_alike, find_places_alike, fold_list_alike}
use Rattle.alike.proofs.Calls.{nearest_cells_alike, plan_sheet_alike}
use Rattle.alike.proofs.Printed.{print_leaf_alike, print_sheet_alike}
use Rattle.alike.proofs.Drafts.{save_draft_alike}
use Rattle.alike.proofs.Blanked.{blank_texts_alike}

pub one_layout : {p q : List ℕ} → AlikeBytes p q → OneLayout p q
one_layout b = record {
  read_tree_lem = read_tree_alike b;
  collect_sizes_lem = λ s. collect_sizes_alike b s;
  leaf_record_lem = λ s. leaf_record_alike b s;
  print_leaf = λ s. print_leaf_alike b s;
  print_sheet = λ s. print_sheet_alike b s;
  leaf_at = λ s. leaf_at_alike b s;
  find_places = λ s. find_places_alike b s;
  fold_list = λ s. fold_list_alike b s;
  plan_sheet = plan_sheet_alike b;
  nearest_cells = λ s. nearest_cells_alike b s;
  save_draft = λ o r a n. save_draft_alike b n a;
  blank_texts = blank_texts_alike b;
}
