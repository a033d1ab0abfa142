-- The C functions (include/leg_sheet.h) for bytes that are alike: each contract's word and numbers, as c_api/src states them. The lists of places, folds and
-- letters, the printers' outputs, those of drafts and of blanked trees are the calls' own.
use mathlib.Core.Path.{◌≡◌, refl, sym, ap}
use Prim.Native.Nat.{ℕ}
use mathlib.Core.Bool.{Bool, true, false}
use mathlib.Core.List.{List, [], ◌∷◌}
use lib.ListN.{length}
use lib.Seq.{drop-length}
use lib.Dec.{eqb}
use Rattle.common.specs.Choice.{pick}
use Rattle.settings.specs.declared.Settings.{Settings}
use Rattle.tree.specs.Tree.{Tree}
use Rattle.tree.specs.Reading.{read_tree, tree_answer}
use Rattle.tree.specs.declared.ReadTree.{ReadTree}
use Rattle.sizes.specs.Input.{Input, given, input_of}
use Rattle.leaf.specs.Answers.{leaf_record_of, leaf_print_of}
use Rattle.sheet.specs.Answers.{sheet_of}
use Rattle.places.specs.Places.{leaf_place_of}
use Rattle.places.specs.declared.FoundPlaces.{FoundPlaces}
use Rattle.places.specs.Together.{finds_of}
use Rattle.fold.specs.declared.Folded.{Folded}
use Rattle.fold.specs.Answers.{fold_of}
use Rattle.plan.specs.Answers.{plan_input, planned_of}
use Rattle.widen.specs.declared.Widened.{Widened}
use Rattle.widen.specs.Answers.{nearest_of}
use Rattle.drafts.specs.Store.{save_of, forget_of, return_of}
use Rattle.drafts.specs.declared.Returned.{Returned}
use Rattle.c_encoding.specs.Words.{packed}
use Rattle.c_encoding.specs.Numbers.{sizes_given, record_given}
use Rattle.c_encoding.specs.Places.{place_given, read_after}
use Rattle.c_encoding.specs.Folds.{found_numbers, found_after}
use Rattle.c_encoding.specs.Plans.{ends_numbers, ends_word, ends_after}
use Rattle.blank.specs.Alike.{covered, masked}
use Rattle.blank.specs.Blank.{blank_of}
use Rattle.blank.specs.declared.Blanked.{Blanked}
use Rattle.alike.specs.Pairs.{AlikeBytes, AlikeStores}
use Rattle.alike.specs.Lent.{Lent, Equal, BothGive}
use Rattle.alike.proofs.ReplacedBytes.{nodes_recast}
use Rattle.alike.proofs.Masks.{mask_keeps}
use Rattle.alike.proofs.Pairs.{inputs_alike}
use Rattle.alike.proofs.Lent.{lent_none, sizes_lent, record_lent, place_lent}
use Rattle.alike.proofs.Calls.{same_by, masked_records, read_tree_alike, leaf_record_alike, leaf_at_alike, find_places_alike, fold_list_alike}
use Rattle.alike.proofs.Calls.{nearest_cells_alike, plan_sheet_alike}
use Rattle.alike.proofs.Printed.{print_leaf_alike, print_sheet_alike}
use Rattle.alike.proofs.Blanked.{blank_texts_alike}
use Rattle.alike.proofs.Drafts.{save_draft_alike, forget_draft_alike, return_draft_alike}
use Rattle.alike.specs.Promises.{word_for}

masked_sizes_given : (o : List ℕ) (s : Settings) (t : Tree) → sizes_given (given s (masked t)) o ≡ sizes_given (given s t) o
unfolding sizes_given masked
masked_sizes_given o s t = rw (nodes_recast (covered 1) mask_keeps t, masked_records s t)

-- numbers that are lent one by one: written where the answer is 0, else each is as it was
after_lent : (c : Bool) (x old other : List ℕ) → length old ≡ length x → length other ≡ length x
    → Lent Equal (pick c (length x) 0) old other (pick c x old) (pick c x other)
after_lent true x old other e d =
    record { front = refl; rest = rw (drop-length x, ← e) (sym (drop-length old)); other_rest = rw (drop-length x, ← d) (sym (drop-length other)) }
after_lent false x old other e d = lent_none Equal old other refl

number_lent : (c : Bool) (x old other : ℕ) → Lent Equal (pick c 1 0) (old ∷ []) (other ∷ []) (pick c x old ∷ []) (pick c x other ∷ [])
number_lent true x old other = record { front = refl; rest = refl; other_rest = refl }
number_lent false x old other = lent_none Equal (old ∷ []) (other ∷ []) refl

module _ {p q : List ℕ} (b : AlikeBytes p q) where
  pub leg_read_tree_alike :
      packed (tree_answer (read_tree p)).number (tree_answer (read_tree p)).nodes ≡ packed (tree_answer (read_tree q)).number (tree_answer (read_tree q)).nodes
  leg_read_tree_alike = ap (λ (r : ReadTree). packed r.number r.nodes) (read_tree_alike b)

  module _ (settings : List ℕ) where
    abbrev x : Input
    x = input_of settings p

    abbrev y : Input
    y = input_of settings q

    module _ (o r : List ℕ) (e : length o ≡ length r) where
      pub leg_sizes_alike : BothGive o r (sizes_given x o) (sizes_given y r)
      leg_sizes_alike =
          let k : sizes_given x r ≡ sizes_given y r = same_by (λ (i : Input). sizes_given i r) (masked_sizes_given r) (inputs_alike b settings) in
          rw (← k) (sizes_lent o r e x)

      pub leg_leaf_record_alike : (n : ℕ) → BothGive o r (record_given (leaf_record_of x n) o) (record_given (leaf_record_of y n) r)
      leg_leaf_record_alike n = rw (← leaf_record_alike b settings n) (record_lent o r e (leaf_record_of x n))

      pub leg_place_alike : (line column : ℕ) → BothGive o r (place_given (leaf_place_of x line column) o) (place_given (leaf_place_of y line column) r)
      leg_place_alike line column = rw (← leaf_at_alike b settings line column) (place_lent o r e (leaf_place_of x line column))

      pub leg_print_leaf_alike : (n : ℕ) → word_for (leaf_print_of x n o).answer ≡ word_for (leaf_print_of y n r).answer
      leg_print_leaf_alike n = ap word_for (print_leaf_alike b settings n o r e).answer

      pub leg_print_sheet_alike : word_for (sheet_of x o).answer ≡ word_for (sheet_of y r).answer
      leg_print_sheet_alike = ap word_for (print_sheet_alike b settings o r e).answer

      -- with one number lent for the elements read
      pub leg_places_alike : (places : List ℕ) (old other : ℕ)
          → (packed (finds_of x places o).answer.number (finds_of x places o).answer.count
          ≡ packed (finds_of y places r).answer.number (finds_of y places r).answer.count)
          × Lent Equal (pick (eqb (finds_of x places o).answer.number 0) 1 0) (old ∷ []) (other ∷ []) (read_after (finds_of x places o).answer old ∷ [])
          (read_after (finds_of y places r).answer other ∷ [])
      leg_places_alike places old other =
          let a : (finds_of x places o).answer ≡ (finds_of y places r).answer = (find_places_alike b settings places o r e).answer in (
            ap (λ (z : FoundPlaces). packed z.number z.count) a,
            rw (← a) (number_lent (eqb (finds_of x places o).answer.number 0) (finds_of x places o).answer.steps old other),
          )

      pub leg_fold_alike : (width budget : ℕ) (old other : List ℕ) → length old ≡ 3 → length other ≡ 3
          → (packed (fold_of x width budget o).answer.number (fold_of x width budget o).answer.columns
          ≡ packed (fold_of y width budget r).answer.number (fold_of y width budget r).answer.columns)
          × Lent Equal (pick (eqb (fold_of x width budget o).answer.number 0) 3 0) old other (found_after (fold_of x width budget o).answer old)
          (found_after (fold_of y width budget r).answer other)
      leg_fold_alike width budget old other h k =
          let a : (fold_of x width budget o).answer ≡ (fold_of y width budget r).answer = (fold_list_alike b settings width budget o r e).answer in (
            ap (λ (z : Folded). packed z.number z.columns) a,
            rw (← a) (after_lent (eqb (fold_of x width budget o).answer.number 0) (found_numbers (fold_of x width budget o).answer) old other h k),
          )

    pub leg_widen_alike : (ns ms ls ks : List ℕ) → length ns ≡ length ms → length ls ≡ length ks
        → packed (nearest_of x ns ls).answer.number (nearest_of x ns ls).answer.count
        ≡ packed (nearest_of y ms ks).answer.number (nearest_of y ms ks).answer.count
    leg_widen_alike ns ms ls ks e d = ap (λ (r : Widened). packed r.number r.count) (nearest_cells_alike b settings ns ms ls ks e d).answer

    pub leg_plan_alike : (old other : List ℕ) → length old ≡ 4 → length other ≡ 4
        → (ends_word (planned_of (plan_input settings p)) ≡ ends_word (planned_of (plan_input settings q)))
        × Lent Equal (pick (eqb (planned_of (plan_input settings p)).number 0) 4 0) old other (ends_after (planned_of (plan_input settings p)) old)
        (ends_after (planned_of (plan_input settings q)) other)
    leg_plan_alike old other h k =
        let a : planned_of (plan_input settings p) ≡ planned_of (plan_input settings q) = plan_sheet_alike b settings in (
          ap ends_word a,
          rw (← a)
              (after_lent (eqb (planned_of (plan_input settings p)).number 0) (ends_numbers (planned_of (plan_input settings p))) old other h k),
        )

  pub leg_blank_alike : (ns o r : List ℕ) → length o ≡ length r
      → packed (blank_of p ns o).answer.number (blank_of p ns o).answer.count ≡ packed (blank_of q ns r).answer.number (blank_of q ns r).answer.count
  leg_blank_alike ns o r e = ap (λ (k : Blanked). packed k.number k.count) (blank_texts_alike b ns o r e).answer

module _ {o r : List ℕ} (a : AlikeStores o r) (n : ℕ) where
  pub leg_save_draft_alike : {p q : List ℕ} → AlikeBytes p q → packed (save_of o n p).answer 0 ≡ packed (save_of r n q).answer 0
  leg_save_draft_alike b = ap (λ (k : ℕ). packed k 0) (save_draft_alike b n a).number

  pub leg_forget_draft_alike : packed (forget_of o n).answer 0 ≡ packed (forget_of r n).answer 0
  leg_forget_draft_alike = ap (λ (k : ℕ). packed k 0) (forget_draft_alike a n).number

  pub leg_return_draft_alike : (out other : List ℕ) → length out ≡ length other
      → packed (return_of o n out).answer.number (return_of o n out).answer.count
      ≡ packed (return_of r n other).answer.number (return_of r n other).answer.count
  leg_return_draft_alike out other e = ap (λ (k : Returned). packed k.number k.count) (return_draft_alike a n out other e).answer
