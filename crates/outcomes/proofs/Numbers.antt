-- `call_numbers`: each call answers the numbers of its list and no other. `leaf_never_seven` and its like: no call answers 7, which document 01 has for a leaf
-- of width 0 (document 02, 8).
--
use mathlib.Core.Path.{◌≡◌, refl}
use Prim.Native.Nat.{ℕ, zero, suc, ◌+◌, ◌-◌, ◌≤◌}
use native.Mathlib.Omega.{arith}
use mathlib.Core.Bool.{Bool, true, false}
use mathlib.Core.Logic.{inl, inr}
use mathlib.Core.Option.{Option, some, none}
use mathlib.Core.List.{List, [], ◌∷◌, ◌++◌, map}
use lib.ListN.{length, drop}
use lib.Dec.{ltb, leb, eqb}
use Rattle.common.specs.Choice.{pick, both}
use Rattle.common.specs.Sums.{greatest}
use Rattle.common.specs.Outcome.{Outcome}
use Rattle.settings.specs.declared.Settings.{Settings}
use Rattle.settings.specs.declared.Priority.{Priority}
use Rattle.settings.specs.Reading.{Parsed, read_settings, parsed_answer as settings_given}
use Rattle.tree.specs.Tree.{Tree, nodes}
use Rattle.tree.specs.Reading.{ReadOne, read_tree, tree_answer}
use Rattle.tree.specs.Accepted.{bytes_of, element}
use Rattle.tree.specs.Planning.{PlanOne, read_plan}
use Rattle.tree.specs.Promises.{PlanRefusal}
use Rattle.tree.proofs.Sound.{tree_refusal}
use Rattle.tree.proofs.PlanSound.{plan_refusal}
use Rattle.splits.specs.declared.SplitList.{SplitList}
use Rattle.splits.specs.declared.CutParts.{CutParts}
use Rattle.splits.specs.declared.ShortParts.{ShortParts}
use Rattle.splits.specs.Splits.{short_splits3, short_splits}
use Rattle.splits.specs.Lists.{list_of}
use Rattle.splits.specs.Cuts.{cut_answered, refused_cut, cut_of, in_place_cut, answered_short, refused_short, short_of}
use Rattle.text.specs.Text.{join_lines}
use Rattle.drafts.specs.Store.{is_name, tag_for, has_tag, fields_of, field_bytes, store_of, without_tag, draft_of, save_tree, save_in, save_of, forget_in}
use Rattle.drafts.specs.Store.{forget_of}
use Rattle.drafts.specs.Store.{no_return, return_found, return_in, return_of}
use Rattle.sharing.specs.declared.Shared.{Shared}
use Rattle.sharing.specs.Sharing.{share_of, share}
use Rattle.sizes.specs.Sizes.{naturals}
use Rattle.sizes.specs.Collecting.{size_width}
use Rattle.sizes.specs.Input.{Input, refused, given, input_of}
use Rattle.sizes.proofs.MeasuredInput.{input_refusal}
use Rattle.fold.specs.Fold.{columns, find, missed}
use Rattle.fold.specs.Answers.{listed_trees, list?, no_folds, counts, finds, fold_cells, fold_of}
use Rattle.collector.specs.declared.SizeRecord.{SizeRecord}
use Rattle.collector.specs.Records.{records_of, no_collected, collect_of}
use Rattle.blank.specs.Blank.{blanked, dots_for, one_of, all_cells, cell_flags, no_blank, blank_to, blank_in, blank_of}
use Rattle.collector.specs.declared.Collected.{Collected}
use Rattle.block.specs.Block.{block}
use Rattle.typed.specs.Typed.{typed_of}
use Rattle.typed.proofs.Answered.{typed_cases}
use Rattle.typed.proofs.Faults.{fault_at}
use Rattle.layout.specs.Walk.{Placed, leaf_of, leaves, inside_w, inside_h}
use Rattle.frame.specs.declared.Written.{Written}
use Rattle.frame.specs.Frame.{W, H, too_large}
use Rattle.frame.specs.Printer.{no_print, print_to}
use Rattle.widen.specs.Widening.{tree_needs, nearest_list}
use Rattle.widen.specs.Listing.{nodes_of, letters_of}
use Rattle.widen.specs.Answers.{no_nearest, nearest_of}
use Rattle.plan.specs.Answers.{plan_settings_input, plan_input, planned_of}
use Rattle.leaf.specs.declared.LeafRecord.{LeafRecord}
use Rattle.leaf.specs.Answers.{leaf_numbered, no_leaf_record, record_found, leaf_record_of, print_found, leaf_print_of}
use Rattle.sheet.specs.Sheet.{sheet}
use Rattle.sheet.specs.Answers.{sheet_of}
use Rattle.places.specs.declared.FoundPlaces.{FoundPlaces}
use Rattle.places.specs.declared.LeafPlace.{LeafPlace}
use Rattle.places.specs.declared.area.Area.{Area}
use Rattle.places.specs.Words.{line_of, column_of}
use Rattle.places.specs.Places.{among, owner_of, areas, fault_of, no_leaf_place, leaf_place_found, leaf_place_in, leaf_place_of}
use Rattle.places.specs.Together.{located, word_of, first_fault, no_finds, finds_to, finds_in, finds_of}
use Rattle.fold.specs.declared.Folded.{Folded}
use Rattle.widen.specs.declared.Widened.{Widened}
use Rattle.drafts.specs.declared.Returned.{Returned}
use Rattle.blank.specs.declared.Blanked.{Blanked}
use Rattle.outcomes.specs.Promises.{Among, input_in, of_settings, of_tree, of_cut, of_share, of_sizes, of_record, of_leaf, of_sheet, of_place, of_places}
use Rattle.outcomes.specs.Promises.{of_fold}
use Rattle.outcomes.specs.Promises.{of_plan, of_save, of_forget, of_return, of_blank, of_typed, CallNumbers}
use Rattle.outcomes.specs.Figures.{settings_met, tree_met, cut_met, kept_met, short_met, share_met, collect_met, record_met, leaf_met, sheet_met}
use Rattle.outcomes.specs.Figures.{place_met, places_met, fold_met, plan_met, nearest_met, save_met, forget_met, return_met, blank_met}
use Rattle.outcomes.specs.TypedFigures.{typed_met}

-- ---- cases

-- of two answers
pub number_chosen : {T : Type 0} (g : T → ℕ) (ns : List ℕ) (b : Bool) (x y : T) → Among (g x) ns → Among (g y) ns → Among (g (pick b x y)) ns
number_chosen g ns true x y p q = p
number_chosen g ns false x y p q = q

-- 1 to 5
five : (P : ℕ → Type 0) → P 1 → P 2 → P 3 → P 4 → P 5 → (k : ℕ) → 1 ≤ k → k ≤ 5 → P k
five P a b c d e zero h j = absurd (omega arith)
five P a b c d e (suc zero) h j = a
five P a b c d e (suc (suc zero)) h j = b
five P a b c d e (suc (suc (suc zero))) h j = c
five P a b c d e (suc (suc (suc (suc zero)))) h j = d
five P a b c d e (suc (suc (suc (suc (suc zero))))) h j = e
five P a b c d e (suc (suc (suc (suc (suc (suc k)))))) h j = absurd (omega arith)

-- 2 to 5
four : (P : ℕ → Type 0) → P 2 → P 3 → P 4 → P 5 → (k : ℕ) → 2 ≤ k → k ≤ 5 → P k
four P b c d e k h j = five (λ m. 2 ≤ m → P m) (λ i. absurd (omega arith)) (λ i. b) (λ i. c) (λ i. d) (λ i. e) k (omega arith) j h

-- a refusal of settings or tree
module _ (ns : List ℕ) (a : Among 1 ns) (b : Among 2 ns) (c : Among 3 ns) (d : Among 4 ns) (e : Among 5 ns) (bs ts : List ℕ) where
  pub input_among : (k : ℕ) → input_of bs ts ≡ refused k → Among k ns
  input_among k i = let r = input_refusal bs ts k i in five (λ m. Among m ns) a b c d e k r.0 r.1

module _ (ns : List ℕ) (b : Among 2 ns) (c : Among 3 ns) (d : Among 4 ns) (e : Among 5 ns) (ts : List ℕ) where
  tree_among : (k : ℕ) → read_tree ts ≡ ReadOne.refused k → Among k ns
  tree_among k i = let r = tree_refusal ts k i in four (λ m. Among m ns) b c d e k r.0 r.1

-- ---- the readers and the small calls

settings_case : (p : Parsed) → Among (settings_given p).number of_settings
unfolding one_of
settings_case Parsed.refused = refl
settings_case (Parsed.read s) = refl

tree_case : (ts : List ℕ) (r : ReadOne) → read_tree ts ≡ r → Among (tree_answer r).number of_tree
unfolding one_of
tree_case ts (ReadOne.refused k) e = tree_among of_tree refl refl refl refl ts k e
tree_case ts (ReadOne.one t z n) e = refl

cut_number : (list : SplitList) (w : ℕ) → Among (cut_of list w).number of_cut
unfolding cut_of one_of
cut_number list w = number_chosen (λ (r : CutParts). r.number) of_cut (leb list.count 512) (cut_answered (short_splits3 (list_of list) w)) refused_cut refl refl

short_number : (list : SplitList) (w : ℕ) → Among (short_of list w).number of_cut
unfolding short_of one_of
short_number list w =
    number_chosen (λ (r : ShortParts). r.number) of_cut (leb list.count 512) (answered_short (short_splits (list_of list) w)) refused_short refl refl

kept_number : (list : SplitList) (w : ℕ) → Among (in_place_cut list w).answer.number of_cut
unfolding in_place_cut
kept_number list w = cut_number list w

share_number : (spare n : ℕ) (p : Priority) (i : ℕ) → Among (share_of spare n p i).number of_share
unfolding one_of
share_number spare n p i =
    number_chosen (λ (r : Shared). r.number) of_share (ltb i n) (record { number = 0; part = share spare n p i }) (record { number = 11; part = 0 }) refl refl

-- ---- the calls on settings and tree: by what these are

-- a printer
abbrev printed : Outcome Written (List ℕ) → ℕ
printed p = p.answer.number

to_number : (ns bytes o : List ℕ) → Among 8 ns → Among 0 ns → Among (print_to bytes o).answer.number ns
to_number ns bytes o p q =
    number_chosen printed ns (ltb (length o) (length bytes)) (no_print 8 o)
    (record { answer = record { number = 0; count = length bytes }; memory = bytes ++ drop (length bytes) o }) p q

module _ (bs ts : List ℕ) where
  collect_in : (l : List SizeRecord) (x : Input) → input_of bs ts ≡ x → Among (collect_of x l).answer.number of_sizes
  unfolding collect_of one_of
  collect_in l (refused k) e = input_among of_sizes refl refl refl refl refl bs ts k e
  collect_in l (given s t) e =
      number_chosen (λ (c : Outcome Collected (List SizeRecord)). c.answer.number) of_sizes (ltb (length l) (nodes t))
      (record { answer = no_collected 8; memory = l })
      (record { answer = record { number = 0; count = nodes t }; memory = records_of s t ++ drop (nodes t) l }) refl refl

  found_record : (x : Option Placed) → Among (record_found x).number of_record
  unfolding one_of
  found_record none = refl
  found_record (some f) = refl

  record_in : (n : ℕ) (x : Input) → input_of bs ts ≡ x → Among (leaf_record_of x n).number of_record
  unfolding leaf_record_of one_of
  record_in n (refused k) e = input_among of_record refl refl refl refl refl bs ts k e
  record_in n (given s t) e =
      number_chosen (λ (r : LeafRecord). r.number) of_record (too_large s t) (no_leaf_record 6) (record_found (leaf_numbered n (leaves s t))) refl
      (found_record (leaf_numbered n (leaves s t)))

  found_print : (s : Settings) (o : List ℕ) (x : Option Placed) → Among (print_found s o x).answer.number of_leaf
  unfolding one_of
  found_print s o none = refl
  found_print s o (some f) = to_number of_leaf (join_lines (block s (leaf_of f))) o refl refl

  leaf_in : (n : ℕ) (o : List ℕ) (x : Input) → input_of bs ts ≡ x → Among (leaf_print_of x n o).answer.number of_leaf
  unfolding leaf_print_of one_of
  leaf_in n o (refused k) e = input_among of_leaf refl refl refl refl refl bs ts k e
  leaf_in n o (given s t) e =
      number_chosen printed of_leaf (too_large s t) (no_print 6 o) (print_found s o (leaf_numbered n (leaves s t))) refl
      (found_print s o (leaf_numbered n (leaves s t)))

  sheet_in : (o : List ℕ) (x : Input) → input_of bs ts ≡ x → Among (sheet_of x o).answer.number of_sheet
  unfolding sheet_of one_of
  sheet_in o (refused k) e = input_among of_sheet refl refl refl refl refl bs ts k e
  sheet_in o (given s t) e = number_chosen printed of_sheet (too_large s t) (no_print 6 o) (print_to (sheet s t) o) refl
      (to_number of_sheet (sheet s t) o refl refl)

  -- ---- places

  module _ (ns : List ℕ) (z : Among 0 ns) (p : Among 12 ns) (q : Among 13 ns) (s : Settings) (t : Tree) where
    fault_among : (l k : ℕ) → Among (fault_of s t l k) ns
    unfolding fault_of
    fault_among l k =
        go (leb (H s t) l) (leb (W s t) k) (both (among s.margin.top (inside_h s t) l) (among s.margin.left (inside_w s t) k))
      where
        go : (a b c : Bool) → Among (pick a 12 (pick b 12 (pick c 0 13))) ns
        go true b c = p
        go false true c = p
        go false false true = z
        go false false false = q

    place_among : (l k : ℕ) → Among (leaf_place_in s t l k).number ns
    unfolding leaf_place_in
    place_among l k =
        number_chosen (λ (r : LeafPlace). r.number) ns (eqb (fault_of s t l k) 0) (leaf_place_found l k (owner_of (areas s t) l k))
        (no_leaf_place (fault_of s t l k))
        (owned (owner_of (areas s t) l k)) (fault_among l k)
      where
        owned : (x : Option Area) → Among (leaf_place_found l k x).number ns
        owned none = z
        owned (some a) = z

    first_among : (ps : List ℕ) → Among (first_fault s t ps) ns
    unfolding first_fault
    first_among [] = z
    first_among (x ∷ ps) =
        number_chosen (λ (n : ℕ). n) ns (eqb (leaf_place_in s t (line_of x) (column_of x)).number 0) (first_fault s t ps)
        (leaf_place_in s t (line_of x) (column_of x)).number (first_among ps) (place_among (line_of x) (column_of x))

  place_in : (l k : ℕ) (x : Input) → input_of bs ts ≡ x → Among (leaf_place_of x l k).number of_place
  unfolding leaf_place_of one_of
  place_in l k (refused n) e = input_among of_place refl refl refl refl refl bs ts n e
  place_in l k (given s t) e =
      number_chosen (λ (r : LeafPlace). r.number) of_place (too_large s t) (no_leaf_place 6) (leaf_place_in s t l k) refl
      (place_among of_place refl refl refl s t l k)

  finds_in_lem : (ps fs : List ℕ) (x : Input) → input_of bs ts ≡ x → Among (finds_of x ps fs).answer.number of_places
  unfolding finds_of one_of
  finds_in_lem ps fs (refused n) e = input_among of_places refl refl refl refl refl bs ts n e
  finds_in_lem ps fs (given s t) e =
      let g : Outcome FoundPlaces (List ℕ) → ℕ = λ r. r.answer.number in
      number_chosen g of_places (too_large s t) (no_finds 6 fs) (finds_in s t ps fs) refl
      (number_chosen g of_places (ltb 256 (length ps)) (no_finds 14 fs)
      (pick (eqb (first_fault s t ps) 0) (finds_to s t ps fs) (no_finds (first_fault s t ps) fs)) refl
      (number_chosen g of_places (eqb (first_fault s t ps) 0) (finds_to s t ps fs) (no_finds (first_fault s t ps) fs)
      (number_chosen g of_places (ltb (length fs) (length ps)) (no_finds 8 fs)
      (record { answer = record { number = 0; count = length ps; steps = (located s t).steps }; memory = map (word_of s t) ps ++ drop (length ps) fs }) refl
      refl)
      (first_among of_places refl refl refl s t ps)))

  -- ---- folds, plans, letters

  fold_in : (w budget : ℕ) (l : List ℕ) (x : Input) → input_of bs ts ≡ x → Among (fold_of x w budget l).answer.number of_fold
  unfolding fold_of fold_cells one_of
  fold_in w budget l (refused k) e = input_among of_fold refl refl refl refl refl bs ts k e
  fold_in w budget l (given s t) e =
      let g : Outcome Folded (List ℕ) → ℕ = λ r. r.answer.number in
      let zs = naturals s (listed_trees t) in
      let f = find s w zs budget in
      let cs = columns s f.best zs in
      number_chosen g of_fold (list? t) (fold_cells s w budget zs l) (no_folds 15 l)
      (number_chosen g of_fold (ltb w (greatest (map size_width zs))) (no_folds 16 l) (finds s zs l f) refl
      (number_chosen g of_fold (ltb (length l) (length cs)) (no_folds 8 l)
      (record {
        answer = record { number = 0; columns = length cs; height = f.best; tries = f.tries; miss = missed s zs f };
        memory = counts cs ++ drop (length cs) l;
      }) refl refl))
      refl

  nearest_in : (ns ls : List ℕ) (x : Input) → input_of bs ts ≡ x → Among (nearest_of x ns ls).answer.number of_sizes
  unfolding nearest_of one_of
  nearest_in ns ls (refused k) e = input_among of_sizes refl refl refl refl refl bs ts k e
  nearest_in ns ls (given s t) e =
      let g : Outcome Widened (List ℕ × List ℕ) → ℕ = λ r. r.answer.number in
      let l = nearest_list (tree_needs s t) in
      let all : Outcome Widened (List ℕ × List ℕ) =
      record {
        answer = record { number = 0; count = length l };
        memory = (nodes_of l ++ drop (length l) ns, letters_of l ++ drop (length l) ls);
      } in
      number_chosen g of_sizes (ltb (length ns) (length l)) (no_nearest 8 ns ls) (pick (ltb (length ls) (length l)) (no_nearest 8 ns ls) all) refl
      (number_chosen g of_sizes (ltb (length ls) (length l)) (no_nearest 8 ns ls) all refl refl)

  plan_in : (p : Parsed) (x : PlanOne) → read_plan ts ≡ x → Among (planned_of (plan_settings_input p x)).number of_plan
  unfolding one_of
  plan_in Parsed.refused x e = refl
  plan_in (Parsed.read s) (PlanOne.refused k) e = go (plan_refusal true ts k e)
    where
      go : PlanRefusal true k → Among k of_plan
      go (inl h) = four (λ m. Among m of_plan) refl refl refl refl k h.0 h.1
      go (inr h) = rw h.1 refl
  plan_in (Parsed.read s) (PlanOne.one q z n) e = refl

  plan_number : Among (planned_of (plan_input bs ts)).number of_plan
  unfolding plan_input
  plan_number = plan_in (read_settings bs) (read_plan ts) refl

-- ---- drafts

save_number : (o : List ℕ) (n : ℕ) (tree : List ℕ) → Among (save_of o n tree).answer of_save
unfolding save_of one_of
save_number o n tree = go (fields_of o)
  where
    read : (fs : List (List ℕ)) (y : ReadOne) → read_tree tree ≡ y → Among (save_tree o fs (tag_for n) tree y).answer of_save
    read fs (ReadOne.refused k) e = tree_among of_save refl refl refl refl tree k e
    read fs (ReadOne.one t z w) e =
        number_chosen (λ (r : Outcome ℕ (List ℕ)). r.answer) of_save (ltb (length o) (length (field_bytes (without_tag (tag_for n) fs)) + (3 + length tree)))
        (record
        { answer = 20; memory = o })
        (record { answer = 0; memory = store_of (length o) (without_tag (tag_for n) fs ++ (element (tag_for n) tree ∷ [])) }) refl refl

    go : (x : Option (List (List ℕ))) → Among (save_in o x n tree).answer of_save
    go none = refl
    go (some fs) = number_chosen (λ (r : Outcome ℕ (List ℕ)). r.answer) of_save (is_name n) (save_tree o fs (tag_for n) tree (read_tree tree)) (record
        { answer = 19; memory = o }) (read fs (read_tree tree) refl) refl

forget_number : (o : List ℕ) (n : ℕ) → Among (forget_of o n).answer of_forget
unfolding forget_of one_of
forget_number o n = go (fields_of o)
  where
    go : (x : Option (List (List ℕ))) → Among (forget_in o x n).answer of_forget
    go none = refl
    go (some fs) =
        let g : Outcome ℕ (List ℕ) → ℕ = λ r. r.answer in
        let gone : Outcome ℕ (List ℕ) = record { answer = 0; memory = store_of (length o) (without_tag (tag_for n) fs) } in
        number_chosen g of_forget (is_name n) (pick (has_tag (tag_for n) fs) gone (record { answer = 19; memory = o })) (record { answer = 19; memory = o })
        (number_chosen g of_forget (has_tag (tag_for n) fs) gone (record { answer = 19; memory = o }) refl refl) refl

return_number : (o : List ℕ) (n : ℕ) (out : List ℕ) → Among (return_of o n out).answer.number of_return
unfolding return_of one_of
return_number o n out = go (fields_of o)
  where
    found : (x : Option (List ℕ)) → Among (return_found x out).answer.number of_return
    found none = refl
    found (some tree) =
        number_chosen (λ (r : Outcome Returned (List ℕ)). r.answer.number) of_return (ltb (length out) (length tree)) (no_return 8 out) (record
        { answer = record { number = 0; count = length tree }; memory = tree ++ drop (length tree) out }) refl refl

    go : (x : Option (List (List ℕ))) → Among (return_in x n out).answer.number of_return
    go none = refl
    go (some fs) =
        number_chosen (λ (r : Outcome Returned (List ℕ)). r.answer.number) of_return (is_name n) (return_found (draft_of (tag_for n) fs) out) (no_return 19 out)
        (found (draft_of (tag_for n) fs)) refl

-- ---- question papers

blank_in_lem : (tree ns o : List ℕ) (x : ReadOne) → read_tree tree ≡ x → Among (blank_in x ns o).answer.number of_blank
unfolding one_of
blank_in_lem tree ns o (ReadOne.refused k) e = tree_among of_blank refl refl refl refl tree k e
blank_in_lem tree ns o (ReadOne.one t z n) e =
    let g : Outcome Blanked (List ℕ) → ℕ = λ r. r.answer.number in
    let bytes = bytes_of (blanked (dots_for ns) 0 t) in
    number_chosen g of_blank (all_cells (cell_flags t) ns) (blank_to bytes o) (no_blank 9 o)
    (number_chosen g of_blank (ltb (length o) (length bytes)) (no_blank 8 o)
    (record { answer = record { number = 0; count = length bytes }; memory = bytes ++ drop (length bytes) o }) refl refl) refl

blank_number : (tree ns o : List ℕ) → Among (blank_of tree ns o).answer.number of_blank
unfolding blank_of
blank_number tree ns o = blank_in_lem tree ns o (read_tree tree) refl

-- ---- typed lists

-- 31 to 39
nine : (k : ℕ) → 31 ≤ k → k ≤ 39 → Among k of_typed
unfolding one_of
nine k low high = rw e (go (k - 31) (omega arith))
  where
    e : k ≡ 31 + (k - 31)
    e = omega arith

    go : (i : ℕ) → i ≤ 8 → Among (31 + i) of_typed
    go zero h = refl
    go (suc zero) h = refl
    go (suc (suc zero)) h = refl
    go (suc (suc (suc zero))) h = refl
    go (suc (suc (suc (suc zero)))) h = refl
    go (suc (suc (suc (suc (suc zero))))) h = refl
    go (suc (suc (suc (suc (suc (suc zero)))))) h = refl
    go (suc (suc (suc (suc (suc (suc (suc zero))))))) h = refl
    go (suc (suc (suc (suc (suc (suc (suc (suc zero)))))))) h = refl
    go (suc (suc (suc (suc (suc (suc (suc (suc (suc i))))))))) h = absurd (omega arith)

typed_number : (text out : List ℕ) → Among (typed_of text out).answer.number of_typed
unfolding one_of
typed_number text out =
    typed_cases text out (λ x. Among x.answer.number of_typed) refl (λ k l c e. let f = fault_at text k l c e in nine k f.number_low f.number_high)
    refl (λ ns e. refl)

-- ---- all calls

pub call_numbers : CallNumbers
call_numbers = record {
  read_settings_lem = record { only = λ bs. settings_case (read_settings bs); met = settings_met };
  read_tree_lem = record { only = λ ts. tree_case ts (read_tree ts) refl; met = tree_met };
  short_splits3_lem = record { only = λ x. cut_number x.0 x.1; met = cut_met };
  short_splits3_in_place_lem = record { only = λ x. kept_number x.0 x.1; met = kept_met };
  short_splits_lem = record { only = λ x. short_number x.0 x.1; met = short_met };
  share = record { only = λ x. share_number x.0 x.1 x.2 x.3; met = share_met };
  collect_sizes_lem = record { only = λ x. collect_in x.settings x.tree x.rest (input_in x) refl; met = collect_met };
  leaf_record_lem = record { only = λ x. record_in x.settings x.tree x.rest (input_in x) refl; met = record_met };
  print_leaf = record { only = λ x. leaf_in x.settings x.tree x.rest.0 x.rest.1 (input_in x) refl; met = leaf_met };
  print_sheet = record { only = λ x. sheet_in x.settings x.tree x.rest (input_in x) refl; met = sheet_met };
  leaf_at = record { only = λ x. place_in x.settings x.tree x.rest.0 x.rest.1 (input_in x) refl; met = place_met };
  find_places = record { only = λ x. finds_in_lem x.settings x.tree x.rest.0 x.rest.1 (input_in x) refl; met = places_met };
  fold_list = record { only = λ x. fold_in x.settings x.tree x.rest.0 x.rest.1 x.rest.2 (input_in x) refl; met = fold_met };
  plan_sheet = record { only = λ x. plan_number x.0 x.1; met = plan_met };
  nearest_cells = record { only = λ x. nearest_in x.settings x.tree x.rest.0 x.rest.1 (input_in x) refl; met = nearest_met };
  save_draft = record { only = λ x. save_number x.0 x.1 x.2; met = save_met };
  forget_draft = record { only = λ x. forget_number x.0 x.1; met = forget_met };
  return_draft = record { only = λ x. return_number x.0 x.1 x.2; met = return_met };
  blank_texts = record { only = λ x. blank_number x.0 x.1 x.2; met = blank_met };
  read_typed = record { only = λ x. typed_number x.0 x.1; met = typed_met };
}

-- ---- 02, 8: "Refusal 7 never occurs": it is in none of the lists of the calls for which document 01 or 02 names it

not_seven : (n : ℕ) (ns : List ℕ) → one_of 7 ns ≡ false → Among n ns → n ≡ 7 → ⊥
not_seven n ns e h i =
    let y : one_of 7 ns ≡ true = rw i at h in
    let z : ◌≡◌ {A = ℕ} 0 1 = cc in
    omega arith

module _ (bs ts : List ℕ) where
  pub leaf_never_seven : (n : ℕ) (o : List ℕ) → (leaf_print_of (input_of bs ts) n o).answer.number ≡ 7 → ⊥
  unfolding one_of
  leaf_never_seven n o = not_seven _ of_leaf refl (leaf_in bs ts n o (input_of bs ts) refl)

  pub sheet_never_seven : (o : List ℕ) → (sheet_of (input_of bs ts) o).answer.number ≡ 7 → ⊥
  unfolding one_of
  sheet_never_seven o = not_seven _ of_sheet refl (sheet_in bs ts o (input_of bs ts) refl)

  pub place_never_seven : (l k : ℕ) → (leaf_place_of (input_of bs ts) l k).number ≡ 7 → ⊥
  unfolding one_of
  place_never_seven l k = not_seven _ of_place refl (place_in bs ts l k (input_of bs ts) refl)

  pub places_never_seven : (ps fs : List ℕ) → (finds_of (input_of bs ts) ps fs).answer.number ≡ 7 → ⊥
  unfolding one_of
  places_never_seven ps fs = not_seven _ of_places refl (finds_in_lem bs ts ps fs (input_of bs ts) refl)
