-- The calls whose answers have no byte of a text: for bytes that are alike, with all other inputs equal and as much memory lent, the answers and all that is
-- written are equal, and what is past that stays.
use mathlib.Core.Path.{◌≡◌, refl, ap}
use Prim.Native.Nat.{ℕ}
use mathlib.Core.Bool.{Bool, true, false}
use mathlib.Core.List.{List, [], ◌∷◌, map}
use mathlib.Core.Option.{Option, some}
use lib.ListN.{length}
use lib.Dec.{eqb}
use Rattle.common.specs.Choice.{pick}
use Rattle.settings.specs.declared.Settings.{Settings}
use Rattle.tree.specs.Tree.{Tree, nodes}
use Rattle.tree.specs.Reading.{ReadOne, read_tree, tree_answer}
use Rattle.tree.specs.Planning.{Plan}
use Rattle.sizes.specs.Input.{Input, given, input_of}
use Rattle.collector.specs.declared.SizeRecord.{SizeRecord}
use Rattle.collector.specs.Records.{records_of, collect_of}
use Rattle.layout.specs.Walk.{Placed, leaves}
use Rattle.leaf.specs.Answers.{leaf_numbered, record_found, leaf_record_of}
use Rattle.places.specs.declared.area.Area.{Area}
use Rattle.places.specs.Places.{area_of, areas, fault_of, leaf_place_in, leaf_place_of}
use Rattle.places.specs.Together.{located, word_of, first_fault, finds_of}
use Rattle.places.specs.Words.{line_of, column_of}
use Rattle.fold.specs.Answers.{listed_trees, fold_of}
use Rattle.plan.specs.Answers.{PlanInput, plan_input, planned_of}
use Rattle.widen.specs.Widening.{tree_needs}
use Rattle.widen.specs.Answers.{nearest_of}
use Rattle.blank.specs.Alike.{covered, masked}
use Rattle.alike.specs.Pairs as pairs
use Rattle.alike.specs.Pairs.{AlikeBytes, plan_masked, SameRead, SameInput, SamePlanInput}
use Rattle.alike.specs.Lent.{BothCollect, BothFind, BothFold, BothNearest}
use Rattle.alike.proofs.ReplacedBytes.{nodes_recast, naturals_recast, tree_sizes_recast}
use Rattle.alike.proofs.Walks.{placed}
use Rattle.alike.proofs.Masks.{mask_keeps, alike_by}
use Rattle.alike.proofs.Sheets.{masked_leaves, masked_wide, masked_tall, masked_W, masked_H, masked_large}
use Rattle.alike.proofs.Shapes.{belows_recast, locate_recast, listed_recast, list_recast, needs_recast, end_recast}
use Rattle.alike.proofs.Pairs.{plan_alike_by, reads_alike, inputs_alike, plan_inputs_alike}
use Rattle.alike.proofs.Lent.{collect_lent, finds_lent, fold_lent, nearest_lent}

-- what depends on the input through the tree's mask alone
pub same_by : {A : Type 0} (g : Input → A) → ((s : Settings) (t : Tree) → g (given s (masked t)) ≡ g (given s t)) → {x y : Input} → SameInput x y → g x ≡ g y
same_by g e (pairs.both_refused k) = refl
same_by g e (pairs.both_given s t u h) = alike_by (λ (v : Tree). g (given s v)) (e s) t u h

-- ---- what is read, measured and placed

module _ (s : Settings) (t : Tree) where
  masked_nodes : nodes (masked t) ≡ nodes t
  unfolding masked
  masked_nodes = nodes_recast (covered 1) mask_keeps t

  pub masked_records : records_of s (masked t) ≡ records_of s t
  unfolding masked
  masked_records = rw (tree_sizes_recast (covered 1) mask_keeps s t, belows_recast (covered 1) mask_keeps t)

  masked_collected : (l : List SizeRecord) → collect_of (given s (masked t)) l ≡ collect_of (given s t) l
  unfolding collect_of
  masked_collected l = rw (masked_nodes, masked_records)

  record_placed : (n : ℕ) (ls : List Placed) → record_found (leaf_numbered n (map (placed (covered 1)) ls)) ≡ record_found (leaf_numbered n ls)
  unfolding leaf_numbered
  record_placed n [] = refl
  record_placed n (l ∷ ls) = go (eqb l.at.node n) (leaf_numbered n (map (placed (covered 1)) ls)) (leaf_numbered n ls) (record_placed n ls)
    where
      go : (c : Bool) (x y : Option Placed) → record_found x ≡ record_found y
          → record_found (pick c (some (placed (covered 1) l)) x) ≡ record_found (pick c (some l) y)
      go true x y e = refl
      go false x y e = e

  masked_record : (n : ℕ) → leaf_record_of (given s (masked t)) n ≡ leaf_record_of (given s t) n
  unfolding leaf_record_of
  masked_record n = rw (masked_large s t, masked_leaves s t, record_placed n (leaves s t))

  areas_placed : (ls : List Placed) → map (area_of s) (map (placed (covered 1)) ls) ≡ map (area_of s) ls
  unfolding area_of
  areas_placed [] = refl
  areas_placed (l ∷ ls) = ap (λ (x : List Area). area_of s l ∷ x) (areas_placed ls)

  masked_areas : areas s (masked t) ≡ areas s t
  unfolding areas
  masked_areas = rw (masked_leaves s t) (areas_placed (leaves s t))

  masked_fault : (l k : ℕ) → fault_of s (masked t) l k ≡ fault_of s t l k
  unfolding fault_of
  masked_fault l k = rw (masked_W s t, masked_H s t, masked_wide s t, masked_tall s t)

  masked_place : (l k : ℕ) → leaf_place_in s (masked t) l k ≡ leaf_place_in s t l k
  unfolding leaf_place_in
  masked_place l k = rw (masked_fault l k, masked_areas)

  masked_leaf_place : (l k : ℕ) → leaf_place_of (given s (masked t)) l k ≡ leaf_place_of (given s t) l k
  unfolding leaf_place_of
  masked_leaf_place l k = rw (masked_large s t, masked_place l k)

  masked_located : located s (masked t) ≡ located s t
  unfolding located masked
  masked_located = rw (tree_sizes_recast (covered 1) mask_keeps s t) (locate_recast (covered 1) mask_keeps _ _ t _ _)

  masked_words : (ps : List ℕ) → map (word_of s (masked t)) ps ≡ map (word_of s t) ps
  unfolding word_of
  masked_words [] = refl
  masked_words (p ∷ ps) = rw (masked_place (line_of p) (column_of p), masked_words ps)

  masked_first : (ps : List ℕ) → first_fault s (masked t) ps ≡ first_fault s t ps
  unfolding first_fault
  masked_first [] = refl
  masked_first (p ∷ ps) = rw (masked_place (line_of p) (column_of p), masked_first ps)

  masked_finds : (ps fs : List ℕ) → finds_of (given s (masked t)) ps fs ≡ finds_of (given s t) ps fs
  unfolding finds_of
  masked_finds ps fs = rw (masked_large s t, masked_first ps, masked_words ps, masked_located)

  masked_fold : (w budget : ℕ) (l : List ℕ) → fold_of (given s (masked t)) w budget l ≡ fold_of (given s t) w budget l
  unfolding fold_of masked
  masked_fold w budget l =
      rw (list_recast (covered 1) mask_keeps t, listed_recast (covered 1) mask_keeps t, naturals_recast (covered 1) mask_keeps s (listed_trees t))

  masked_nearest : (ns ls : List ℕ) → nearest_of (given s (masked t)) ns ls ≡ nearest_of (given s t) ns ls
  unfolding nearest_of tree_needs masked
  masked_nearest ns ls = rw (needs_recast (covered 1) mask_keeps s t 0)

masked_plan : (s : Settings) (p : Plan) → planned_of (PlanInput.given s (plan_masked p)) ≡ planned_of (PlanInput.given s p)
unfolding plan_masked
masked_plan s p = rw (end_recast (covered 1) mask_keeps s false p, end_recast (covered 1) mask_keeps s true p)

-- ---- the calls

module _ {p q : List ℕ} (b : AlikeBytes p q) where
  pub read_tree_alike : tree_answer (read_tree p) ≡ tree_answer (read_tree q)
  read_tree_alike = go (reads_alike b)
    where
      go : {x y : ReadOne} → SameRead x y → tree_answer x ≡ tree_answer y
      go (pairs.both_refused k) = refl
      go (pairs.both_read t u z n e) = refl

  module _ (settings : List ℕ) where
    abbrev x : Input
    x = input_of settings p

    abbrev y : Input
    y = input_of settings q

    pub leaf_record_alike : (n : ℕ) → leaf_record_of x n ≡ leaf_record_of y n
    leaf_record_alike n = same_by (λ (i : Input). leaf_record_of i n) (λ s t. masked_record s t n) (inputs_alike b settings)

    pub leaf_at_alike : (line column : ℕ) → leaf_place_of x line column ≡ leaf_place_of y line column
    leaf_at_alike line column = same_by (λ (i : Input). leaf_place_of i line column) (λ s t. masked_leaf_place s t line column) (inputs_alike b settings)

    -- with as much memory lent

    pub collect_sizes_alike : (o r : List SizeRecord) → length o ≡ length r → BothCollect o r (collect_of x o) (collect_of y r)
    collect_sizes_alike o r e =
        let k : collect_of x r ≡ collect_of y r = same_by (λ (i : Input). collect_of i r) (λ s t. masked_collected s t r) (inputs_alike b settings) in
        rw (← k) (collect_lent x o r e)

    pub find_places_alike : (places o r : List ℕ) → length o ≡ length r → BothFind o r (finds_of x places o) (finds_of y places r)
    find_places_alike places o r e =
        let k : finds_of x places r ≡ finds_of y places r =
        same_by (λ (i : Input). finds_of i places r) (λ s t. masked_finds s t places r) (inputs_alike b settings) in
        rw (← k) (finds_lent o r e x places)

    pub fold_list_alike : (width budget : ℕ) (o r : List ℕ) → length o ≡ length r → BothFold o r (fold_of x width budget o) (fold_of y width budget r)
    fold_list_alike width budget o r e =
        let k : fold_of x width budget r ≡ fold_of y width budget r =
        same_by (λ (i : Input). fold_of i width budget r) (λ s t. masked_fold s t width budget r) (inputs_alike b settings) in
        rw (← k) (fold_lent o r e x width budget)

    pub nearest_cells_alike : (ns ms ls ks : List ℕ) → length ns ≡ length ms → length ls ≡ length ks
        → BothNearest ns ms ls ks (nearest_of x ns ls) (nearest_of y ms ks)
    nearest_cells_alike ns ms ls ks e d =
        let k : nearest_of x ms ks ≡ nearest_of y ms ks =
        same_by (λ (i : Input). nearest_of i ms ks) (λ s t. masked_nearest s t ms ks) (inputs_alike b settings) in
        rw (← k) (nearest_lent ns ms ls ks e d x)

planned_same : {x y : PlanInput} → SamePlanInput x y → planned_of x ≡ planned_of y
planned_same (pairs.both_refused k) = refl
planned_same (pairs.both_given s p q h) = plan_alike_by (λ (r : Plan). planned_of (PlanInput.given s r)) (masked_plan s) p q h

pub plan_sheet_alike : {p q : List ℕ} → AlikeBytes p q → (settings : List ℕ) → planned_of (plan_input settings p) ≡ planned_of (plan_input settings q)
plan_sheet_alike b settings = planned_same (plan_inputs_alike b settings)
