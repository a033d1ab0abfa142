-- Of lent memory each call uses the length alone: with as much lent it answers the same and writes the same, and what is past that stays.
use mathlib.Core.Path.{◌≡◌, refl, sym, ap, subst, ◌∙◌}
use Prim.Native.Nat.{ℕ}
use mathlib.Core.Bool.{Bool, true, false}
use mathlib.Core.List.{List, [], ◌++◌, map}
use mathlib.Core.Option.{Option, some, none}
use lib.ListN.{length, take, drop, length-map}
use lib.Seq.{take_at, drop_at}
use lib.Dec.{eqb, ltb}
use Rattle.common.specs.Choice.{pick}
use Rattle.common.specs.Sums.{greatest}
use Rattle.common.specs.Outcome.{Outcome}
use Rattle.settings.specs.declared.Settings.{Settings}
use Rattle.tree.specs.Tree.{nodes}
use Rattle.text.specs.Text.{join_lines}
use Rattle.sizes.specs.declared.Size.{Size}
use Rattle.sizes.specs.Collecting.{size_width}
use Rattle.sizes.specs.Sizes.{naturals}
use Rattle.sizes.specs.Input.{Input, refused, given}
use Rattle.block.specs.Block.{block}
use Rattle.fold.specs.declared.Tried.{Tried}
use Rattle.fold.specs.Fold.{columns, find}
use Rattle.fold.specs.Answers.{listed_trees, list?, counts, writes, fold_cells, fold_of}
use Rattle.collector.specs.declared.SizeRecord.{SizeRecord}
use Rattle.collector.specs.Records.{records_of, collect_of}
use Rattle.collector.proofs.Zipped.{records_length}
use Rattle.layout.specs.Walk.{Placed, leaf_of, leaves}
use Rattle.frame.specs.Frame.{too_large}
use Rattle.frame.specs.Printer.{print_to}
use Rattle.widen.specs.Widening.{Need, nearest_list, tree_needs}
use Rattle.widen.specs.Listing.{nodes_of, letters_of}
use Rattle.widen.specs.Answers.{no_nearest, nearest_to, nearest_of}
use Rattle.leaf.specs.declared.LeafRecord.{LeafRecord}
use Rattle.leaf.specs.Answers.{leaf_numbered, print_found, leaf_print_of}
use Rattle.sheet.specs.Sheet.{sheet}
use Rattle.sheet.specs.Answers.{sheet_of}
use Rattle.places.specs.declared.LeafPlace.{LeafPlace}
use Rattle.places.specs.Together.{word_of, first_fault, finds_of}
use Rattle.c_encoding.specs.Numbers.{refusal, written, offered, size_numbers, sizes_given, record_numbers, record_given}
use Rattle.c_encoding.specs.Places.{place_numbers, place_given}
use Rattle.alike.specs.Lent.{Lent, BothAnswer, Equal, BothCollect, BothPrint, BothFind, BothFold, BothNearest, BothGive}

-- ---- one law for all

module _ {A : Type 0} (Same : List A → List A → Type 0) (o r : List A) where
  -- a refusal writes nothing
  pub lent_none : Same [] [] → Lent Same 0 o r o r
  lent_none k = record { front = k; rest = refl; other_rest = refl }

  -- n entries at the front
  pub lent_front : (n : ℕ) (x y : List A) → length x ≡ n → length y ≡ n → Same x y → Lent Same n o r (x ++ drop n o) (y ++ drop n r)
  lent_front n x y e d k = record {
    front = rw (take_at x (drop n o) n e, take_at y (drop n r) n d) k;
    rest = drop_at x (drop n o) n e;
    other_rest = drop_at y (drop n r) n d;
  }

  pub both_pick : {R : Type 0} {n : R → ℕ} (c : Bool) {x y u v : Outcome R (List A)}
      → BothAnswer n Same o r x y → BothAnswer n Same o r u v → BothAnswer n Same o r (pick c x u) (pick c y v)
  both_pick true p q = p
  both_pick false p q = q

  -- x before r, y with the same answer, z as y but for what was lent
  pub both_through : {R : Type 0} {n : R → ℕ} {x y z : Outcome R (List A)} → x.answer ≡ y.answer
      → Same (take (n x.answer) x.memory) (take (n x.answer) y.memory)
      → BothAnswer n Equal o o x x → BothAnswer n Equal o r y z → BothAnswer n Same o r x z
  both_through {n = n} {x = x} {y = y} {z = z} e f p q =
      let m : n y.answer ≡ n x.answer = ap n (sym e) in
      let g : take (n x.answer) y.memory ≡ take (n x.answer) z.memory = rw m at q.lent.front in
      record {
        answer = e ∙ q.answer;
        lent = record {
          front = subst (λ (w : List A). Same (take (n x.answer) x.memory) w) g f;
          rest = p.lent.rest;
          other_rest = rw m at q.lent.other_rest;
        };
      }

-- the same entries
pub lent_same : {A : Type 0} (o r : List A) (n : ℕ) (x : List A) → length x ≡ n → Lent Equal n o r (x ++ drop n o) (x ++ drop n r)
lent_same o r n x e = lent_front Equal o r n x x e e refl

-- ---- the size collector

pub collect_lent : (x : Input) (o r : List SizeRecord) → length o ≡ length r → BothCollect o r (collect_of x o) (collect_of x r)
unfolding collect_of
collect_lent (refused k) o r e = record { answer = refl; lent = lent_none Equal o r refl }
collect_lent (given s t) o r e =
    rw e
    (both_pick Equal o r (ltb (length r) (nodes t)) (record { answer = refl; lent = lent_none Equal o r refl })
    (record { answer = refl; lent = lent_same o r (nodes t) (records_of s t) (records_length s t) }))

-- ---- the printers

module _ (o r : List ℕ) (e : length o ≡ length r) where
  print_lent : (bytes : List ℕ) → BothPrint Equal o r (print_to bytes o) (print_to bytes r)
  print_lent bytes =
      rw e
      (both_pick Equal o r (ltb (length r) (length bytes)) (record { answer = refl; lent = lent_none Equal o r refl })
      (record { answer = refl; lent = lent_same o r (length bytes) bytes refl }))

  pub sheet_lent : (x : Input) → BothPrint Equal o r (sheet_of x o) (sheet_of x r)
  unfolding sheet_of
  sheet_lent (refused k) = record { answer = refl; lent = lent_none Equal o r refl }
  sheet_lent (given s t) = both_pick Equal o r (too_large s t) (record { answer = refl; lent = lent_none Equal o r refl }) (print_lent (sheet s t))

  found_lent : (s : Settings) (x : Option Placed) → BothPrint Equal o r (print_found s o x) (print_found s r x)
  found_lent s none = record { answer = refl; lent = lent_none Equal o r refl }
  found_lent s (some l) = print_lent (join_lines (block s (leaf_of l)))

  pub leaf_lent : (x : Input) (n : ℕ) → BothPrint Equal o r (leaf_print_of x n o) (leaf_print_of x n r)
  unfolding leaf_print_of
  leaf_lent (refused k) n = record { answer = refl; lent = lent_none Equal o r refl }
  leaf_lent (given s t) n =
      both_pick Equal o r (too_large s t) (record { answer = refl; lent = lent_none Equal o r refl }) (found_lent s (leaf_numbered n (leaves s t)))

  -- ---- places, folds, letters

  pub finds_lent : (x : Input) (ps : List ℕ) → BothFind o r (finds_of x ps o) (finds_of x ps r)
  unfolding finds_of
  finds_lent (refused k) ps = record { answer = refl; lent = lent_none Equal o r refl }
  finds_lent (given s t) ps =
      both_pick Equal o r (too_large s t) (record { answer = refl; lent = lent_none Equal o r refl })
      (both_pick Equal o r (ltb 256 (length ps)) (record { answer = refl; lent = lent_none Equal o r refl })
      (both_pick Equal o r (eqb (first_fault s t ps) 0)
      (rw e
      (both_pick Equal o r (ltb (length r) (length ps)) (record { answer = refl; lent = lent_none Equal o r refl })
      (record { answer = refl; lent = lent_same o r (length ps) (map (word_of s t) ps) (length-map ps (word_of s t)) })))
      (record { answer = refl; lent = lent_none Equal o r refl })))

  writes_lent : (s : Settings) (zs : List Size) (f : Tried) (cs : List (List Size)) → BothFold o r (writes s zs f o cs) (writes s zs f r cs)
  writes_lent s zs f cs =
      rw e
      (both_pick Equal o r (ltb (length r) (length cs)) (record { answer = refl; lent = lent_none Equal o r refl })
      (record { answer = refl; lent = lent_same o r (length cs) (counts cs) (length-map cs length) }))

  cells_lent : (s : Settings) (w budget : ℕ) (zs : List Size) → BothFold o r (fold_cells s w budget zs o) (fold_cells s w budget zs r)
  unfolding fold_cells
  cells_lent s w budget zs =
      both_pick Equal o r (ltb w (greatest (map size_width zs))) (record { answer = refl; lent = lent_none Equal o r refl })
      (writes_lent s zs (find s w zs budget) (columns s (find s w zs budget).best zs))

  pub fold_lent : (x : Input) (w budget : ℕ) → BothFold o r (fold_of x w budget o) (fold_of x w budget r)
  unfolding fold_of
  fold_lent (refused k) w budget = record { answer = refl; lent = lent_none Equal o r refl }
  fold_lent (given s t) w budget =
      both_pick Equal o r (list? t) (cells_lent s w budget (naturals s (listed_trees t))) (record { answer = refl; lent = lent_none Equal o r refl })

  -- ---- the C functions that write numbers

  none_given : (k : ℕ) → BothGive o r (refusal k o) (refusal k r)
  unfolding refusal
  none_given k = record { answer = refl; many = 0; lent = lent_none Equal o r refl }

  offer_lent : (count : ℕ) (numbers : List ℕ) → BothGive o r (offered count numbers o) (offered count numbers r)
  unfolding offered written
  offer_lent count numbers = rw e (go (ltb (length r) (length numbers)))
    where
      go : (c : Bool) → BothGive o r (pick c (refusal 8 o) (written count numbers o)) (pick c (refusal 8 r) (written count numbers r))
      go true = none_given 8
      go false = record { answer = refl; many = length numbers; lent = lent_same o r (length numbers) numbers refl }

  given_pick : (c : Bool) (count k : ℕ) (numbers : List ℕ)
      → BothGive o r (pick c (offered count numbers o) (refusal k o)) (pick c (offered count numbers r) (refusal k r))
  given_pick true count k numbers = offer_lent count numbers
  given_pick false count k numbers = none_given k

  pub sizes_lent : (x : Input) → BothGive o r (sizes_given x o) (sizes_given x r)
  unfolding sizes_given
  sizes_lent (refused k) = none_given k
  sizes_lent (given s t) = offer_lent (nodes t) (size_numbers (records_of s t))

  pub record_lent : (x : LeafRecord) → BothGive o r (record_given x o) (record_given x r)
  unfolding record_given
  record_lent x = given_pick (eqb x.number 0) 1039 x.number (record_numbers x)

  pub place_lent : (x : LeafPlace) → BothGive o r (place_given x o) (place_given x r)
  unfolding place_given
  place_lent x = given_pick (eqb x.number 0) 3 x.number (place_numbers x)

-- ---- two lists

module _ (ns ms ls ks : List ℕ) (e : length ns ≡ length ms) (d : length ls ≡ length ks) where
  nearest_to_lem : (l : List Need) → BothNearest ns ms ls ks (nearest_to l ns ls) (nearest_to l ms ks)
  nearest_to_lem l = rw (e, d) (go (ltb (length ms) (length l)) (ltb (length ks) (length l)))
    where
      none_near : (k : ℕ) → BothNearest ns ms ls ks (no_nearest k ns ls) (no_nearest k ms ks)
      none_near k = record { answer = refl; nodes = lent_none Equal ns ms refl; letters = lent_none Equal ls ks refl }

      go : (b c : Bool) → BothNearest ns ms ls ks
          (pick b (no_nearest 8 ns ls)
          (pick c (no_nearest 8 ns ls)
          (record {
            answer = record { number = 0; count = length l };
            memory = (nodes_of l ++ drop (length l) ns, letters_of l ++ drop (length l) ls);
          })))
          (pick b (no_nearest 8 ms ks)
          (pick c (no_nearest 8 ms ks)
          (record {
            answer = record { number = 0; count = length l };
            memory = (nodes_of l ++ drop (length l) ms, letters_of l ++ drop (length l) ks);
          })))
      go true c = none_near 8
      go false true = none_near 8
      go false false = record {
        answer = refl;
        nodes = lent_same ns ms (length l) (nodes_of l) (length-map l (λ (z : Need). z.node));
        letters = lent_same ls ks (length l) (letters_of l) (length-map l (λ (z : Need). z.letters));
      }

  pub nearest_lent : (x : Input) → BothNearest ns ms ls ks (nearest_of x ns ls) (nearest_of x ms ks)
  unfolding nearest_of
  nearest_lent (refused k) = record { answer = refl; nodes = lent_none Equal ns ms refl; letters = lent_none Equal ls ks refl }
  nearest_lent (given s t) = nearest_to_lem (nearest_list (tree_needs s t))
