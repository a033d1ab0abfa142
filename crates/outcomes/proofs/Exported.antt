-- `export_numbers`: the number in the word of each C function is one of its list, and each of them occurs.
use mathlib.Core.Path.{◌≡◌, refl, sym, ap₂, ◌∙◌}
use Prim.Native.Nat.{ℕ, ◌<◌, min}
use native.Mathlib.Omega.{arith}
use mathlib.Core.Bool.{Bool, true, false}
use mathlib.Core.List.{List, [], ◌∷◌, map}
use lib.ListN.{length}
use lib.Dec.{ltb, eqb}
use borrow.Author.Tests.{eqb-true, ltb-true}
use Rattle.common.specs.Choice.{pick}
use Rattle.common.specs.Outcome.{Outcome}
use Rattle.settings.specs.declared.Settings.{Settings}
use Rattle.settings.specs.Reading.{Parsed, read_settings, priority_of}
use Rattle.tree.specs.Tree.{nodes}
use Rattle.tree.specs.Reading.{read_tree, tree_answer}
use Rattle.sizes.specs.Input.{Input, refused, given, input_of}
use Rattle.collector.specs.Records.{records_of}
use Rattle.leaf.specs.Answers.{leaf_record_of, leaf_print_of}
use Rattle.sheet.specs.Answers.{sheet_of}
use Rattle.places.specs.Places.{leaf_place_of}
use Rattle.places.specs.Together.{finds_of}
use Rattle.fold.specs.Answers.{fold_of}
use Rattle.plan.specs.declared.Planned.{Planned}
use Rattle.plan.specs.Answers.{plan_input, planned_of}
use Rattle.widen.specs.Answers.{nearest_of}
use Rattle.drafts.specs.Store.{return_of}
use Rattle.blank.specs.Blank.{one_of, blank_of}
use Rattle.typed.specs.Typed.{typed_of}
use Rattle.c_encoding.specs.Words.{packed, typed_word}
use Rattle.c_encoding.specs.Promises.{number_in}
use Rattle.c_encoding.proofs.TypedWord.{typed_word_lem}
use Rattle.c_encoding.specs.Numbers.{refusal, written, offered, settings_numbers, margin_numbers, read_given, size_numbers, sizes_given, record_numbers}
use Rattle.c_encoding.specs.Numbers.{record_given}
use Rattle.c_encoding.specs.Cuts.{refused_by, unless, written_two, kept_given, short_given, splits3_given, lent_given, splits_given}
use Rattle.c_encoding.specs.Places.{place_numbers, place_given}
use Rattle.c_encoding.specs.Plans.{ends_word}
use Rattle.outcomes.specs.Promises.{Among, Answers, input_in, of_share, of_sizes, of_record, of_leaf, of_place, of_leg_settings, of_leg_place, of_leg_cut}
use Rattle.outcomes.specs.Promises.{ExportNumbers}
use Rattle.outcomes.specs.Figures.{leg_settings_met, leg_margin_met, leg_sizes_met, leg_record_met, leg_place_met, leg_splits3_met, leg_lent_met}
use Rattle.outcomes.specs.Figures.{leg_splits_met, leg_share_met}
use Rattle.outcomes.proofs.Numbers.{call_numbers, number_chosen, input_among}

-- ---- a call's answer, packed

-- all are below 256, as LEG_NUMBER has 8 bits
small : List ℕ → Bool
small [] = true
small (n ∷ ns) = pick (ltb n 256) (small ns) false

number_back : (n count : ℕ) → n < 256 → number_in (packed n count) ≡ n
number_back n count h = omega arith

among_small : (n : ℕ) (ns : List ℕ) → small ns ≡ true → Among n ns → n < 256
unfolding small one_of
among_small n [] s h = let z : ◌≡◌ {A = ℕ} 0 1 = cc in absurd (omega arith)
among_small n (k ∷ ns) s h = go (ltb k 256) (eqb k n) refl refl s h (λ u v. among_small n ns u v)
  where
    go : (a b : Bool) → ltb k 256 ≡ a → eqb k n ≡ b → pick a (small ns) false ≡ true → pick b true (one_of n ns) ≡ true
        → (small ns ≡ true → Among n ns → n < 256) → n < 256
    go true true p q s h r = omega (arith, ltb-true k 256 p, eqb-true k n q)
    go true false p q s h r = r s h
    go false b p q s h r = let z : ◌≡◌ {A = ℕ} 0 1 = cc in absurd (omega arith)

same_map : {A : Type 0} (f g : A → ℕ) → ((x : A) → f x ≡ g x) → (xs : List A) → map f xs ≡ map g xs
same_map f g e [] = refl
same_map f g e (x ∷ xs) = ap₂ (λ (n : ℕ) (ns : List ℕ). n ∷ ns) (e x) (same_map f g e xs)

module _ {A : Type 0} {number : A → ℕ} {ns : List ℕ} (a : Answers number ns) (s : small ns ≡ true) where
  -- a word that has the call's number has the same list
  same_answers : (word : A → ℕ) → ((x : A) → number x < 256 → number_in (word x) ≡ number x) → Answers (λ x. number_in (word x)) ns
  same_answers word e =
      let is : (x : A) → number_in (word x) ≡ number x = λ x. e x (among_small (number x) ns s (a.only x)) in
      record {
        only = λ x. rw (is x) (a.only x);
        met = record { inputs = a.met.inputs; each = same_map (λ x. number_in (word x)) number is a.met.inputs ∙ a.met.each };
      }

  packed_answers : (count : A → ℕ) → Answers (λ x. number_in (packed (number x) (count x))) ns
  packed_answers count = same_answers (λ x. packed (number x) (count x)) (λ x h. number_back (number x) (count x) h)

-- each of the first list is in the second
within : List ℕ → List ℕ → Bool
unfolding one_of
within [] ks = true
within (n ∷ ns) ks = pick (one_of n ks) (within ns ks) false

wider : (n : ℕ) (ns ks : List ℕ) → within ns ks ≡ true → Among n ns → Among n ks
unfolding within one_of
wider n [] ks w h = let z : ◌≡◌ {A = ℕ} 0 1 = cc in absurd (omega arith)
wider n (m ∷ ns) ks w h = go (one_of m ks) (eqb m n) refl refl w h (λ u v. wider n ns ks u v)
  where
    go : (a b : Bool) → one_of m ks ≡ a → eqb m n ≡ b → pick a (within ns ks) false ≡ true → pick b true (one_of n ns) ≡ true
        → (within ns ks ≡ true → Among n ns → Among n ks) → Among n ks
    go true true p q w h r = let e : m ≡ n = eqb-true m n q in rw (← e) p
    go true false p q w h r = r w h
    go false b p q w h r = let z : ◌≡◌ {A = ℕ} 0 1 = cc in absurd (omega arith)

-- ---- C functions that write a call's answer to a list, or answer 8

-- a list that has 0 and 8
module _ (ns : List ℕ) (s : small ns ≡ true) where
  word_among : (n count : ℕ) → Among n ns → Among (number_in (packed n count)) ns
  word_among n count h = rw (number_back n count (among_small n ns s h)) h

  offered_among : (count : ℕ) (numbers o : List ℕ) → Among 0 ns → Among 8 ns → Among (number_in (offered count numbers o).answer) ns
  unfolding offered refusal written
  offered_among count numbers o z e =
      number_chosen (λ (g : Outcome ℕ (List ℕ)). number_in g.answer) ns (ltb (length o) (length numbers)) (refusal 8 o) (written count numbers o)
      (word_among 8 0 e)
      (word_among 0 count z)

  -- what is answered where the call's number is 0
  given_among : (n count : ℕ) (numbers o : List ℕ) → Among 0 ns → Among 8 ns → Among n ns
      → Among (number_in (pick (eqb n 0) (offered count numbers o) (refusal n o)).answer) ns
  unfolding refusal
  given_among n count numbers o z e h =
      number_chosen (λ (g : Outcome ℕ (List ℕ)). number_in g.answer) ns (eqb n 0) (offered count numbers o) (refusal n o) (offered_among count numbers o z e)
      (word_among n 0 h)

read_among : (count : ℕ) (numbers : Settings → List ℕ) (p : Parsed) (o : List ℕ) → Among (number_in (read_given count numbers p o).answer) of_leg_settings
unfolding read_given refusal small one_of
read_among count numbers Parsed.refused o = refl
read_among count numbers (Parsed.read s) o = offered_among of_leg_settings refl count (numbers s) o refl refl

sizes_among : (bs ts o : List ℕ) (x : Input) → input_of bs ts ≡ x → Among (number_in (sizes_given x o).answer) of_sizes
unfolding sizes_given refusal small one_of
sizes_among bs ts o (refused k) e = word_among of_sizes refl k 0 (input_among of_sizes refl refl refl refl refl bs ts k e)
sizes_among bs ts o (given s t) e = offered_among of_sizes refl (nodes t) (size_numbers (records_of s t)) o refl refl

record_among : (bs ts : List ℕ) (n : ℕ) (o : List ℕ) → Among (number_in (record_given (leaf_record_of (input_of bs ts) n) o).answer) of_leaf
unfolding record_given small one_of within
record_among bs ts n o =
    let r = leaf_record_of (input_of bs ts) n in
    given_among of_leaf refl r.number 1039 (record_numbers r) o refl refl (wider r.number of_record of_leaf refl
    (call_numbers.leaf_record_lem.only (record { settings = bs; tree = ts; rest = n })))

place_among : (bs ts : List ℕ) (l k : ℕ) (o : List ℕ) → Among (number_in (place_given (leaf_place_of (input_of bs ts) l k) o).answer) of_leg_place
unfolding place_given small one_of within
place_among bs ts l k o =
    let r = leaf_place_of (input_of bs ts) l k in
    given_among of_leg_place refl r.number 3 (place_numbers r) o refl refl (wider r.number of_place of_leg_place refl
    (call_numbers.leaf_at.only (record { settings = bs; tree = ts; rest = (l, k) })))

-- ---- cuts

-- whatever the order of the three tests
refused_among : (held n room needed : ℕ) → Among (refused_by held n room needed) of_leg_cut
unfolding refused_by one_of
refused_among held n room needed = go (ltb 512 n) (ltb held n) (ltb room needed) refl refl refl
  where
    go : (a b c : Bool) → ltb 512 n ≡ a → ltb held n ≡ b → ltb room needed ≡ c → Among (refused_by held n room needed) of_leg_cut
    go true true true p q r = simp (p, q, r)
    go true true false p q r = simp (p, q, r)
    go true false true p q r = simp (p, q, r)
    go true false false p q r = simp (p, q, r)
    go false true true p q r = simp (p, q, r)
    go false true false p q r = simp (p, q, r)
    go false false true p q r = simp (p, q, r)
    go false false false p q r = simp (p, q, r)

-- the number k of a refusal, or the word of 0
unless_among : {T : Type 0} (word : T → ℕ) (k : ℕ) (refuse : ℕ → T) (x : T) → Among k of_leg_cut → ((j : ℕ) → word (refuse j) ≡ packed j 0)
    → Among (number_in (word x)) of_leg_cut → Among (number_in (word (unless k refuse x))) of_leg_cut
unfolding small one_of
unless_among word k refuse x h e g = number_chosen (λ y. number_in (word y)) of_leg_cut (eqb k 0) x (refuse k) g (rw (e k) (word_among of_leg_cut refl k 0 h))

splits3_among : (s : List ℕ) (n w : ℕ) (o : List ℕ) → Among (number_in (splits3_given s n w o).answer) of_leg_cut
unfolding splits3_given refusal written one_of
splits3_among s n w o =
    unless_among (λ (g : Outcome ℕ (List ℕ)). g.answer) (refused_by (length s) n (length o) 1029) (λ k. refusal k o) _
    (refused_among (length s) n (length o) 1029)
    (λ j. refl) refl

lent_among : (s : List ℕ) (n w : ℕ) (o : List ℕ) → Among (number_in (lent_given s n w o).answer) of_leg_cut
unfolding lent_given kept_given refusal written_two one_of
lent_among s n w o =
    unless_among (λ (g : Outcome ℕ (List ℕ × List ℕ)). g.answer) (refused_by (length s) n (length o) 517) (λ k. refusal k (s, o)) _
    (refused_among (length s) n (length o) 517)
    (λ j. refl) refl

splits_among : (s : List ℕ) (n w : ℕ) (o p : List ℕ) → Among (number_in (splits_given s n w o p).answer) of_leg_cut
unfolding splits_given short_given refusal written_two one_of
splits_among s n w o p =
    unless_among (λ (g : Outcome ℕ (List ℕ × List ℕ)). g.answer) (refused_by (length s) n (min (length o) (length p)) 513) (λ k. refusal k (o, p)) _
    (refused_among (length s) n (min (length o) (length p)) 513) (λ j. refl) refl

-- ---- the planning word

ends_number : (r : Planned) → r.number < 256 → number_in (ends_word r) ≡ r.number
ends_number r h = go (eqb r.number 0) refl
  where
    go : (b : Bool) → eqb r.number 0 ≡ b → number_in (pick b (packed 0 4) (packed r.number 0)) ≡ r.number
    go true e = sym (eqb-true r.number 0 e)
    go false e = number_back r.number 0 h

-- ---- all C functions

pub export_numbers : ExportNumbers
unfolding small
export_numbers = record {
  leg_read_settings = record { only = λ x. read_among 28 settings_numbers (read_settings x.0) x.1; met = leg_settings_met };
  leg_read_margin = record { only = λ x. read_among 8 margin_numbers (read_settings x.0) x.1; met = leg_margin_met };
  leg_read_tree = packed_answers call_numbers.read_tree_lem refl (λ ts. (tree_answer (read_tree ts)).nodes);
  leg_sizes_lem = record { only = λ x. sizes_among x.settings x.tree x.rest (input_in x) refl; met = leg_sizes_met };
  leg_leaf_record = record { only = λ x. record_among x.settings x.tree x.rest.0 x.rest.1; met = leg_record_met };
  leg_print_leaf = packed_answers call_numbers.print_leaf refl (λ x. (leaf_print_of (input_in x) x.rest.0 x.rest.1).answer.count);
  leg_print_sheet = packed_answers call_numbers.print_sheet refl (λ x. (sheet_of (input_in x) x.rest).answer.count);
  leg_place_lem = record { only = λ x. place_among x.settings x.tree x.rest.0 x.rest.1 x.rest.2; met = leg_place_met };
  leg_places_lem = packed_answers call_numbers.find_places refl (λ x. (finds_of (input_in x) x.rest.0 x.rest.1).answer.count);
  leg_fold_lem = packed_answers call_numbers.fold_list refl (λ x. (fold_of (input_in x) x.rest.0 x.rest.1 x.rest.2).answer.columns);
  leg_plan_lem = same_answers call_numbers.plan_sheet refl (λ x. ends_word (planned_of (plan_input x.0 x.1)))
      (λ x. ends_number (planned_of (plan_input x.0 x.1)));
  leg_widen_lem = packed_answers call_numbers.nearest_cells refl (λ x. (nearest_of (input_in x) x.rest.0 x.rest.1).answer.count);
  leg_save_draft = packed_answers call_numbers.save_draft refl (λ x. 0);
  leg_forget_draft = packed_answers call_numbers.forget_draft refl (λ x. 0);
  leg_return_draft = packed_answers call_numbers.return_draft refl (λ x. (return_of x.0 x.1 x.2).answer.count);
  leg_blank_lem = packed_answers call_numbers.blank_texts refl (λ x. (blank_of x.0 x.1 x.2).answer.count);
  leg_short_splits3 = record { only = λ x. splits3_among x.0 x.1 x.2 x.3; met = leg_splits3_met };
  leg_short_splits3_lent = record { only = λ x. lent_among x.0 x.1 x.2 x.3; met = leg_lent_met };
  leg_short_splits = record { only = λ x. splits_among x.0 x.1 x.2 x.3 x.4; met = leg_splits_met };
  leg_share_lem = record { only = λ x. word_among of_share refl _ 0 (call_numbers.share.only (x.0, x.1, priority_of x.2, x.3)); met = leg_share_met };
  leg_read_typed = same_answers call_numbers.read_typed refl (λ x. typed_word (typed_of x.0 x.1).answer) (λ x h. (typed_word_lem x.0 x.1).number_is);
}
