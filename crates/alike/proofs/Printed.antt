-- The printers and the program for alike trees: equal answers, and outputs that agree at every byte outside the texts' own.
use mathlib.Core.Path.{◌≡◌, refl, sym, ap, ◌∙◌}
use Prim.Native.Nat.{ℕ, zero, suc, ◌≤◌, ◌<◌}
use native.Mathlib.Omega.{arith}
use mathlib.Core.Bool.{Bool, true, false}
use mathlib.Core.List.{List, [], ◌∷◌, ◌++◌, map}
use mathlib.Core.Option.{Option, some, none}
use lib.ListN.{length, get_or, take, drop, length-append, length-take, get_or-eq_default}
use lib.Seq.{length-take-le, get_or-take}
use lib.Dec.{eqb, ltb}
use borrow.Author.Tests.{ltb-true, ltb-false}
use Rattle.common.specs.Choice.{pick}
use Rattle.common.specs.Outcome.{Outcome}
use Rattle.settings.specs.declared.Settings.{Settings}
use Rattle.settings.specs.Reading.{settings_end}
use Rattle.tree.specs.Tree.{Tree}
use Rattle.sizes.specs.Input.{Input, given, input_of}
use Rattle.layout.specs.Walk.{Placed, leaves}
use Rattle.frame.specs.declared.Written.{Written}
use Rattle.frame.specs.Frame.{too_large}
use Rattle.frame.specs.Printer.{no_print, print_to}
use Rattle.leaf.specs.Answers.{leaf_numbered, print_found, leaf_print_of}
use Rattle.sheet.specs.Sheet.{sheet}
use Rattle.sheet.specs.Answers.{sheet_of}
use Rattle.program.specs.Program.{refused_text, printed_of, program_of}
use Rattle.blank.specs.Alike.{covered, Alike}
use Rattle.alike.specs.Own.{found_bytes, leaf_bytes, SheetOwn, LeafOwn}
use Rattle.alike.specs.Pairs as pairs
use Rattle.alike.specs.Pairs.{AlikeBytes, SameInput, AlikeInputs, program_input}
use Rattle.alike.specs.Lent.{Lent, Agree, BothPrint}
use Rattle.alike.proofs.Walks.{placed}
use Rattle.alike.proofs.Masks.{alike_by}
use Rattle.alike.proofs.Sheets.{masked_leaves, masked_large, sheet_lengths, sheets_agree, leaf_lengths, leaves_agree}
use Rattle.alike.proofs.Pairs.{inputs_alike}
use Rattle.alike.proofs.Lent.{both_through, leaf_lent, sheet_lent}

-- ---- bytes printed to one output

module _ (o x y : List ℕ) (e : length x ≡ length y) where
  print_answer : (print_to x o).answer ≡ (print_to y o).answer
  print_answer = rw e (go (ltb (length o) (length y)))
    where
      go : (c : Bool) → (pick c (no_print 8 o) (record { answer = record { number = 0; count = length y }; memory = x ++ drop (length y) o })).answer
          ≡ (pick c (no_print 8 o) (record { answer = record { number = 0; count = length y }; memory = y ++ drop (length y) o })).answer
      go true = refl
      go false = refl

append_agree : (x y r : List ℕ) → length x ≡ length y → (i : ℕ) → (i < length x → get_or x i 0 ≡ get_or y i 0) → get_or (x ++ r) i 0 ≡ get_or (y ++ r) i 0
append_agree [] [] r e i h = refl
append_agree [] (b ∷ y) r e i h = absurd (omega arith)
append_agree (a ∷ x) [] r e i h = absurd (omega arith)
append_agree (a ∷ x) (b ∷ y) r e zero h = h (omega arith)
append_agree (a ∷ x) (b ∷ y) r e (suc i) h = append_agree x y r (omega arith) i (λ k. h (omega arith))

print_agree : (o x y : List ℕ) → length x ≡ length y → (i : ℕ) → (i < length x → get_or x i 0 ≡ get_or y i 0)
    → get_or (print_to x o).memory i 0 ≡ get_or (print_to y o).memory i 0
print_agree o x y e i h = rw e (go (ltb (length o) (length y)))
  where
    go : (c : Bool) → get_or (pick c (no_print 8 o) (record { answer = record { number = 0; count = length y }; memory = x ++ drop (length y) o })).memory i 0
        ≡ get_or (pick c (no_print 8 o) (record { answer = record { number = 0; count = length y }; memory = y ++ drop (length y) o })).memory i 0
    go true = refl
    go false = append_agree x y (drop (length y) o) e i h

-- ---- the leaf printer, by whether the leaf is there and by its bytes

some? : Option Placed → Bool
some? none = false
some? (some l) = true

abbrev leaf_to : Bool → List ℕ → List ℕ → Outcome Written (List ℕ)
leaf_to there x o = pick there (print_to x o) (no_print 9 o)

found_to : (s : Settings) (o : List ℕ) (x : Option Placed) → print_found s o x ≡ leaf_to (some? x) (found_bytes s x) o
unfolding some?
found_to s o none = refl
found_to s o (some l) = refl

there_placed : (n : ℕ) (ls : List Placed) → some? (leaf_numbered n (map (placed (covered 1)) ls)) ≡ some? (leaf_numbered n ls)
unfolding leaf_numbered some?
there_placed n [] = refl
there_placed n (l ∷ ls) = go (eqb l.at.node n) (leaf_numbered n (map (placed (covered 1)) ls)) (leaf_numbered n ls) (there_placed n ls)
  where
    go : (c : Bool) (x y : Option Placed) → some? x ≡ some? y → some? (pick c (some (placed (covered 1) l)) x) ≡ some? (pick c (some l) y)
    go true x y e = refl
    go false x y e = e

module _ (s : Settings) (t u : Tree) (h : Alike t u) where
  pub large_alike : too_large s u ≡ too_large s t
  large_alike = sym (alike_by (too_large s) (masked_large s) t u h)

  there_alike : (n : ℕ) → some? (leaf_numbered n (leaves s u)) ≡ some? (leaf_numbered n (leaves s t))
  there_alike n = sym (alike_by (λ (v : Tree). some? (leaf_numbered n (leaves s v))) (λ v. rw (masked_leaves s v) (there_placed n (leaves s v))) t u h)

  pub leaf_answers : (n : ℕ) (o : List ℕ) → (leaf_print_of (given s t) n o).answer ≡ (leaf_print_of (given s u) n o).answer
  unfolding leaf_print_of leaf_bytes
  leaf_answers n o =
      rw (found_to s o (leaf_numbered n (leaves s t)), found_to s o (leaf_numbered n (leaves s u)), large_alike, there_alike n)
      (go (too_large s t) (some? (leaf_numbered n (leaves s t))) (print_answer o (leaf_bytes s t n) (leaf_bytes s u n) (leaf_lengths s t u h n)))
    where
      go : (c d : Bool) → (print_to (leaf_bytes s t n) o).answer ≡ (print_to (leaf_bytes s u n) o).answer
          → (pick c (no_print 6 o) (leaf_to d (leaf_bytes s t n) o)).answer ≡ (pick c (no_print 6 o) (leaf_to d (leaf_bytes s u n) o)).answer
      go true d e = refl
      go false true e = e
      go false false e = refl

  -- where the bytes to print agree
  pub leaf_outs_by : (n : ℕ) (o : List ℕ) (i : ℕ)
      → (too_large s t ≡ false → i < length (leaf_bytes s t n) → get_or (leaf_bytes s t n) i 0 ≡ get_or (leaf_bytes s u n) i 0)
      → get_or (leaf_print_of (given s t) n o).memory i 0 ≡ get_or (leaf_print_of (given s u) n o).memory i 0
  unfolding leaf_print_of leaf_bytes
  leaf_outs_by n o i d =
      rw (found_to s o (leaf_numbered n (leaves s t)), found_to s o (leaf_numbered n (leaves s u)), large_alike, there_alike n)
      (go (too_large s t) refl (some? (leaf_numbered n (leaves s t))))
    where
      go : (c : Bool) → too_large s t ≡ c → (k : Bool)
          → get_or (pick c (no_print 6 o) (leaf_to k (leaf_bytes s t n) o)).memory i 0 ≡ get_or
          (pick c (no_print 6 o) (leaf_to k (leaf_bytes s u n) o)).memory i 0
      go true e k = refl
      go false e true = print_agree o (leaf_bytes s t n) (leaf_bytes s u n) (leaf_lengths s t u h n) i (d e)
      go false e false = refl

  leaf_outs : (n : ℕ) (o : List ℕ) (i : ℕ) → (LeafOwn (given s t) n i → ⊥)
      → get_or (leaf_print_of (given s t) n o).memory i 0 ≡ get_or (leaf_print_of (given s u) n o).memory i 0
  leaf_outs n o i d = leaf_outs_by n o i (λ e j. leaves_agree s t u h n i j (λ z. d (e, z)))

  pub alike_sheet_answer : (o : List ℕ) → (sheet_of (given s t) o).answer ≡ (sheet_of (given s u) o).answer
  unfolding sheet_of
  alike_sheet_answer o = rw large_alike (go (too_large s t) (print_answer o (sheet s t) (sheet s u) (sheet_lengths s t u h)))
    where
      go : (c : Bool) → (print_to (sheet s t) o).answer ≡ (print_to (sheet s u) o).answer
          → (pick c (no_print 6 o) (print_to (sheet s t) o)).answer ≡ (pick c (no_print 6 o) (print_to (sheet s u) o)).answer
      go true e = refl
      go false e = e

  pub sheet_outs_by : (o : List ℕ) (i : ℕ) → (too_large s t ≡ false → i < length (sheet s t) → get_or (sheet s t) i 0 ≡ get_or (sheet s u) i 0)
      → get_or (sheet_of (given s t) o).memory i 0 ≡ get_or (sheet_of (given s u) o).memory i 0
  unfolding sheet_of
  sheet_outs_by o i d = rw large_alike (go (too_large s t) refl)
    where
      go : (c : Bool) → too_large s t ≡ c
          → get_or (pick c (no_print 6 o) (print_to (sheet s t) o)).memory i 0 ≡ get_or (pick c (no_print 6 o) (print_to (sheet s u) o)).memory i 0
      go true e = refl
      go false e = print_agree o (sheet s t) (sheet s u) (sheet_lengths s t u h) i (d e)

  sheet_outs : (o : List ℕ) (i : ℕ) → (SheetOwn (given s t) i → ⊥) → get_or (sheet_of (given s t) o).memory i 0 ≡ get_or (sheet_of (given s u) o).memory i 0
  sheet_outs o i d = sheet_outs_by o i (λ e j. sheets_agree s t u h i j (λ z. d (e, z)))

  -- a sheet and 0A, or a text z where it is too large

  pub ended_lengths : (z : List ℕ) → length (pick (too_large s t) z (sheet s t ++ 10 ∷ [])) ≡ length (pick (too_large s u) z (sheet s u ++ 10 ∷ []))
  ended_lengths z = rw large_alike (go (too_large s t))
    where
      go : (c : Bool) → length (pick c z (sheet s t ++ 10 ∷ [])) ≡ length (pick c z (sheet s u ++ 10 ∷ []))
      go true = refl
      go false = omega (arith, sheet_lengths s t u h, length-append (sheet s t) (10 ∷ []), length-append (sheet s u) (10 ∷ []))

  pub ended_agree : (z : List ℕ) → Agree (SheetOwn (given s t)) (pick (too_large s t) z (sheet s t ++ 10 ∷ [])) (pick (too_large s u) z (sheet s u ++ 10 ∷ []))
  ended_agree z i d = rw large_alike (go (too_large s t) refl)
    where
      go : (c : Bool) → too_large s t ≡ c → get_or (pick c z (sheet s t ++ 10 ∷ [])) i 0 ≡ get_or (pick c z (sheet s u ++ 10 ∷ [])) i 0
      go true e = refl
      go false e = append_agree (sheet s t) (sheet s u) (10 ∷ []) (sheet_lengths s t u h) i (λ j. sheets_agree s t u h i j (λ w. d (e, w)))

-- ---- the calls

-- the first n of lists that agree
pub take_agree : (n : ℕ) (x y : List ℕ) (i : ℕ) → get_or x i 0 ≡ get_or y i 0 → get_or (take n x) i 0 ≡ get_or (take n y) i 0
take_agree n x y i e = go (ltb i n) refl
  where
    past : (l : List ℕ) → n ≤ i → get_or (take n l) i 0 ≡ 0
    past l h = get_or-eq_default (take n l) 0 (rw (length-take n l) (omega arith))

    go : (c : Bool) → ltb i n ≡ c → get_or (take n x) i 0 ≡ get_or (take n y) i 0
    go true k = get_or-take n x i 0 (ltb-true i n k) ∙ e ∙ sym (get_or-take n y i 0 (ltb-true i n k))
    go false k = past x (ltb-false i n k) ∙ sym (past y (ltb-false i n k))

module _ {p q : List ℕ} (b : AlikeBytes p q) (settings : List ℕ) where
  abbrev x : Input
  x = input_of settings p

  abbrev y : Input
  y = input_of settings q

  one_leaf : (n : ℕ) (o : List ℕ)
      → ((leaf_print_of x n o).answer ≡ (leaf_print_of y n o).answer) × Agree (LeafOwn x n) (leaf_print_of x n o).memory (leaf_print_of y n o).memory
  one_leaf n o = go (inputs_alike b settings)
    where
      go : {x y : Input} → SameInput x y
          → ((leaf_print_of x n o).answer ≡ (leaf_print_of y n o).answer) × Agree (LeafOwn x n) (leaf_print_of x n o).memory (leaf_print_of y n o).memory
      go (pairs.both_refused k) = (refl, λ i d. refl)
      go (pairs.both_given s t u h) = (leaf_answers s t u h n o, leaf_outs s t u h n o)

  one_sheet : (o : List ℕ) → ((sheet_of x o).answer ≡ (sheet_of y o).answer) × Agree (SheetOwn x) (sheet_of x o).memory (sheet_of y o).memory
  one_sheet o = go (inputs_alike b settings)
    where
      go : {x y : Input} → SameInput x y → ((sheet_of x o).answer ≡ (sheet_of y o).answer) × Agree (SheetOwn x) (sheet_of x o).memory (sheet_of y o).memory
      go (pairs.both_refused k) = (refl, λ i d. refl)
      go (pairs.both_given s t u h) = (alike_sheet_answer s t u h o, sheet_outs s t u h o)

  pub print_leaf_alike : (n : ℕ) (o r : List ℕ) → length o ≡ length r → BothPrint (Agree (LeafOwn x n)) o r (leaf_print_of x n o) (leaf_print_of y n r)
  print_leaf_alike n o r e =
      let k = one_leaf n o in
      both_through (Agree (LeafOwn x n)) o r {y = leaf_print_of y n o} k.0
      (λ i d. take_agree (leaf_print_of x n o).answer.count (leaf_print_of x n o).memory (leaf_print_of y n o).memory i (k.1 i d)) (leaf_lent o o refl x n)
      (leaf_lent o r e y n)

  pub print_sheet_alike : (o r : List ℕ) → length o ≡ length r → BothPrint (Agree (SheetOwn x)) o r (sheet_of x o) (sheet_of y r)
  print_sheet_alike o r e =
      let k = one_sheet o in
      both_through (Agree (SheetOwn x)) o r {y = sheet_of y o} k.0
      (λ i d. take_agree (sheet_of x o).answer.count (sheet_of x o).memory (sheet_of y o).memory i (k.1 i d)) (sheet_lent o o refl x) (sheet_lent o r e y)

-- ---- the program

module _ {i j : List ℕ} (b : AlikeInputs i j) where
  program_inputs : SameInput (program_input i) (program_input j)
  program_inputs = rw b.settings (inputs_alike b.trees (take (settings_end j) j))

  -- as many bytes; where one is refused the other is, with the same text
  pub program_alike : length (program_of i) ≡ length (program_of j)
  unfolding program_of printed_of
  program_alike = go program_inputs
    where
      go : {x y : Input} → SameInput x y → length (printed_of refused_text x) ≡ length (printed_of refused_text y)
      go (pairs.both_refused k) = refl
      go (pairs.both_given s t u h) = ended_lengths s t u h (refused_text 6)

  pub program_agrees : (k : ℕ) → (SheetOwn (program_input i) k → ⊥) → get_or (program_of i) k 0 ≡ get_or (program_of j) k 0
  unfolding program_of printed_of
  program_agrees k d = go program_inputs d
    where
      go : {x y : Input} → SameInput x y → (SheetOwn x k → ⊥) → get_or (printed_of refused_text x) k 0 ≡ get_or (printed_of refused_text y) k 0
      go (pairs.both_refused n) d = refl
      go (pairs.both_given s t u h) d = ended_agree s t u h (refused_text 6) k d

  -- the buffers of `answer`, by its contract: it answered n and m, they held u and v before, x and y after
  pub program_lent : (n m : ℕ) (u v x y : List ℕ) → take n x ≡ program_of i → take m y ≡ program_of j → n ≤ length x → m ≤ length y → drop n x ≡ drop n u
      → drop m y ≡ drop m v
      → (n ≡ m) × Lent (Agree (SheetOwn (program_input i))) n u v x y
  program_lent n m u v x y e d h k f g =
      let l : length (program_of i) ≡ n = ap length (sym e) ∙ length-take-le n x h in
      let w : length (program_of j) ≡ m = ap length (sym d) ∙ length-take-le m y k in
      let z : m ≡ n = sym w ∙ sym program_alike ∙ l in (
        sym z,
        record {
          front = λ t o. rw (e, ← z, d) (program_agrees t o);
          rest = f;
          other_rest = rw (← z) g;
        },
      )
