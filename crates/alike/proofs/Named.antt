-- Some Cells alone: the sheets and blocks of trees that differ in no other texts agree outside those texts' own bytes; those of a blanked tree have dots there.
use mathlib.Core.Path.{◌≡◌, refl, sym, ap, ap₂, ◌∙◌}
use Prim.Native.Nat.{ℕ, suc, ◌+◌, ◌<◌}
use native.Mathlib.Omega.{arith}
use mathlib.Core.Bool.{Bool, true, false}
use mathlib.Core.List.{List, [], ◌∷◌, ◌++◌, map}
use lib.ListN.{length, get_or, drop, get_or-append, get_or-eq_default}
use lib.Dec.{eqb, ltb}
use borrow.Author.Tests.{ltb-true, ltb-false}
use Rattle.common.specs.Choice.{pick}
use Rattle.settings.specs.declared.Settings.{Settings}
use Rattle.settings.specs.Reading.{Parsed, read_settings}
use Rattle.settings.specs.Promises.{Ranges}
use Rattle.settings.proofs.Ranges.{settings_small}
use Rattle.tree.specs.Tree.{Tree, Trees, cell, group, none, more, nodes}
use Rattle.tree.specs.Reading.{ReadOne}
use Rattle.tree.specs.Promises.{Texts}
use Rattle.tree.proofs.Sound.{tree_sound}
use Rattle.sizes.specs.Input.{given, input_of, settings_input}
use Rattle.sizes.proofs.MeasuredInput.{takes}
use Rattle.frame.specs.Frame.{too_large}
use Rattle.frame.specs.Printer.{no_print, print_to}
use Rattle.leaf.specs.Answers.{leaf_print_of}
use Rattle.sheet.specs.Sheet.{sheet}
use Rattle.sheet.specs.Answers.{sheet_of}
use Rattle.blank.specs.Alike.{recast, recast*, covered, masked, Alike}
use Rattle.blank.specs.Blank.{blanked, dots_for, blank_of}
use Rattle.blank.specs.Paper.{blank_written}
use Rattle.blank.proofs.BlankedTree.{blanked_alike}
use Rattle.blank.proofs.Calls.{paper_read}
use Rattle.alike.specs.Own.{leaf_bytes, recast_at, recast_at*, changed, masked_in, SheetOwnIn, LeafOwnIn}
use Rattle.alike.specs.Lent.{Agree, BothPrint}
use Rattle.alike.proofs.Sheets.{sheet_recast, leaf_recast, sheet_lengths, leaf_lengths}
use Rattle.alike.proofs.RaisedBytes.{outside_same, own_dot}
use Rattle.alike.proofs.Lent.{both_through, sheet_lent, leaf_lent}
use Rattle.alike.proofs.Printed.{take_agree, large_alike, alike_sheet_answer, sheet_outs_by, leaf_answers, leaf_outs_by}

-- ---- trees that differ in those texts alone are alike

byte_twice : (c : Bool) (b : ℕ) → covered 1 (changed (covered 1) c b) ≡ covered 1 b
unfolding covered
byte_twice true b = go (eqb b 10)
  where
    go : (d : Bool) → covered 1 (pick d 10 1) ≡ pick d 10 1
    go true = refl
    go false = refl
byte_twice false b = refl

text_twice : (c : Bool) (x : List ℕ) → map (covered 1) (map (changed (covered 1) c) x) ≡ map (covered 1) x
text_twice c [] = refl
text_twice c (b ∷ x) = ap₂ ◌∷◌ (byte_twice c b) (text_twice c x)

module _ (some : ℕ → Bool) where
  mutual
    unfolding recast recast_at

    tree_twice : (t : Tree) (n : ℕ) → recast (covered 1) (recast_at (λ m. changed (covered 1) (some m)) n t) ≡ recast (covered 1) t
    tree_twice (cell x) = λ n. ap cell (text_twice (some n) x)
    tree_twice (group a ts) = λ n. ap (group a) (trees_twice ts (suc n))

    trees_twice : (ts : Trees) (n : ℕ) → recast* (covered 1) (recast_at* (λ m. changed (covered 1) (some m)) n ts) ≡ recast* (covered 1) ts
    trees_twice none = λ n. refl
    trees_twice (more t ts) = λ n. ap₂ more (tree_twice t n) (trees_twice ts (n + nodes t))

  pub alike_in : (t u : Tree) → masked_in some t ≡ masked_in some u → Alike t u
  unfolding Alike masked masked_in
  alike_in t u e = sym (tree_twice t 0) ∙ ap (recast (covered 1)) e ∙ tree_twice u 0

-- where all Cells are meant, it is the mask
mutual
  unfolding recast recast_at

  all_masked : (t : Tree) (n : ℕ) → recast_at (λ m. changed (covered 1) true) n t ≡ recast (covered 1) t
  all_masked (cell x) = λ n. refl
  all_masked (group a ts) = λ n. ap (group a) (all_masked* ts (suc n))

  all_masked* : (ts : Trees) (n : ℕ) → recast_at* (λ m. changed (covered 1) true) n ts ≡ recast* (covered 1) ts
  all_masked* none = λ n. refl
  all_masked* (more t ts) = λ n. ap₂ more (all_masked t n) (all_masked* ts (n + nodes t))

pub masked_all : (t : Tree) → masked_in (λ n. true) t ≡ masked t
unfolding masked_in masked
masked_all t = all_masked t 0

-- ---- sheets and blocks

module _ (some : ℕ → Bool) (s : Settings) (r : Ranges s) (t u : Tree) (p : Texts t) (q : Texts u) (e : masked_in some t ≡ masked_in some u) where
  pub sheets_agree_in : (i : ℕ) → i < length (sheet s t) → (get_or (sheet s (masked_in some t)) i 0 ≡ 1 → ⊥) → get_or (sheet s t) i 0 ≡ get_or (sheet s u) i 0
  sheets_agree_in i h k =
      let l = sheet_lengths s t u (alike_in some t u e) in
      outside_same s r (sheet s) (λ f keep R a own v. sheet_recast f keep R s a own v) some t p i h k
      ∙ ap (λ (v : Tree). get_or (sheet s v) i 0) e
      ∙ sym (outside_same s r (sheet s) (λ f keep R a own v. sheet_recast f keep R s a own v) some u q i (omega arith)
      (λ z. k (ap (λ (v : Tree). get_or (sheet s v) i 0) e ∙ z)))

  pub leaves_agree_in : (n i : ℕ) → i < length (leaf_bytes s t n) → (get_or (leaf_bytes s (masked_in some t) n) i 0 ≡ 1 → ⊥)
      → get_or (leaf_bytes s t n) i 0 ≡ get_or (leaf_bytes s u n) i 0
  leaves_agree_in n i h k =
      let l = leaf_lengths s t u (alike_in some t u e) n in
      outside_same s r (λ (v : Tree). leaf_bytes s v n) (λ f keep R a own v. leaf_recast f keep R s a own v n) some t p i h k
      ∙ ap (λ (v : Tree). get_or (leaf_bytes s v n) i 0) e
      ∙ sym (outside_same s r (λ (v : Tree). leaf_bytes s v n) (λ f keep R a own v. leaf_recast f keep R s a own v n) some u q i (omega arith)
      (λ z. k (ap (λ (v : Tree). get_or (leaf_bytes s v n) i 0) e ∙ z)))

-- ---- the printers

module _ (some : ℕ → Bool) (settings p q : List ℕ) (s : Settings) (t u : Tree) (x : input_of settings p ≡ given s t) (y : input_of settings q ≡ given s u)
    (e : masked_in some t ≡ masked_in some u)
    (o r : List ℕ) (l : length o ≡ length r) where
  pub print_sheet_in : BothPrint (Agree (SheetOwnIn some (given s t))) o r (sheet_of (input_of settings p) o) (sheet_of (input_of settings q) r)
  print_sheet_in =
      let a = takes settings p s t x in
      let b = takes settings q s u y in
      let h = alike_in some t u e in
      rw (x, y)
      (both_through (Agree (SheetOwnIn some (given s t))) o r {y = sheet_of (given s u) o} (alike_sheet_answer s t u h o)
      (λ i d. take_agree (sheet_of (given s t) o).answer.count (sheet_of (given s t) o).memory (sheet_of (given s u) o).memory i
      (sheet_outs_by s t u h o i (λ c j. sheets_agree_in some s a.ranges t u a.got.texts b.got.texts e i j (λ z. d (c, z)))))
      (sheet_lent o o refl (given s t)) (sheet_lent o r l (given s u)))

  pub print_leaf_in : (n : ℕ)
      → BothPrint (Agree (LeafOwnIn some (given s t) n)) o r (leaf_print_of (input_of settings p) n o) (leaf_print_of (input_of settings q) n r)
  print_leaf_in n =
      let a = takes settings p s t x in
      let b = takes settings q s u y in
      let h = alike_in some t u e in
      rw (x, y)
      (both_through (Agree (LeafOwnIn some (given s t) n)) o r {y = leaf_print_of (given s u) n o} (leaf_answers s t u h n o)
      (λ i d. take_agree (leaf_print_of (given s t) n o).answer.count (leaf_print_of (given s t) n o).memory (leaf_print_of (given s u) n o).memory i
      (leaf_outs_by s t u h n o i (λ c j. leaves_agree_in some s a.ranges t u a.got.texts b.got.texts e n i j (λ z. d (c, z)))))
      (leaf_lent o o refl (given s t) n) (leaf_lent o r l (given s u) n))

-- ---- the sheet of what `blank_texts` wrote

-- a byte that is not 0 is printed at its place
printed_at : (bytes r : List ℕ) (i v : ℕ) → (v ≡ 0 → ⊥) → (print_to bytes r).answer.number ≡ 0 → get_or bytes i 0 ≡ v → get_or (print_to bytes r).memory i 0 ≡ v
printed_at bytes r i v k n e = go (ltb (length r) (length bytes)) n (ltb i (length bytes)) refl
  where
    go : (c : Bool) → (pick c (no_print 8 r) (record
        { answer = record { number = 0; count = length bytes }; memory = bytes ++ drop (length bytes) r })).answer.number ≡ 0 → (d :
        Bool) → ltb i (length bytes) ≡ d
        → get_or (pick c (no_print 8 r) (record { answer = record { number = 0; count = length bytes }; memory = bytes ++ drop (length bytes) r })).memory i 0
        ≡ v
    go true z d h = absurd (omega arith)
    go false z true h = get_or-append bytes (drop (length bytes) r) 0 i (ltb-true i (length bytes) h) ∙ e
    go false z false h = absurd (k (sym e ∙ get_or-eq_default bytes 0 (ltb-false i (length bytes) h)))

sheet_dots : (some : ℕ → Bool) (s : Settings) → Ranges s → (t : Tree) → Texts t → (r : List ℕ) → (sheet_of (given s (blanked some 0 t)) r).answer.number ≡ 0
    → (i : ℕ) → SheetOwnIn some (given s t) i → get_or (sheet_of (given s (blanked some 0 t)) r).memory i 0 ≡ 46
unfolding sheet_of
sheet_dots some s g t x r n i own =
    let u = blanked some 0 t in
    let e : too_large s u ≡ false = large_alike s t u (blanked_alike some t) ∙ own.0 in
    let m : (print_to (sheet s u) r).answer.number ≡ 0 = rw e at n in
    rw e (printed_at (sheet s u) r i 46 (λ z. omega arith) m (own_dot s g (sheet s) (λ f keep R a k v. sheet_recast f keep R s a k v) some t x i own.1))

pub paper_dots : (tree ns o : List ℕ) → (blank_of tree ns o).answer.number ≡ 0 → (settings r : List ℕ)
    → (sheet_of (input_of settings (blank_written (blank_of tree ns o))) r).answer.number ≡ 0
    → (i : ℕ) → SheetOwnIn (dots_for ns) (input_of settings tree) i
    → get_or (sheet_of (input_of settings (blank_written (blank_of tree ns o))) r).memory i 0 ≡ 46
unfolding input_of
paper_dots tree ns o h settings r =
    let k = paper_read tree ns o h in
    let g = tree_sound tree k.tree_is k.size k.count k.reads in
    rw (k.reads, k.accepted) (go (read_settings settings) refl k.tree_is k.size k.count g.texts)
  where
    go : (x : Parsed) → read_settings settings ≡ x → (t : Tree) (z n : ℕ) → Texts t
        → (sheet_of (settings_input x (ReadOne.one (blanked (dots_for ns) 0 t) z n)) r).answer.number ≡ 0
        → (i : ℕ) → SheetOwnIn (dots_for ns) (settings_input x (ReadOne.one t z n)) i
        → get_or (sheet_of (settings_input x (ReadOne.one (blanked (dots_for ns) 0 t) z n)) r).memory i 0 ≡ 46
    go Parsed.refused e t z n x y i own = absurd own
    go (Parsed.read s) e t z n x y i own = sheet_dots (dots_for ns) s (settings_small settings s e) t x r y i own
