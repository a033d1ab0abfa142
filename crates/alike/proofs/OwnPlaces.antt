-- `sheet_own_layout`, `leaf_own_layout`: the texts' own bytes of a sheet and of a block are exactly those that the layout gives the texts; `text_printed`: the
-- sheet printer has written the texts' bytes there.
use mathlib.Core.Path.{◌≡◌, refl, sym, ap, ap₂, ◌∙◌}
use mathlib.Core.Logic.{◌↔◌, ◌≢◌}
use Prim.Native.Nat.{ℕ}
use native.Mathlib.Omega.{arith}
use mathlib.Core.Bool.{Bool, true, false}
use mathlib.Core.List.{List, [], ◌∷◌, map}
use lib.ListN.{length, get_or, get_or-eq_default}
use lib.Dec.{eqb, ltb}
use borrow.Author.Tests.{eqb-true, eqb-false, ne_eqb, ltb-true, ltb-false}
use Rattle.common.specs.Choice.{pick}
use Rattle.settings.specs.declared.Settings.{Settings}
use Rattle.settings.specs.Promises.{Ranges}
use Rattle.tree.specs.Tree.{Tree, Trees, cell, group, none, more}
use Rattle.text.specs.Text.{lines}
use Rattle.sizes.specs.Input.{Input, refused, given, input_of}
use Rattle.sizes.proofs.MeasuredInput.{takes}
use Rattle.blank.specs.Alike.{recast, recast*, covered, masked}
use Rattle.sheet.specs.Sheet.{sheet}
use Rattle.sheet.specs.Answers.{sheet_of}
use Rattle.frame.specs.Promises.{bytes_written}
use Rattle.sheet.proofs.Calls.{sheet_printed}
use Rattle.alike.specs.Own.{leaf_bytes, SheetOwn, LeafOwn}
use Rattle.alike.specs.Layout.{SheetPlace, BlockPlace, SheetText, LeafText}
use Rattle.alike.proofs.RelatedBytes.{Over, over_length, over_at}
use Rattle.alike.proofs.Blocks.{Surround}
use Rattle.alike.proofs.Masks.{mask_keeps}
use Rattle.alike.proofs.Exact.{no_one, printable, mark_range}
use Rattle.alike.proofs.Sheets.{sheet_recast, leaf_recast}
use Rattle.alike.proofs.TextBytes.{sheet_text}
use Rattle.alike.proofs.Placing.{sheet_found, sheet_shown, leaf_apart, leaf_shown}

-- ---- a second mask: 2 for 1

second : ℕ → ℕ
second b = pick (eqb b 1) 2 b

second_keeps : (b : ℕ) → eqb (second b) 10 ≡ eqb b 10
unfolding second
second_keeps b = go (eqb b 1) refl
  where
    go : (c : Bool) → eqb b 1 ≡ c → eqb (pick c 2 b) 10 ≡ eqb b 10
    go true e = let d : b ≡ 1 = eqb-true b 1 e in rw d
    go false e = refl

-- the second mask's byte m against the first's byte b
abbrev Second : ℕ → ℕ → Type 0
Second m b = (b ≡ 1 → m ≡ 2) × ((b ≡ 1 → ⊥) → m ≡ b)

second_own : (b : ℕ) → Second (second b) b
unfolding second
second_own b = ((λ e. rw e), λ n. rw (ne_eqb b 1 n))

second_frame : (s : Settings) → Ranges s → Surround Second s
second_frame s r = record {
  marks = λ i. (λ d. absurd (no_one _ _ _ s.marks r.marks (mark_range s.lines) i d), λ n. refl);
  fills = λ i. (λ d. absurd (no_one _ _ _ s.fills r.fills printable i d), λ n. refl);
  edges = λ i. (λ d. absurd (no_one _ _ _ s.margin.fills r.margin_fills printable i d), λ n. refl);
  space = (λ d. absurd (omega arith), λ n. refl);
  feed = (λ d. absurd (omega arith), λ n. refl);
}

-- the first mask has 1 exactly where the two differ
one_differs : {m b : List ℕ} → Over Second m b → (i : ℕ) → get_or b i 0 ≡ 1 → get_or b i 0 ≡ get_or m i 0 → ⊥
one_differs {m} {b} o i e d = go (ltb i (length b)) refl
  where
    go : (c : Bool) → ltb i (length b) ≡ c → ⊥
    go true k = let z = (over_at o i (rw (over_length o) (ltb-true i (length b) k))).0 e in omega arith
    go false k = let z : get_or b i 0 ≡ 0 = get_or-eq_default b 0 (ltb-false i (length b) k) in omega arith

differs_one : {m b : List ℕ} → Over Second m b → (i : ℕ) → (get_or b i 0 ≡ get_or m i 0 → ⊥) → get_or b i 0 ≡ 1
differs_one {m} {b} o i n = go (ltb i (length b)) (eqb (get_or b i 0) 1) refl refl
  where
    go : (c d : Bool) → ltb i (length b) ≡ c → eqb (get_or b i 0) 1 ≡ d → get_or b i 0 ≡ 1
    go c true k e = eqb-true (get_or b i 0) 1 e
    go true false k e = absurd (n (sym ((over_at o i (rw (over_length o) (ltb-true i (length b) k))).1 (eqb-false (get_or b i 0) 1 e))))
    go false false k e =
        let h = ltb-false i (length b) k in
        absurd (n (get_or-eq_default b 0 h ∙ sym (get_or-eq_default m 0 (rw (over_length o) h))))

-- ---- both masks from the tree

both_masks : ℕ → ℕ
both_masks b = second (covered 1 b)

both_keep : (b : ℕ) → eqb (both_masks b) 10 ≡ eqb b 10
unfolding both_masks
both_keep b = second_keeps (covered 1 b) ∙ mask_keeps b

masks_differ : (b : ℕ) → b ≢ 10 → covered 1 b ≢ both_masks b
unfolding both_masks covered second
masks_differ b n e = let d : ◌≡◌ {A = ℕ} 1 2 = rw (ne_eqb b 10 n) at e in omega arith

texts_twice : (x : List ℕ) → map second (map (covered 1) x) ≡ map both_masks x
unfolding both_masks
texts_twice [] = refl
texts_twice (b ∷ x) = ap (λ (l : List ℕ). second (covered 1 b) ∷ l) (texts_twice x)

mutual
  unfolding recast

  twice : (t : Tree) → recast second (recast (covered 1) t) ≡ recast both_masks t
  twice (cell x) = ap cell (texts_twice x)
  twice (group a ts) = ap (group a) (twice* ts)

  twice* : (ts : Trees) → recast* second (recast* (covered 1) ts) ≡ recast* both_masks ts
  twice* none = refl
  twice* (more t ts) = ap₂ more (twice t) (twice* ts)

-- ---- the theorems

module _ (s : Settings) (r : Ranges s) (t : Tree) where
  sheet_over : Over Second (sheet s (recast both_masks t)) (sheet s (recast (covered 1) t))
  sheet_over = rw (twice t) at (sheet_recast second second_keeps Second s (second_frame s r) second_own (recast (covered 1) t))

  leaf_over : (n : ℕ) → Over Second (leaf_bytes s (recast both_masks t) n) (leaf_bytes s (recast (covered 1) t) n)
  leaf_over n = rw (twice t) at (leaf_recast second second_keeps Second s (second_frame s r) second_own (recast (covered 1) t) n)

  sheet_places : (i : ℕ) → (get_or (sheet s (masked t)) i 0 ≡ 1) ↔ SheetPlace s t i
  unfolding masked
  sheet_places i = (
    λ e. sheet_found s t (covered 1) both_masks mask_keeps both_keep masks_differ i (one_differs sheet_over i e),
    λ p. differs_one sheet_over i (sheet_shown s t (covered 1) both_masks mask_keeps both_keep masks_differ i p),
  )

  leaf_places : (n i : ℕ) → (get_or (leaf_bytes s (masked t) n) i 0 ≡ 1) ↔ BlockPlace s t n i
  unfolding masked
  leaf_places n i = (
    λ e. leaf_apart s t (covered 1) both_masks mask_keeps both_keep masks_differ n i (one_differs (leaf_over n) i e),
    λ p. differs_one (leaf_over n) i (leaf_shown s t (covered 1) both_masks mask_keeps both_keep masks_differ n i p),
  )

same_given : {s u : Settings} {t v : Tree} → given s t ≡ given u v → (s ≡ u) × (t ≡ v)
same_given e = (cc, cc)

module _ (settings tree : List ℕ) where
  own_case : (x : Input) → input_of settings tree ≡ x → (i : ℕ) → SheetOwn x i ↔ SheetText x i
  own_case (refused k) e i = (λ o. o, λ o. o)
  own_case (given s t) e i =
      let p = sheet_places s (takes settings tree s t e).ranges t i in
      (λ o. (o.0, p.0 o.1), λ o. (o.0, p.1 o.1))

  pub sheet_own_layout : (i : ℕ) → SheetOwn (input_of settings tree) i ↔ SheetText (input_of settings tree) i
  sheet_own_layout i = own_case (input_of settings tree) refl i

  own_leaf_case : (x : Input) → input_of settings tree ≡ x → (n i : ℕ) → LeafOwn x n i ↔ LeafText x n i
  own_leaf_case (refused k) e n i = (λ o. o, λ o. o)
  own_leaf_case (given s t) e n i =
      let p = leaf_places s (takes settings tree s t e).ranges t n i in
      (λ o. (o.0, p.0 o.1), λ o. (o.0, p.1 o.1))

  pub leaf_own_layout : (n i : ℕ) → LeafOwn (input_of settings tree) n i ↔ LeafText (input_of settings tree) n i
  leaf_own_layout n i = own_leaf_case (input_of settings tree) refl n i

  -- there the sheet printer has written that byte of the text
  pub text_printed : (o : List ℕ) → (sheet_of (input_of settings tree) o).answer.number ≡ 0 → (s : Settings) (t : Tree) → input_of settings tree ≡ given s t
      → {i : ℕ} (p : SheetPlace s t i)
      → get_or (bytes_written (sheet_of (input_of settings tree) o)) i 0 ≡ get_or (get_or (lines p.leaf.text) p.text.row []) p.text.byte 0
  text_printed o h s t e {i} p =
      let a = sheet_printed settings tree o h in
      let g = same_given (sym a.input ∙ e) in
      ap (λ (b : List ℕ). get_or b i 0) (a.bytes ∙ ap₂ sheet g.0 g.1) ∙ sheet_text s t p
