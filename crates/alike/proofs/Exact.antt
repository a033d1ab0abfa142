-- The mask is exact: under settings that are read, where the masked sheet or block has 1, some alike tree has any byte but 0A.
use mathlib.Core.Path.{◌≡◌, refl, sym, ap, ap₂}
use Prim.Native.Nat.{ℕ, ◌≤◌}
use native.Mathlib.Omega.{arith}
use mathlib.Core.Bool.{Bool, true, false}
use mathlib.Core.List.{List, [], ◌∷◌, map}
use lib.ListN.{length, get_or, get_or-eq_default}
use lib.Dec.{eqb, ltb}
use borrow.Author.Tests.{ne_eqb, ltb-true, ltb-false}
use Rattle.common.specs.Choice.{pick}
use Rattle.settings.specs.declared.Settings.{Settings}
use Rattle.settings.specs.Reading.{Parsed, read_settings}
use Rattle.settings.specs.Promises.{Bounded, Ranges}
use Rattle.settings.proofs.Ranges.{settings_small}
use Rattle.tree.specs.Tree.{Tree, Trees, cell, group, none, more}
use Rattle.sheet.specs.Sheet.{sheet}
use Rattle.blank.specs.Alike.{recast, recast*, covered, masked, Alike}
use Rattle.alike.specs.Own.{leaf_bytes, CanShow}
use Rattle.alike.proofs.RelatedBytes.{Over, over_length, over_at}
use Rattle.alike.proofs.Blocks.{Surround}
use Rattle.alike.proofs.Masks.{covered_keeps}
use Rattle.alike.proofs.Sheets.{sheet_recast, leaf_recast}

-- ---- no mark and no fill is 1: marks are hex 20 to 7E, or all 0

pub no_one : (n least greatest : ℕ) (l : List ℕ) → Bounded n least greatest l → ((b : ℕ) → least ≤ b → b ≤ greatest → b ≡ 1 → ⊥) → (i : ℕ) → get_or l i 0 ≡ 1
    → ⊥
no_one n least greatest l b h i e = go (ltb i n) refl
  where
    go : (c : Bool) → ltb i n ≡ c → ⊥
    go true k = let r = b.each i (ltb-true i n k) in h (get_or l i 0) r.0 r.1 e
    go false k = let z : get_or l i 0 ≡ 0 = get_or-eq_default l 0 (omega (arith, b.many, ltb-false i n k)) in omega arith

pub printable : (b : ℕ) → 32 ≤ b → b ≤ 126 → b ≡ 1 → ⊥
printable b h k e = omega arith

pub mark_range : (c : Bool) (b : ℕ) → pick c 32 0 ≤ b → b ≤ pick c 126 0 → b ≡ 1 → ⊥
mark_range true b h k e = omega arith
mark_range false b h k e = omega arith

-- ---- the byte m of the tree covered with v, against the masked tree's byte b

abbrev Covered : ℕ → ℕ → ℕ → Type 0
Covered v m b = b ≡ 1 → m ≡ v

covered_own : (v b : ℕ) → Covered v (covered v b) b
unfolding covered
covered_own v b e = rw e

covered_frame : (v : ℕ) (s : Settings) → Ranges s → Surround (Covered v) s
covered_frame v s r = record {
  marks = λ i d. absurd (no_one _ _ _ s.marks r.marks (mark_range s.lines) i d);
  fills = λ i d. absurd (no_one _ _ _ s.fills r.fills printable i d);
  edges = λ i d. absurd (no_one _ _ _ s.margin.fills r.margin_fills printable i d);
  space = λ d. absurd (omega arith);
  feed = λ d. absurd (omega arith);
}

-- where the masked bytes have 1, those of the covered tree have v
has_one : (v : ℕ) {m b : List ℕ} → Over (Covered v) m b → (i : ℕ) → get_or b i 0 ≡ 1 → get_or m i 0 ≡ v
has_one v {m} {b} o i e = go (ltb i (length b)) refl
  where
    go : (c : Bool) → ltb i (length b) ≡ c → get_or m i 0 ≡ v
    go true k = over_at o i (rw (over_length o) (ltb-true i (length b) k)) e
    go false k = let z : get_or b i 0 ≡ 0 = get_or-eq_default b 0 (ltb-false i (length b) k) in absurd (omega arith)

-- ---- the covered tree is alike

texts_back : (v : ℕ) → (v ≡ 10 → ⊥) → (x : List ℕ) → map (covered 1) (map (covered v) (map (covered 1) x)) ≡ map (covered 1) x
unfolding covered
texts_back v h [] = refl
texts_back v h (b ∷ x) = ap₂ (λ (a : ℕ) (l : List ℕ). a ∷ l) (go (eqb b 10)) (texts_back v h x)
  where
    go : (c : Bool) → covered 1 (covered v (pick c 10 1)) ≡ pick c 10 1
    go true = refl
    go false = rw (ne_eqb v 10 h)

mutual
  unfolding recast

  back : (v : ℕ) → (v ≡ 10 → ⊥) → (t : Tree) → recast (covered 1) (recast (covered v) (recast (covered 1) t)) ≡ recast (covered 1) t
  back v h (cell x) = ap cell (texts_back v h x)
  back v h (group a ts) = ap (group a) (back* v h ts)

  back* : (v : ℕ) → (v ≡ 10 → ⊥) → (ts : Trees) → recast* (covered 1) (recast* (covered v) (recast* (covered 1) ts)) ≡ recast* (covered 1) ts
  back* v h none = refl
  back* v h (more t ts) = ap₂ more (back v h t) (back* v h ts)

covered_alike : (t : Tree) (v : ℕ) → (v ≡ 10 → ⊥) → Alike t (recast (covered v) (masked t))
unfolding Alike masked
covered_alike t v h = sym (back v h t)

-- ---- exact

module _ (settings : List ℕ) (s : Settings) (read : read_settings settings ≡ Parsed.read s) (t : Tree) (v : ℕ) (h : v ≡ 10 → ⊥) where
  frame : Surround (Covered v) s
  frame = covered_frame v s (settings_small settings s read)

  pub sheet_own_exact : (i : ℕ) → get_or (sheet s (masked t)) i 0 ≡ 1 → CanShow (sheet s) t i v
  sheet_own_exact i e =
      record {
        tree = recast (covered v) (masked t);
        alike = covered_alike t v h;
        byte = has_one v (sheet_recast (covered v) (covered_keeps v h) (Covered v) s frame (covered_own v) (masked t)) i e;
      }

  pub leaf_own_exact : (n i : ℕ) → get_or (leaf_bytes s (masked t) n) i 0 ≡ 1 → CanShow (λ (u : Tree). leaf_bytes s u n) t i v
  leaf_own_exact n i e =
      record {
        tree = recast (covered v) (masked t);
        alike = covered_alike t v h;
        byte = has_one v (leaf_recast (covered v) (covered_keeps v h) (Covered v) s frame (covered_own v) (masked t) n) i e;
      }
