-- The sheets and the blocks of alike trees: equal places, and bytes that agree outside the texts' own.
use mathlib.Core.Path.{◌≡◌, sym, ◌∙◌}
use Prim.Native.Nat.{ℕ, ◌<◌}
use native.Mathlib.Omega.{arith}
use mathlib.Core.Bool.{Bool, true, false}
use mathlib.Core.List.{List, [], ◌∷◌, map}
use mathlib.Core.Option.{Option, some, none}
use lib.ListN.{length, get_or}
use lib.Dec.{eqb}
use Rattle.common.specs.Choice.{pick}
use Rattle.settings.specs.declared.Settings.{Settings}
use Rattle.tree.specs.Tree.{Tree}
use Rattle.layout.specs.Walk.{Placed, leaf_of, leaves, inside_w, inside_h}
use Rattle.leaf.specs.Answers.{leaf_numbered}
use Rattle.frame.specs.Frame.{W, H, too_large}
use Rattle.sheet.specs.Sheet.{between, margined, sheet_lines, sheet}
use Rattle.blank.specs.Alike.{recast, covered, masked, Alike}
use Rattle.alike.specs.Own.{found_bytes, leaf_bytes}
use Rattle.alike.proofs.ReplacedBytes.{natural_recast}
use Rattle.alike.proofs.RelatedBytes.{Over, Rows, none, over_append, over_replicate, over_length, over_at, over_feeds, rows_append, rows_replicate}
use Rattle.alike.proofs.RelatedBytes.{rows_each}
use Rattle.alike.proofs.Blocks.{Surround, block_recast}
use Rattle.alike.proofs.Walks.{placed, sheet_cast, leaves_cast}
use Rattle.alike.proofs.Masks.{mask_keeps, Under, under_own, under_surround, outside_mask}

module _ (f : ℕ → ℕ) (keep : (b : ℕ) → eqb (f b) 10 ≡ eqb b 10) (R : ℕ → ℕ → Type 0) (s : Settings) (p : Surround R s) (own : (b : ℕ) → R (f b) b) where
  -- ---- a sheet: the margin around the joined content

  at_between : (l m : List ℕ) → Over R l m → Over R (between s.margin l) (between s.margin m)
  unfolding between
  at_between l m k =
      let e = s.margin in
      over_append (over_replicate e.left (get_or e.fills 0 0) (p.edges 0)) (over_append k (over_replicate e.right (get_or e.fills 1 0) (p.edges 1)))

  at_margin : (w : ℕ) {x y : List (List ℕ)} → Rows R x y → Rows R (margined s.margin w x) (margined s.margin w y)
  unfolding margined
  at_margin w k =
      let e = s.margin in
      rows_each (between e) at_between
      (rows_append (rows_replicate e.top (over_replicate w (get_or e.fills 2 0) (p.edges 2)))
      (rows_append k (rows_replicate e.bottom (over_replicate w (get_or e.fills 3 0) (p.edges 3)))))

  inside_recast : (t : Tree) → inside_w s (recast f t) ≡ inside_w s t
  unfolding inside_w
  inside_recast t = rw (natural_recast f keep s t)

  pub sheet_recast : (t : Tree) → Over R (sheet s (recast f t)) (sheet s t)
  unfolding sheet sheet_lines
  sheet_recast t = rw (inside_recast t) (over_feeds p.feed (at_margin (inside_w s t) (sheet_cast f keep R s p own t).content))

  -- ---- the block of the leaf with one number

  found_recast : (n : ℕ) (ls : List Placed) → Over R (found_bytes s (leaf_numbered n (map (placed f) ls))) (found_bytes s (leaf_numbered n ls))
  unfolding leaf_numbered
  found_recast n [] = none
  found_recast n (l ∷ ls) = go (eqb l.at.node n) (leaf_numbered n (map (placed f) ls)) (leaf_numbered n ls) (found_recast n ls)
    where
      go : (c : Bool) (x y : Option Placed) → Over R (found_bytes s x) (found_bytes s y)
          → Over R (found_bytes s (pick c (some (placed f l)) x)) (found_bytes s (pick c (some l) y))
      go true x y e = over_feeds p.feed (block_recast f keep R s p own (leaf_of l))
      go false x y e = e

  pub leaf_recast : (t : Tree) (n : ℕ) → Over R (leaf_bytes s (recast f t) n) (leaf_bytes s t n)
  unfolding leaf_bytes
  leaf_recast t n = rw (leaves_cast f keep R s p own t) (found_recast n (leaves s t))

-- ---- bytes under a mask

-- two lists under one mask have equal bytes where it is not 1
pub unders_agree : {m a b : List ℕ} → Over Under m a → Over Under m b → (i : ℕ) → i < length a → (get_or m i 0 ≡ 1 → ⊥) → get_or a i 0 ≡ get_or b i 0
unders_agree p q i k n = let e = over_length p in outside_mask _ _ _ (over_at p i (omega arith)) (over_at q i (omega arith)) n

module _ (s : Settings) where
  pub masked_sheet : (t : Tree) → Over Under (sheet s (masked t)) (sheet s t)
  unfolding masked
  masked_sheet t = sheet_recast (covered 1) mask_keeps Under s (under_surround s) under_own t

  pub masked_leaf : (n : ℕ) (t : Tree) → Over Under (leaf_bytes s (masked t) n) (leaf_bytes s t n)
  unfolding masked
  masked_leaf n t = leaf_recast (covered 1) mask_keeps Under s (under_surround s) under_own t n

  pub masked_leaves : (t : Tree) → leaves s (masked t) ≡ map (placed (covered 1)) (leaves s t)
  unfolding masked
  masked_leaves t = leaves_cast (covered 1) mask_keeps Under s (under_surround s) under_own t

  masked_natural : (t : Tree) → ◌≡◌ (inside_w s (masked t)) (inside_w s t) × ◌≡◌ (inside_h s (masked t)) (inside_h s t)
  unfolding masked inside_w inside_h
  masked_natural t = (rw (natural_recast (covered 1) mask_keeps s t), rw (natural_recast (covered 1) mask_keeps s t))

  pub masked_wide : (t : Tree) → inside_w s (masked t) ≡ inside_w s t
  masked_wide t = (masked_natural t).0

  pub masked_tall : (t : Tree) → inside_h s (masked t) ≡ inside_h s t
  masked_tall t = (masked_natural t).1

  pub masked_W : (t : Tree) → W s (masked t) ≡ W s t
  unfolding W
  masked_W t = rw (masked_wide t)

  pub masked_H : (t : Tree) → H s (masked t) ≡ H s t
  unfolding H
  masked_H t = rw (masked_tall t)

  pub masked_large : (t : Tree) → too_large s (masked t) ≡ too_large s t
  unfolding too_large
  masked_large t = rw (masked_W t, masked_H t)

  -- ---- alike trees

  module _ (t u : Tree) (h : Alike t u) where
    other : {f : Tree → List ℕ} → ((v : Tree) → Over Under (f (masked v)) (f v)) → Over Under (f (masked t)) (f u)
    unfolding Alike
    other {f} e = let k : masked u ≡ masked t = sym h in rw k at (e u)

    pub sheet_lengths : length (sheet s t) ≡ length (sheet s u)
    sheet_lengths = sym (over_length (masked_sheet t)) ∙ over_length (other masked_sheet)

    pub sheets_agree : (i : ℕ) → i < length (sheet s t) → (get_or (sheet s (masked t)) i 0 ≡ 1 → ⊥) → get_or (sheet s t) i 0 ≡ get_or (sheet s u) i 0
    sheets_agree = unders_agree (masked_sheet t) (other masked_sheet)

    pub leaf_lengths : (n : ℕ) → length (leaf_bytes s t n) ≡ length (leaf_bytes s u n)
    leaf_lengths n = sym (over_length (masked_leaf n t)) ∙ over_length (other {f = λ (v : Tree). leaf_bytes s v n} (masked_leaf n))

    pub leaves_agree : (n i : ℕ) → i < length (leaf_bytes s t n) → (get_or (leaf_bytes s (masked t) n) i 0 ≡ 1 → ⊥)
        → get_or (leaf_bytes s t n) i 0 ≡ get_or (leaf_bytes s u n) i 0
    leaves_agree n = unders_agree (masked_leaf n t) (other {f = λ (v : Tree). leaf_bytes s v n} (masked_leaf n))
