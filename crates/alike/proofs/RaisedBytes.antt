-- A tree with the texts of some Cells masked, blanked or left as they are: all three are made byte by byte from one tree, in which 256 is added to the bytes of
-- those texts. So where the first has the mask on a sheet the second has a dot, and elsewhere the first and the third agree.
use mathlib.Core.Path.{◌≡◌, refl, sym, ap, ap₂, ◌∙◌}
use Prim.Native.Nat.{ℕ, suc, ◌+◌, ◌-◌, ◌<◌}
use native.Mathlib.Omega.{arith}
use native.Mathlib.Nat.{add-sub_cancel_left}
use mathlib.Core.Bool.{Bool, true, false}
use mathlib.Core.List.{List, [], ◌∷◌, map}
use lib.ListN.{length, get_or, get_or-eq_default}
use lib.Dec.{eqb, ltb}
use borrow.Author.Tests.{ne_eqb, eqb-true, eqb-false, ltb-true, ltb-false, lt-ltb, le-ltb}
use Rattle.common.specs.Choice.{pick}
use Rattle.settings.specs.declared.Settings.{Settings}
use Rattle.settings.specs.Promises.{Bounded, Ranges}
use Rattle.tree.specs.Tree.{Tree, Trees, cell, group, none, more, nodes}
use Rattle.tree.specs.Reading.{is_text_byte, is_text}
use Rattle.tree.specs.Promises.{Texts, Texts*}
use Rattle.blank.specs.Alike.{recast, recast*, covered}
use Rattle.blank.specs.Blank.{shown_byte, blanked, blanked*}
use Rattle.alike.specs.Own.{recast_at, recast_at*, changed, masked_in}
use Rattle.alike.proofs.RelatedBytes.{Over, over_length, over_at}
use Rattle.alike.proofs.Blocks.{Surround}
use Rattle.alike.proofs.Exact.{no_one, printable, mark_range}

-- ---- one byte

-- line feeds stay
raised : ℕ → ℕ
raised b = pick (eqb b 10) 10 (256 + b)

-- bytes below 256 stay, but for 1, which does not occur; raised bytes are replaced
under : (ℕ → ℕ) → ℕ → ℕ
under g c = pick (ltb c 256) (pick (eqb c 1) 0 c) (g c)

abbrev hide : ℕ → ℕ
hide c = 1

abbrev dot : ℕ → ℕ
dot c = 46

lower : ℕ → ℕ
lower c = pick (eqb c 266) 0 (c - 256)

no_feed : (c : ℕ) → lower c ≡ 10 → ⊥
unfolding lower
no_feed c = go (eqb c 266) refl
  where
    go : (d : Bool) → eqb c 266 ≡ d → pick d 0 (c - 256) ≡ 10 → ⊥
    go true e h = omega arith
    go false e h = eqb-false c 266 e (omega arith)

under_keeps : (g : ℕ → ℕ) → ((c : ℕ) → g c ≡ 10 → ⊥) → (c : ℕ) → eqb (under g c) 10 ≡ eqb c 10
unfolding under
under_keeps g h c = go (ltb c 256) refl (eqb c 1) refl
  where
    go : (a : Bool) → ltb c 256 ≡ a → (d : Bool) → eqb c 1 ≡ d → eqb (pick a (pick d 0 c) (g c)) 10 ≡ eqb c 10
    go true e true k = sym (ne_eqb c 10 (λ z. omega (arith, eqb-true c 1 k)))
    go true e false k = refl
    go false e d k = ne_eqb (g c) 10 (h c) ∙ sym (ne_eqb c 10 (λ z. omega (arith, ltb-false c 256 e)))

under_plain : (g : ℕ → ℕ) (m : ℕ) → m < 256 → (m ≡ 1 → ⊥) → m ≡ under g m
unfolding under
under_plain g m h k = rw (lt-ltb m 256 h, ne_eqb m 1 k)

under_raised : (g : ℕ → ℕ) (b : ℕ) → under g (raised b) ≡ pick (eqb b 10) 10 (g (256 + b))
unfolding under raised
under_raised g b = go (eqb b 10)
  where
    go : (c : Bool) → under g (pick c 10 (256 + b)) ≡ pick c 10 (g (256 + b))
    go true = refl
    go false = let e : ltb (256 + b) 256 ≡ false = le-ltb (256 + b) 256 (omega arith) in rw e

lowered : (b : ℕ) → under lower (raised b) ≡ b
unfolding lower
lowered b = under_raised lower b ∙ go (eqb b 10) refl
  where
    go : (c : Bool) → eqb b 10 ≡ c → pick c 10 (lower (256 + b)) ≡ b
    go true e = sym (eqb-true b 10 e)
    go false e = let d : eqb (256 + b) 266 ≡ false = ne_eqb (256 + b) 266 (λ z. eqb-false b 10 e (omega arith)) in rw (d, add-sub_cancel_left 256 b)

-- a byte of a text
allowed : (b : ℕ) → is_text_byte b ≡ true → (b < 256) × (b ≡ 1 → ⊥)
allowed b h = go (eqb b 10) refl (ltb b 32) refl (ltb 126 b) refl h
  where
    go : (c : Bool) → eqb b 10 ≡ c → (d : Bool) → ltb b 32 ≡ d → (e : Bool) → ltb 126 b ≡ e → pick c true (pick d false (pick e false true)) ≡ true
        → (b < 256) × (b ≡ 1 → ⊥)
    go true k d l e m q = let z = eqb-true b 10 k in (omega arith, λ y. omega arith)
    go false k true l e m q = let z : ◌≡◌ {A = ℕ} 0 1 = cc in absurd (omega arith)
    go false k false l true m q = let z : ◌≡◌ {A = ℕ} 0 1 = cc in absurd (omega arith)
    go false k false l false m q = let x = ltb-false b 32 l in let y = ltb-false 126 b m in (omega arith, λ z. omega arith)

-- ---- one text, one tree

text_in : (b : ℕ) (x : List ℕ) → is_text (b ∷ x) ≡ true → (is_text_byte b ≡ true) × (is_text x ≡ true)
unfolding is_text
text_in b x h = go (is_text_byte b) refl h
  where
    go : (c : Bool) → is_text_byte b ≡ c → pick c (is_text x) false ≡ true → (is_text_byte b ≡ true) × (is_text x ≡ true)
    go true e k = (e, k)
    go false e k = let z : ◌≡◌ {A = ℕ} 0 1 = cc in absurd (omega arith)

module _ (g k : ℕ → ℕ) (h : (b : ℕ) → under g (raised b) ≡ k b) where
  byte_under : (c : Bool) (b : ℕ) → is_text_byte b ≡ true → under g (changed raised c b) ≡ changed k c b
  byte_under true b e = h b
  byte_under false b e = let a = allowed b e in sym (under_plain g b a.0 a.1)

  text_under : (c : Bool) (x : List ℕ) → is_text x ≡ true → map (under g) (map (changed raised c) x) ≡ map (changed k c) x
  text_under c [] e = refl
  text_under c (b ∷ x) e = let a = text_in b x e in ap₂ ◌∷◌ (byte_under c b a.0) (text_under c x a.1)

  module _ (some : ℕ → Bool) where
    mutual
      unfolding recast recast_at Texts

      tree_under : (t : Tree) (n : ℕ) → Texts t → recast (under g) (recast_at (λ m. changed raised (some m)) n t) ≡ recast_at (λ m. changed k (some m)) n t
      tree_under (cell x) = λ n e. ap cell (text_under (some n) x e)
      tree_under (group a ts) = λ n e. ap (group a) (trees_under ts (suc n) e)

      trees_under : (ts : Trees) (n : ℕ) → Texts* ts
          → recast* (under g) (recast_at* (λ m. changed raised (some m)) n ts) ≡ recast_at* (λ m. changed k (some m)) n ts
      trees_under none = λ n e. refl
      trees_under (more t ts) = λ n e. ap₂ more (tree_under t n e.0) (trees_under ts (n + nodes t) e.1)

-- left as they are
text_same : (c : Bool) (x : List ℕ) → map (changed (λ b. b) c) x ≡ x
text_same c [] = refl
text_same true (b ∷ x) = ap (λ (l : List ℕ). b ∷ l) (text_same true x)
text_same false (b ∷ x) = ap (λ (l : List ℕ). b ∷ l) (text_same false x)

module _ (some : ℕ → Bool) where
  mutual
    unfolding recast_at

    tree_same : (t : Tree) (n : ℕ) → recast_at (λ m. changed (λ b. b) (some m)) n t ≡ t
    tree_same (cell x) = λ n. ap cell (text_same (some n) x)
    tree_same (group a ts) = λ n. ap (group a) (trees_same ts (suc n))

    trees_same : (ts : Trees) (n : ℕ) → recast_at* (λ m. changed (λ b. b) (some m)) n ts ≡ ts
    trees_same none = λ n. refl
    trees_same (more t ts) = λ n. ap₂ more (tree_same t n) (trees_same ts (n + nodes t))

  -- blanked
  mutual
    unfolding recast_at blanked shown_byte

    tree_blanked : (t : Tree) (n : ℕ) → recast_at (λ m. changed (covered 46) (some m)) n t ≡ blanked some n t
    tree_blanked (cell x) = λ n. refl
    tree_blanked (group a ts) = λ n. ap (group a) (trees_blanked ts (suc n))

    trees_blanked : (ts : Trees) (n : ℕ) → recast_at* (λ m. changed (covered 46) (some m)) n ts ≡ blanked* some n ts
    trees_blanked none = λ n. refl
    trees_blanked (more t ts) = λ n. ap₂ more (tree_blanked t n) (trees_blanked ts (n + nodes t))

-- ---- what is printed

small_at : (n least greatest : ℕ) (l : List ℕ) → Bounded n least greatest l → greatest < 256 → (i : ℕ) → get_or l i 0 < 256
small_at n least greatest l b h i = go (ltb i n) refl
  where
    go : (c : Bool) → ltb i n ≡ c → get_or l i 0 < 256
    go true k = let r = b.each i (ltb-true i n k) in omega arith
    go false k = let z : get_or l i 0 ≡ 0 = get_or-eq_default l 0 (omega (arith, b.many, ltb-false i n k)) in omega arith

mark_small : (c : Bool) → pick c 126 0 < 256
mark_small true = omega arith
mark_small false = omega arith

-- the bytes a that g makes of the bytes c
abbrev Made : (ℕ → ℕ) → ℕ → ℕ → Type 0
Made g a c = a ≡ under g c

made_frame : (g : ℕ → ℕ) (s : Settings) → Ranges s → Surround (Made g) s
made_frame g s r = record {
  marks = λ i. under_plain g (get_or s.marks i 0) (small_at _ _ _ s.marks r.marks (mark_small s.lines) i)
      (no_one _ _ _ s.marks r.marks (mark_range s.lines) i);
  fills = λ i. under_plain g (get_or s.fills i 0) (small_at _ _ _ s.fills r.fills (omega arith) i) (no_one _ _ _ s.fills r.fills printable i);
  edges = λ i. under_plain g (get_or s.margin.fills i 0) (small_at _ _ _ s.margin.fills r.margin_fills (omega arith) i)
      (no_one _ _ _ s.margin.fills r.margin_fills printable i);
  space = under_plain g 32 (omega arith) (λ z. omega arith);
  feed = under_plain g 10 (omega arith) (λ z. omega arith);
}

-- F: the sheet, or the block of one leaf
module _ (s : Settings) (r : Ranges s) (F : Tree → List ℕ)
    (cast : (f : ℕ → ℕ) → ((b : ℕ) → eqb (f b) 10 ≡ eqb b 10) → (R : ℕ → ℕ → Type 0) → Surround R s → ((b : ℕ) → R (f b) b) → (t : Tree)
    → Over R (F (recast f t)) (F t))
    (some : ℕ → Bool) (t : Tree) (texts : Texts t) where
  -- the texts of those Cells raised
  z : Tree
  z = recast_at (λ m. changed raised (some m)) 0 t

  made : (g k : ℕ → ℕ) → ((c : ℕ) → g c ≡ 10 → ⊥) → ((b : ℕ) → under g (raised b) ≡ k b) → Over (Made g) (F (recast_at (λ m. changed k (some m)) 0 t)) (F z)
  unfolding z
  made g k nf h = rw (← tree_under g k h some t 0 texts) (cast (under g) (under_keeps g nf) (Made g) (made_frame g s r) (λ b. refl) z)

  hidden : Over (Made hide) (F (masked_in some t)) (F z)
  unfolding masked_in covered
  hidden = made hide (covered 1) (λ c e. omega arith) (under_raised hide)

  shown : Over (Made lower) (F t) (F z)
  shown = let e : recast_at (λ m. changed (λ b. b) (some m)) 0 t ≡ t = tree_same some t 0 in rw e at (made lower (λ b. b) no_feed lowered)

  dotted : Over (Made dot) (F (blanked some 0 t)) (F z)
  unfolding covered
  dotted = rw (tree_blanked some t 0) at (made dot (covered 46) (λ c e. omega arith) (under_raised dot))

  -- outside those Cells' own bytes the mask changes nothing
  pub outside_same : (i : ℕ) → i < length (F t) → (get_or (F (masked_in some t)) i 0 ≡ 1 → ⊥) → get_or (F t) i 0 ≡ get_or (F (masked_in some t)) i 0
  unfolding under
  outside_same i h k =
      let c = get_or (F z) i 0 in
      let a : get_or (F (masked_in some t)) i 0 ≡ under hide c = over_at hidden i (omega (arith, over_length hidden, over_length shown)) in
      let b : get_or (F t) i 0 ≡ under lower c = over_at shown i h in
      b ∙ go c (ltb c 256) (λ e. k (a ∙ e)) ∙ sym a
    where
      go : (c : ℕ) (d : Bool) → (pick d (pick (eqb c 1) 0 c) 1 ≡ 1 → ⊥) → pick d (pick (eqb c 1) 0 c) (lower c) ≡ pick d (pick (eqb c 1) 0 c) 1
      go c true n = refl
      go c false n = absurd (n refl)

  -- at those own bytes the blanked tree has dots
  pub own_dot : (i : ℕ) → get_or (F (masked_in some t)) i 0 ≡ 1 → get_or (F (blanked some 0 t)) i 0 ≡ 46
  unfolding under
  own_dot i e = by (ltb i (length (F (masked_in some t)))) refl
    where
      go : (c : ℕ) (a b : Bool) → eqb c 1 ≡ b → pick a (pick b 0 c) 1 ≡ 1 → pick a (pick b 0 c) 46 ≡ 46
      go c true true n k = absurd (omega arith)
      go c true false n k = absurd (eqb-false c 1 n k)
      go c false b n k = refl

      by : (d : Bool) → ltb i (length (F (masked_in some t))) ≡ d → get_or (F (blanked some 0 t)) i 0 ≡ 46
      by true k =
          let h = ltb-true i (length (F (masked_in some t))) k in
          let c = get_or (F z) i 0 in
          let a : get_or (F (masked_in some t)) i 0 ≡ under hide c = over_at hidden i h in
          let b : get_or (F (blanked some 0 t)) i 0 ≡ under dot c = over_at dotted i (omega (arith, over_length hidden, over_length dotted)) in
          b ∙ go c (ltb c 256) (eqb c 1) refl (sym a ∙ e)
      by false k = let n : get_or (F (masked_in some t)) i 0 ≡ 0 = get_or-eq_default (F (masked_in some t)) 0 (ltb-false i (length (F (masked_in some t))) k) in
          absurd (omega arith)
