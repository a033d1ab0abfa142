-- `alike_is`: the mask compares exactly what document 02, 14 requires, the lines' lengths.
use mathlib.Core.Path.{◌≡◌, refl, sym, ap, ap₂, ◌∙◌}
use mathlib.Core.Logic.{◌↔◌}
use Prim.Native.Nat.{ℕ, suc}
use native.Mathlib.Omega.{arith}
use mathlib.Core.Bool.{Bool, true, false}
use mathlib.Core.List.{List, [], ◌∷◌, map}
use lib.ListN.{length}
use lib.Dec.{eqb}
use Rattle.common.specs.Choice.{pick}
use Rattle.tree.specs.Tree.{Axis, Tree, Trees, cell, group, none, more}
use Rattle.text.specs.Text.{onto, lines, line_lengths}
use Rattle.blank.specs.Alike.{recast, recast*, covered, masked, Alike}
use Rattle.alike.specs.Lines.{SameLines, SameLines*}
use Rattle.alike.proofs.ReplacedBytes.{lengths_recast}
use Rattle.alike.proofs.Masks.{mask_keeps}

-- ---- the lengths of the lines, byte by byte

-- the first line is one longer
bumped : List ℕ → List ℕ
bumped [] = 1 ∷ []
bumped (n ∷ ns) = suc n ∷ ns

lengths_cons : (b : ℕ) (t : List ℕ) → line_lengths (b ∷ t) ≡ pick (eqb b 10) (0 ∷ line_lengths t) (bumped (line_lengths t))
unfolding line_lengths lines onto bumped
lengths_cons b t = go (eqb b 10) (lines t)
  where
    go : (c : Bool) (ls : List (List ℕ)) → map length (pick c ([] ∷ ls) (onto b ls)) ≡ pick c (0 ∷ map length ls) (bumped (map length ls))
    go true ls = refl
    go false [] = refl
    go false (l ∷ ls) = refl

-- one line at the least
data Some : List ℕ → Type 0 where
  at_least : (n : ℕ) (ns : List ℕ) → Some (n ∷ ns)

lengths_some : (t : List ℕ) → Some (line_lengths t)
unfolding line_lengths lines onto
lengths_some [] = at_least 0 []
lengths_some (b ∷ t) = go (eqb b 10) (lines t)
  where
    go : (c : Bool) (ls : List (List ℕ)) → Some (map length (pick c ([] ∷ ls) (onto b ls)))
    go true ls = at_least _ _
    go false [] = at_least _ _
    go false (l ∷ ls) = at_least _ _

heads : {a b : ℕ} {x y : List ℕ} → ◌≡◌ {A = List ℕ} (a ∷ x) (b ∷ y) → a ≡ b
heads e = cc

tails : {a b : ℕ} {x y : List ℕ} → ◌≡◌ {A = List ℕ} (a ∷ x) (b ∷ y) → x ≡ y
tails e = cc

-- ---- one text

-- only an empty text has the line lengths of an empty text
one_more : (c : Bool) {ns : List ℕ} → Some ns → 0 ∷ [] ≡ pick c (0 ∷ ns) (bumped ns) → ⊥
unfolding bumped
one_more true (at_least n ns) e = let z : 0 ≡ suc (length ns) = ap length (tails e) in omega arith
one_more false (at_least n ns) e = omega (arith, heads e)

same_first : (c d : Bool) {ns ms : List ℕ} → Some ns → Some ms → pick c (0 ∷ ns) (bumped ns) ≡ pick d (0 ∷ ms) (bumped ms) → (c ≡ d) × (ns ≡ ms)
unfolding bumped
same_first true true p q e = (refl, tails e)
same_first true false p (at_least m ms) e = absurd (omega (arith, heads e))
same_first false true (at_least n ns) q e = absurd (omega (arith, heads e))
same_first false false (at_least n ns) (at_least m ms) e = (refl, ap₂ ◌∷◌ (omega (arith, heads e)) (tails e))

pub lines_alike : (x y : List ℕ) → line_lengths x ≡ line_lengths y → map (covered 1) x ≡ map (covered 1) y
unfolding covered line_lengths
lines_alike [] [] e = refl
lines_alike [] (b ∷ y) e = absurd (one_more (eqb b 10) (lengths_some y) (e ∙ lengths_cons b y))
lines_alike (a ∷ x) [] e = absurd (one_more (eqb a 10) (lengths_some x) (sym e ∙ lengths_cons a x))
lines_alike (a ∷ x) (b ∷ y) e =
    let k = same_first (eqb a 10) (eqb b 10) (lengths_some x) (lengths_some y) (sym (lengths_cons a x) ∙ e ∙ lengths_cons b y) in
    ap₂ ◌∷◌ (ap (λ (c : Bool). pick c 10 1) k.0) (lines_alike x y k.1)

pub alike_lines : (x y : List ℕ) → map (covered 1) x ≡ map (covered 1) y → line_lengths x ≡ line_lengths y
alike_lines x y e = sym (lengths_recast (covered 1) mask_keeps x) ∙ ap line_lengths e ∙ lengths_recast (covered 1) mask_keeps y

-- ---- trees

mutual
  unfolding SameLines recast

  lines_mask : (t u : Tree) → SameLines t u → recast (covered 1) t ≡ recast (covered 1) u
  lines_mask (cell x) (cell y) k = ap cell (lines_alike x y k)
  lines_mask (cell x) (group b us) k = absurd k
  lines_mask (group a ts) (cell y) k = absurd k
  lines_mask (group a ts) (group b us) k = ap₂ group k.0 (lines_mask* ts us k.1)

  lines_mask* : (ts us : Trees) → SameLines* ts us → recast* (covered 1) ts ≡ recast* (covered 1) us
  lines_mask* none none k = refl
  lines_mask* none (more u us) k = absurd k
  lines_mask* (more t ts) none k = absurd k
  lines_mask* (more t ts) (more u us) k = ap₂ more (lines_mask t u k.0) (lines_mask* ts us k.1)

-- what a tree's constructor holds
cell_in : {x y : List ℕ} → cell x ≡ cell y → x ≡ y
cell_in e = cc

group_in : {a b : Axis} {ts us : Trees} → group a ts ≡ group b us → (a ≡ b) × (ts ≡ us)
group_in e = (cc, cc)

no_group : {x : List ℕ} {b : Axis} {us : Trees} → cell x ≡ group b us → ⊥
no_group e = let z : ◌≡◌ {A = ℕ} 0 1 = cc in omega arith

more_in : {t u : Tree} {ts us : Trees} → more t ts ≡ more u us → (t ≡ u) × (ts ≡ us)
more_in e = (cc, cc)

no_more : {u : Tree} {us : Trees} → none ≡ more u us → ⊥
no_more e = let z : ◌≡◌ {A = ℕ} 0 1 = cc in omega arith

mutual
  unfolding SameLines recast

  mask_lines : (t u : Tree) → recast (covered 1) t ≡ recast (covered 1) u → SameLines t u
  mask_lines (cell x) (cell y) e = alike_lines x y (cell_in e)
  mask_lines (cell x) (group b us) e = no_group e
  mask_lines (group a ts) (cell y) e = no_group (sym e)
  mask_lines (group a ts) (group b us) e = ((group_in e).0, mask_lines* ts us (group_in e).1)

  mask_lines* : (ts us : Trees) → recast* (covered 1) ts ≡ recast* (covered 1) us → SameLines* ts us
  mask_lines* none none e = tt
  mask_lines* none (more u us) e = no_more e
  mask_lines* (more t ts) none e = no_more (sym e)
  mask_lines* (more t ts) (more u us) e = (mask_lines t u (more_in e).0, mask_lines* ts us (more_in e).1)

pub alike_is : (t u : Tree) → SameLines t u ↔ Alike t u
unfolding Alike masked
alike_is t u = (lines_mask t u, mask_lines t u)
