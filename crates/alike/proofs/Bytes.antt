-- The bytes of alike trees agree outside their texts: so do stores that keep them.
use mathlib.Core.Path.{◌≡◌, refl, sym, ap, ap₂, ◌∙◌}
use Prim.Native.Nat.{ℕ, suc, ◌+◌, ◌<◌}
use mathlib.Core.Bool.{Bool, true, false}
use mathlib.Core.List.{List, [], ◌∷◌, ◌++◌, map}
use lib.ListN.{get_or}
use lib.Dec.{eqb}
use Rattle.common.specs.Choice.{pick}
use Rattle.common.specs.Every.{Every}
use Rattle.tree.specs.Tree.{Tree, Trees, cell, group, none, more, nodes}
use Rattle.tree.specs.Accepted.{bytes_of}
use Rattle.blank.specs.Alike.{recast, recast*, covered, masked, Alike}
use Rattle.blank.specs.Blank.{shown_byte, blanked, blanked*}
use Rattle.blank.specs.Paper.{in_texts, in_texts*}
use Rattle.tree.proofs.Exact.{tree_exact}
use Rattle.blank.proofs.BlankedTree.{blanked_outside}
use Rattle.alike.specs.Pairs.{AlikeTrees}

-- every text
abbrev every : ℕ → Bool
every n = true

-- ---- with every text blanked, alike trees are equal

dots_again : (x : List ℕ) → map (shown_byte true) x ≡ map (shown_byte true) (map (covered 1) x)
unfolding shown_byte covered
dots_again [] = refl
dots_again (b ∷ x) = ap₂ ◌∷◌ (go (eqb b 10)) (dots_again x)
  where
    go : (c : Bool) → pick c 10 46 ≡ covered 46 (pick c 10 1)
    go true = refl
    go false = refl

mutual
  unfolding blanked recast

  all_blanked : (t : Tree) (n m : ℕ) → blanked every n t ≡ blanked every m (recast (covered 1) t)
  all_blanked (cell x) = λ n m. ap cell (dots_again x)
  all_blanked (group a ts) = λ n m. ap (group a) (all_blanked* ts (suc n) (suc m))

  all_blanked* : (ts : Trees) (n m : ℕ) → blanked* every n ts ≡ blanked* every m (recast* (covered 1) ts)
  all_blanked* none = λ n m. refl
  all_blanked* (more t ts) = λ n m. ap₂ more (all_blanked t n m) (all_blanked* ts (n + nodes t) (m + nodes (recast (covered 1) t)))

blanked_equal : (t u : Tree) → Alike t u → blanked every 0 t ≡ blanked every 0 u
unfolding Alike masked
blanked_equal t u h = all_blanked t 0 0 ∙ ap (blanked every 0) h ∙ sym (all_blanked u 0 0)

-- ---- the places in texts are the same

flag_again : (x : List ℕ) → map (λ b. true) x ≡ map (λ b. true) (map (covered 1) x)
flag_again [] = refl
flag_again (b ∷ x) = ap (λ (l : List Bool). true ∷ l) (flag_again x)

mutual
  unfolding in_texts recast

  same_texts : (t : Tree) (n m : ℕ) → in_texts every n t ≡ in_texts every m (recast (covered 1) t)
  same_texts (cell x) = λ n m. ap (λ (l : List Bool). false ∷ false ∷ false ∷ l) (flag_again x)
  same_texts (group a ts) = λ n m. ap (λ (l : List Bool). false ∷ false ∷ false ∷ l) (same_texts* ts (suc n) (suc m))

  same_texts* : (ts : Trees) (n m : ℕ) → in_texts* every n ts ≡ in_texts* every m (recast* (covered 1) ts)
  same_texts* none = λ n m. refl
  same_texts* (more t ts) = λ n m. ap₂ (λ (x y : List Bool). x ++ y) (same_texts t n m) (same_texts* ts (n + nodes t) (m + nodes (recast (covered 1) t)))

texts_equal : (t u : Tree) → Alike t u → in_texts every 0 t ≡ in_texts every 0 u
unfolding Alike masked
texts_equal t u h = same_texts t 0 0 ∙ ap (in_texts every 0) h ∙ sym (same_texts u 0 0)

-- ---- the bytes

pub trees_agree : (t u : Tree) → Alike t u → (i : ℕ) → get_or (in_texts (λ n. true) 0 t) i false ≡ false → get_or (bytes_of t) i 0 ≡ get_or (bytes_of u) i 0
trees_agree t u a i h =
    let j : get_or (in_texts every 0 u) i false ≡ false = sym (ap (λ (x : List Bool). get_or x i false) (texts_equal t u a)) ∙ h in
    let x : get_or (bytes_of (blanked every 0 t)) i 0 ≡ get_or (bytes_of t) i 0 = blanked_outside every t i h in
    let y : get_or (bytes_of (blanked every 0 u)) i 0 ≡ get_or (bytes_of u) i 0 = blanked_outside every u i j in
    sym x ∙ ap (λ (v : Tree). get_or (bytes_of v) i 0) (blanked_equal t u a) ∙ y

-- bytes that are read as them: they are those, where each is below 256, as in every slice of bytes
pub bytes_agree : {p q : List ℕ} (b : AlikeTrees p q) → Every (λ c. c < 256) p → Every (λ c. c < 256) q → (i : ℕ)
    → get_or (in_texts (λ n. true) 0 b.tree) i false ≡ false → get_or p i 0 ≡ get_or q i 0
bytes_agree {p} {q} b k l i h =
    let e : p ≡ bytes_of b.tree = tree_exact b.tree p k b.first.is b.first.ends in
    let d : q ≡ bytes_of b.other = tree_exact b.other q l b.second.is b.second.ends in
    ap (λ (z : List ℕ). get_or z i 0) e ∙ trees_agree b.tree b.other b.alike i h ∙ sym (ap (λ (z : List ℕ). get_or z i 0) d)
