-- The blanked tree: within the limits as the tree is, alike, and equal outside the texts that are blanked.
use mathlib.Core.Path.{◌≡◌, refl, sym, ap, ap₂, ◌∙◌}
use Prim.Native.Nat.{ℕ, zero, suc, ◌+◌, ◌/◌, ◌%◌, max}
use native.Mathlib.Omega.{arith}
use mathlib.Core.Bool.{Bool, true, false}
use mathlib.Core.List.{List, [], ◌∷◌, ◌++◌, map}
use lib.ListN.{length, get_or, length-map}
use lib.Dec.{eqb}
use Rattle.common.specs.Choice.{pick}
use Rattle.tree.specs.Tree.{Tree, Trees, cell, group, none, more, nodes, nodes*}
use Rattle.tree.specs.Bytes.{tag_of}
use Rattle.tree.specs.Reading.{is_text_byte, is_text}
use Rattle.tree.specs.Accepted.{bytes_of, bytes_of*}
use Rattle.tree.specs.Promises.{Texts, Texts*, depth, depth*}
use Rattle.blank.specs.Alike.{recast, recast*, covered, masked, Alike}
use Rattle.blank.specs.Blank.{shown_byte, blanked, blanked*}
use Rattle.blank.specs.Paper.{in_texts, in_texts*}
use Rattle.blank.proofs.Lengths.{blanked*_bytes_in}
use Rattle.tree.proofs.Lengths.{bytes*_length}

-- ---- one byte: a dot is allowed in a text, and a line feed stays

shown_filled : (d : Bool) (b : ℕ) → covered 1 b ≡ covered 1 (shown_byte d b)
unfolding covered shown_byte
shown_filled d b = go d (eqb b 10) refl
  where
    go : (d c : Bool) → eqb b 10 ≡ c → covered 1 b ≡ covered 1 (pick d (covered 46 b) b)
    go true true e = rw e
    go true false e = rw e
    go false c e = refl

shown_byte_text : (d : Bool) (b : ℕ) → is_text_byte b ≡ true → is_text_byte (shown_byte d b) ≡ true
unfolding shown_byte
shown_byte_text true b h = go (eqb b 10)
  where
    go : (c : Bool) → is_text_byte (pick c 10 46) ≡ true
    go true = refl
    go false = refl
shown_byte_text false b h = h

-- ---- a text

shown_alike : (d : Bool) (x : List ℕ) → map (covered 1) x ≡ map (covered 1) (map (shown_byte d) x)
shown_alike d [] = refl
shown_alike d (b ∷ x) = ap₂ ◌∷◌ (shown_filled d b) (shown_alike d x)

shown_text : (d : Bool) (x : List ℕ) → is_text x ≡ true → is_text (map (shown_byte d) x) ≡ true
unfolding is_text
shown_text d [] h = refl
shown_text d (b ∷ x) h = more_text (is_text_byte b) refl h (shown_text d x)
  where
    more_text : (c : Bool) → is_text_byte b ≡ c → pick c (is_text x) false ≡ true → (is_text x ≡ true → is_text (map (shown_byte d) x) ≡ true)
        → pick (is_text_byte (shown_byte d b)) (is_text (map (shown_byte d) x)) false ≡ true
    more_text true e h k = rw (shown_byte_text d b e) (k h)
    more_text false e h k = let z : ◌≡◌ {A = ℕ} 0 1 = cc in absurd (omega arith)

-- ---- two lists that are equal but where the flags say

data Same : List Bool → List ℕ → List ℕ → Type 0 where
  done : Same [] [] []
  also : {c : Bool} {cs : List Bool} {x y : ℕ} {xs ys : List ℕ} → (c ≡ false → x ≡ y) → Same cs xs ys → Same (c ∷ cs) (x ∷ xs) (y ∷ ys)

same_append : {cs ds : List Bool} {xs ys us vs : List ℕ} → Same cs xs ys → Same ds us vs → Same (cs ++ ds) (xs ++ us) (ys ++ vs)
same_append done k = k
same_append (also h l) k = also h (same_append l k)

same_at : {cs : List Bool} {xs ys : List ℕ} → Same cs xs ys → (i : ℕ) → get_or cs i false ≡ false → get_or xs i 0 ≡ get_or ys i 0
same_at done i h = refl
same_at (also k l) zero h = k h
same_at (also k l) (suc i) h = same_at l i h

shown_same : (d : Bool) (b : ℕ) → d ≡ false → shown_byte d b ≡ b
unfolding shown_byte
shown_same d b e = rw e

same_text : (d : Bool) (x : List ℕ) → Same (map (λ b. d) x) (map (shown_byte d) x) x
same_text d [] = done
same_text d (b ∷ x) = also (shown_same d b) (same_text d x)

same_front : {cs : List Bool} (tag : ℕ) (xs ys : List ℕ) → length xs ≡ length ys → Same cs xs ys
    → Same (false ∷ false ∷ false ∷ cs) (tag ∷ (length xs / 256) ∷ (length xs % 256) ∷ xs) (tag ∷ (length ys / 256) ∷ (length ys % 256) ∷ ys)
same_front tag xs ys e k = also (λ z. refl) (also (λ z. ap (λ (n : ℕ). n / 256) e) (also (λ z. ap (λ (n : ℕ). n % 256) e) k))

-- ---- the tree

module _ (f : ℕ → Bool) where
  mutual
    unfolding blanked nodes

    pub blanked_nodes : (t : Tree) (n : ℕ) → nodes (blanked f n t) ≡ nodes t
    blanked_nodes (cell x) = λ n. refl
    blanked_nodes (group a ts) = λ n. ap suc (blanked*_nodes ts (suc n))

    blanked*_nodes : (ts : Trees) (n : ℕ) → nodes* (blanked* f n ts) ≡ nodes* ts
    blanked*_nodes none = λ n. refl
    blanked*_nodes (more t ts) = λ n. ap₂ ◌+◌ (blanked_nodes t n) (blanked*_nodes ts (n + nodes t))

  mutual
    unfolding blanked depth

    pub blanked_depth : (t : Tree) (n : ℕ) → depth (blanked f n t) ≡ depth t
    blanked_depth (cell x) = λ n. refl
    blanked_depth (group a ts) = λ n. ap suc (blanked*_depth ts (suc n))

    blanked*_depth : (ts : Trees) (n : ℕ) → depth* (blanked* f n ts) ≡ depth* ts
    blanked*_depth none = λ n. refl
    blanked*_depth (more t ts) = λ n. ap₂ max (blanked_depth t n) (blanked*_depth ts (n + nodes t))

  mutual
    unfolding blanked Texts

    pub blanked_texts : (t : Tree) (n : ℕ) → Texts t → Texts (blanked f n t)
    blanked_texts (cell x) = λ n k. shown_text (f n) x k
    blanked_texts (group a ts) = λ n k. blanked*_texts ts (suc n) k

    blanked*_texts : (ts : Trees) (n : ℕ) → Texts* ts → Texts* (blanked* f n ts)
    blanked*_texts none = λ n k. tt
    blanked*_texts (more t ts) = λ n k. (blanked_texts t n k.0, blanked*_texts ts (n + nodes t) k.1)

  mutual
    unfolding blanked recast

    recast_alike : (t : Tree) (n : ℕ) → recast (covered 1) t ≡ recast (covered 1) (blanked f n t)
    recast_alike (cell x) = λ n. ap cell (shown_alike (f n) x)
    recast_alike (group a ts) = λ n. ap (group a) (recast*_alike ts (suc n))

    recast*_alike : (ts : Trees) (n : ℕ) → recast* (covered 1) ts ≡ recast* (covered 1) (blanked* f n ts)
    recast*_alike none = λ n. refl
    recast*_alike (more t ts) = λ n. ap₂ more (recast_alike t n) (recast*_alike ts (n + nodes t))

  pub blanked_alike : (t : Tree) → Alike t (blanked f 0 t)
  unfolding Alike masked
  blanked_alike t = recast_alike t 0

  mutual
    unfolding blanked in_texts bytes_of

    tree_same : (t : Tree) (n : ℕ) → Same (in_texts f n t) (bytes_of (blanked f n t)) (bytes_of t)
    tree_same (cell x) = λ n. same_front 1 (map (shown_byte (f n)) x) x (length-map x (shown_byte (f n))) (same_text (f n) x)
    tree_same (group a ts) = λ n.
        same_front (tag_of a) (bytes_of* (blanked* f (suc n) ts)) (bytes_of* ts)
        (bytes*_length (blanked* f (suc n) ts) ∙ blanked*_bytes_in f ts (suc n) ∙ sym (bytes*_length ts)) (trees_same ts (suc n))

    trees_same : (ts : Trees) (n : ℕ) → Same (in_texts* f n ts) (bytes_of* (blanked* f n ts)) (bytes_of* ts)
    trees_same none = λ n. done
    trees_same (more t ts) = λ n. same_append (tree_same t n) (trees_same ts (n + nodes t))

  pub blanked_outside : (t : Tree) (i : ℕ) → get_or (in_texts f 0 t) i false ≡ false → get_or (bytes_of (blanked f 0 t)) i 0 ≡ get_or (bytes_of t) i 0
  blanked_outside t i h = same_at (tree_same t 0) i h
