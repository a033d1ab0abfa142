-- A tree whose texts are replaced byte for byte, with the same line feeds: its sizes are the same.
use mathlib.Core.Path.{◌≡◌, refl, ap, ap₂}
use Prim.Native.Nat.{ℕ, suc, ◌+◌}
use mathlib.Core.Bool.{Bool, true, false}
use mathlib.Core.List.{List, [], ◌∷◌, map}
use lib.ListN.{length, length-map}
use lib.Dec.{eqb}
use Rattle.common.specs.Choice.{pick}
use Rattle.common.specs.Sums.{greatest}
use Rattle.settings.specs.declared.Settings.{Settings}
use Rattle.tree.specs.Tree.{Axis, Tree, Trees, cell, group, none, more, empty?, count, nodes, nodes*}
use Rattle.text.specs.Text.{onto, lines, line_lengths, text_width, text_height}
use Rattle.sizes.specs.declared.Size.{Size}
use Rattle.sizes.specs.Sizes.{leaf_size, natural, naturals, allot, spare_of, Sizes, sizes, sizes*, tree_sizes}
use Rattle.blank.specs.Alike.{recast, recast*}

map_lengths : (f : ℕ → ℕ) (ls : List (List ℕ)) → map length (map (map f) ls) ≡ map length ls
map_lengths f [] = refl
map_lengths f (l ∷ ls) = ap₂ (λ (n : ℕ) (ns : List ℕ). n ∷ ns) (length-map l f) (map_lengths f ls)

module _ (f : ℕ → ℕ) (mask_keeps : (b : ℕ) → eqb (f b) 10 ≡ eqb b 10) where
  pub lines_recast : (t : List ℕ) → lines (map f t) ≡ map (map f) (lines t)
  unfolding lines onto
  lines_recast [] = refl
  lines_recast (b ∷ t) = rw (mask_keeps b, lines_recast t) (go (eqb b 10) (lines t))
    where
      go : (c : Bool) (ls : List (List ℕ)) → pick c ([] ∷ map (map f) ls) (onto (f b) (map (map f) ls)) ≡ map (map f) (pick c ([] ∷ ls) (onto b ls))
      go true ls = refl
      go false [] = refl
      go false (l ∷ ls) = refl

  pub lengths_recast : (t : List ℕ) → line_lengths (map f t) ≡ line_lengths t
  unfolding line_lengths
  lengths_recast t = rw (lines_recast t) (map_lengths f (lines t))

  pub width_recast : (t : List ℕ) → text_width (map f t) ≡ text_width t
  unfolding text_width
  width_recast t = ap greatest (lengths_recast t)

  pub height_recast : (t : List ℕ) → text_height (map f t) ≡ text_height t
  unfolding text_height
  height_recast t = ap length (lengths_recast t)

  pub leaf_size_recast : (s : Settings) (t : List ℕ) → leaf_size s (map f t) ≡ leaf_size s t
  unfolding leaf_size
  leaf_size_recast s t = rw (width_recast t, height_recast t)

  pub empty_recast : (ts : Trees) → empty? (recast* f ts) ≡ empty? ts
  unfolding empty? recast
  empty_recast none = refl
  empty_recast (more t ts) = refl

  pub count_recast : (ts : Trees) → count (recast* f ts) ≡ count ts
  unfolding count recast
  count_recast none = refl
  count_recast (more t ts) = ap suc (count_recast ts)

  mutual
    unfolding nodes recast

    pub nodes_recast : (t : Tree) → nodes (recast f t) ≡ nodes t
    nodes_recast (cell t) = refl
    nodes_recast (group a ts) = ap suc (nodes*_recast ts)

    pub nodes*_recast : (ts : Trees) → nodes* (recast* f ts) ≡ nodes* ts
    nodes*_recast none = refl
    nodes*_recast (more t ts) = ap₂ (λ (n m : ℕ). n + m) (nodes_recast t) (nodes*_recast ts)

  module _ (s : Settings) where
    mutual
      unfolding natural recast

      pub natural_recast : (t : Tree) → natural s (recast f t) ≡ natural s t
      natural_recast (cell t) = leaf_size_recast s t
      natural_recast (group a ts) = rw (empty_recast ts, naturals_recast ts)

      pub naturals_recast : (ts : Trees) → naturals s (recast* f ts) ≡ naturals s ts
      naturals_recast none = refl
      naturals_recast (more t ts) = ap₂ (λ (z : Size) (zs : List Size). z ∷ zs) (natural_recast t) (naturals_recast ts)

    pub allot_recast : (a : Axis) (spare n i : ℕ) (t : Tree) → allot s a spare n i (recast f t) ≡ allot s a spare n i t
    unfolding allot
    allot_recast a spare n i t = rw (natural_recast t)

    pub spare_recast : (a : Axis) (ts : Trees) (z : Size) → spare_of s a (recast* f ts) z ≡ spare_of s a ts z
    unfolding spare_of
    spare_recast a ts z = rw (naturals_recast ts)

    mutual
      unfolding sizes recast

      pub sizes_recast : (t : Tree) (z : Size) → sizes s (recast f t) z ≡ sizes s t z
      sizes_recast (cell t) = λ z. rw (leaf_size_recast s t)
      sizes_recast (group a ts) = λ z.
          rw (empty_recast ts, naturals_recast ts, count_recast ts)
          (ap (λ (l : List Sizes). record { natural = natural s (group a ts); allotted = z } ∷ l) (sizes*_recast ts a z (spare_of s a ts z) (count ts) 0))

      pub sizes*_recast : (ts : Trees) (a : Axis) (z : Size) (spare n i : ℕ) → sizes* s (recast* f ts) a z spare n i ≡ sizes* s ts a z spare n i
      sizes*_recast none = λ a z spare n i. refl
      sizes*_recast (more t ts) = λ a z spare n i. rw (allot_recast a spare n i t, sizes_recast t, sizes*_recast ts)

    pub tree_sizes_recast : (t : Tree) → tree_sizes s (recast f t) ≡ tree_sizes s t
    unfolding tree_sizes
    tree_sizes_recast t = rw (natural_recast t) (sizes_recast t (natural s t))
