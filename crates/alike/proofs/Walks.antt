-- The walk over a tree whose texts are replaced byte for byte: the same places, sizes, flags and split lists.
use mathlib.Core.Path.{◌≡◌, refl, sym, ap₂, ◌∙◌}
use Prim.Native.Nat.{ℕ, suc, ◌+◌}
use mathlib.Core.Bool.{Bool, true, false}
use mathlib.Core.List.{List, [], ◌++◌, map, map-append}
use lib.Dec.{eqb}
use Rattle.common.specs.Choice.{pick}
use Rattle.settings.specs.declared.Settings.{Settings}
use Rattle.tree.specs.Tree.{Axis, across, down, Tree, Trees, cell, group, none, more, empty?, count, nodes}
use Rattle.splits.specs.Splits.{short_splits3}
use Rattle.sizes.specs.Sizes.{sep, allot, spare_of}
use Rattle.layout.specs.Walk.{Context, Placed, leaf_of, Walked, along_list, beside_list, leaf_walked, child, lay, join_walked, none_walked, walk, children}
use Rattle.layout.specs.Walk.{root}
use Rattle.layout.specs.Walk.{leaves}
use Rattle.blank.specs.Alike.{recast, recast*}
use Rattle.alike.proofs.ReplacedBytes.{empty_recast, count_recast, nodes_recast, allot_recast, spare_recast, natural_recast}
use Rattle.alike.proofs.RelatedBytes.{Rows, rows_append, rows_paired}
use Rattle.alike.proofs.RelatedBytes as over
use Rattle.alike.proofs.Blocks.{Surround, block_recast}

-- a placed leaf with its text replaced
abbrev pub placed : (ℕ → ℕ) → Placed → Placed
placed f l = record { text = map f l.text; at = l.at }

pub record Cast (f : ℕ → ℕ) (R : ℕ → ℕ → Type 0) (w v : Walked) : Type 0 where
  pub leaves : w.leaves ≡ map (placed f) v.leaves
  pub content : Rows R w.content v.content
  pub horizontal : w.horizontal ≡ v.horizontal
  pub vertical : w.vertical ≡ v.vertical

module _ (f : ℕ → ℕ) (mask_keeps : (b : ℕ) → eqb (f b) 10 ≡ eqb b 10) (R : ℕ → ℕ → Type 0) (s : Settings) (p : Surround R s) (own : (b : ℕ) → R (f b) b) where
  leaf_cast : (t : List ℕ) (c : Context) → Cast f R (leaf_walked s (map f t) c) (leaf_walked s t c)
  unfolding leaf_walked
  leaf_cast t c = record {
    leaves = refl;
    content = block_recast f mask_keeps R s p own (leaf_of (record { text = t; at = c }));
    horizontal = refl;
    vertical = refl;
  }

  join_cast : (a : Axis) (w v r q : Walked) → Cast f R w v → Cast f R r q → Cast f R (join_walked a w r) (join_walked a v q)
  unfolding join_walked lay
  join_cast across w v r q k m = record {
    leaves = ap₂ (λ (x y : List Placed). x ++ y) k.leaves m.leaves ∙ sym (map-append (placed f) v.leaves q.leaves);
    content = rows_paired k.content m.content;
    horizontal = ap₂ (λ (x y : List ℕ). x ++ y) k.horizontal m.horizontal;
    vertical = m.vertical;
  }
  join_cast down w v r q k m = record {
    leaves = ap₂ (λ (x y : List Placed). x ++ y) k.leaves m.leaves ∙ sym (map-append (placed f) v.leaves q.leaves);
    content = rows_append k.content m.content;
    horizontal = m.horizontal;
    vertical = ap₂ (λ (x y : List ℕ). x ++ y) k.vertical m.vertical;
  }

  none_cast : (a : Axis) (handed : List ℕ) → Cast f R (none_walked a handed) (none_walked a handed)
  unfolding none_walked
  none_cast across handed = record { leaves = refl; content = over.none; horizontal = refl; vertical = refl }
  none_cast down handed = record { leaves = refl; content = over.none; horizontal = refl; vertical = refl }

  beside_cast : (a : Axis) (w v : Walked) → Cast f R w v → beside_list a w.horizontal w.vertical ≡ beside_list a v.horizontal v.vertical
  unfolding beside_list
  beside_cast across w v k = k.vertical
  beside_cast down w v k = k.horizontal

  -- a child, and the children after it with the list that it passes on
  step_cast : (a : Axis) (w v : Walked) (r q : List ℕ → Walked) → Cast f R w v → ((x : List ℕ) → Cast f R (r x) (q x))
      → Cast f R (join_walked a w (r (beside_list a w.horizontal w.vertical))) (join_walked a v (q (beside_list a v.horizontal v.vertical)))
  step_cast a w v r q k m =
      rw (beside_cast a w v k)
      (join_cast a w v (r (beside_list a v.horizontal v.vertical)) (q (beside_list a v.horizontal v.vertical)) k
      (m (beside_list a v.horizontal v.vertical)))

  picked_cast : (b : Bool) (w v r q : Walked) → Cast f R w v → Cast f R r q → Cast f R (pick b w r) (pick b v q)
  picked_cast true w v r q k m = k
  picked_cast false w v r q k m = m

  mutual
    unfolding walk recast

    pub walk_cast : (t : Tree) (c : Context) → Cast f R (walk s (recast f t) c) (walk s t c)
    walk_cast (cell t) = λ c. leaf_cast t c
    walk_cast (group a ts) = λ c.
        rw (empty_recast f mask_keeps ts, spare_recast f mask_keeps s a ts c.size, count_recast f mask_keeps ts)
        (picked_cast (empty? ts) _ _ _ _ (leaf_cast [] c)
        (children_cast ts a c (spare_of s a ts c.size) (count ts) 0 false (suc c.node) 0 (along_list a c.horizontal c.vertical)
        (beside_list a c.horizontal c.vertical)))

    pub children_cast : (ts : Trees) (a : Axis) (c : Context) (spare n i : ℕ) (old : Bool) (node offset : ℕ) (cut handed : List ℕ)
        → Cast f R (children s (recast* f ts) a c spare n i old node offset cut handed) (children s ts a c spare n i old node offset cut handed)
    children_cast none = λ a c spare n i old node offset cut handed. none_cast a handed
    children_cast (more t ts) = λ a c spare n i old node offset cut handed.
        let extent = allot s a spare n i t in
        let k = short_splits3 cut extent in
        let d = child a c (eqb i 0) (eqb (suc i) n) old node offset extent k handed in
        rw (allot_recast f mask_keeps s a spare n i t, nodes_recast f mask_keeps t)
        (step_cast a (walk s (recast f t) d) (walk s t d)
        (λ x. children s (recast* f ts) a c spare n (suc i) k.split (node + nodes t) (offset + extent + sep s) k.left x)
        (λ x. children s ts a c spare n (suc i) k.split (node + nodes t) (offset + extent + sep s) k.left x)
        (walk_cast t d) (λ x. children_cast ts a c spare n (suc i) k.split (node + nodes t) (offset + extent + sep s) k.left x))

  pub root_cast : (t : Tree) → root s (recast f t) ≡ root s t
  unfolding root
  root_cast t = rw (natural_recast f mask_keeps s t)

  pub sheet_cast : (t : Tree) → Cast f R (walk s (recast f t) (root s (recast f t))) (walk s t (root s t))
  sheet_cast t = rw (root_cast t) (walk_cast t (root s t))

  pub leaves_cast : (t : Tree) → leaves s (recast f t) ≡ map (placed f) (leaves s t)
  unfolding leaves
  leaves_cast t = (sheet_cast t).leaves
