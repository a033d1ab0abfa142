-- `leaf_pair`, `root_pair`: the pair in a leaf's context is that of the cut which its own parent made for it (document 02, request 4).
use mathlib.Core.Path.{◌≡◌, refl, sym, ap, subst, ◌∙◌}
use Prim.Native.Nat.{ℕ, zero, suc, ◌+◌}
use native.Mathlib.Omega.{arith}
use mathlib.Core.Bool.{Bool, false}
use mathlib.Core.Option.{some}
use mathlib.Core.List.{List, [], map}
use lib.Dec.{eqb}
use lib.ListN.{length, get_elem?, take, length-append}
use Rattle.settings.specs.declared.Settings.{Settings}
use Rattle.tree.specs.Tree.{Axis, across, down, Tree, cell, group, Trees, none, more, empty?, count, nodes, nodes*}
use Rattle.splits.specs.Splits.{Cut, short_splits3, pair_of, no_pair}
use Rattle.sizes.specs.Sizes.{along, sep, allot, spare_of, child_size, Sizes, sizes, sizes*, tree_sizes}
use Rattle.common.proofs.Elems.{elem_none, elem_same, elem_first, elem_cases, entry_at}
use Rattle.sizes.proofs.Fill.{along_sized}
use Rattle.sizes.proofs.Nodes.{subtrees, subtrees*, subtrees_length, child_nodes, RecordsFrom, part_whole, part_tail, part_own, child_part, rest_part}
use Rattle.common.specs.Every.{Every}
use Rattle.common.proofs.Every.{every_append, every_elem}
use Rattle.layout.specs.Walk.{Context, Placed, child, leaf_walked, along_list, beside_list, walk, children, root, leaves}
use Rattle.layout.specs.Promises.{contexts, contexts*, context_at, left_after, LeafAt, extent_in}
use Rattle.layout.proofs.Laid.{child_size_lem, join_leaves}
use Rattle.layout.proofs.Numbered.{child_node, none_leaves}
use Rattle.layout.proofs.Sublists.{Stand, stand_first, stand_rest, stand_front, stand_back, stand_whole}

-- ---- the contexts of a tree's nodes

mutual
  unfolding contexts nodes

  contexts_length : (s : Settings) (t : Tree) (c : Context) → length (contexts s t c) ≡ nodes t
  contexts_length s (cell t) c = refl
  contexts_length s (group a ts) c = ap suc (contexts*_length s ts a c _ _ _ _ _ _ _ _)

  contexts*_length : (s : Settings) (ts : Trees) (a : Axis) (c : Context) (spare n i : ℕ) (old : Bool) (node offset : ℕ) (cut handed : List ℕ)
      → length (contexts* s ts a c spare n i old node offset cut handed) ≡ nodes* ts
  contexts*_length s none a c spare n i old node offset cut handed = refl
  contexts*_length s (more t ts) a c spare n i old node offset cut handed =
      let e = allot s a spare n i t in
      let k = short_splits3 cut e in
      let d = child a c (eqb i 0) (eqb (suc i) n) old node offset e k handed in
      let w = walk s t d in
      rw length-append
      (omega (
        arith,
        contexts_length s t d,
        contexts*_length s ts a c spare n (suc i) k.split (node + nodes t) (offset + e + sep s) k.left (beside_list a w.horizontal w.vertical),
      ))

contexts_first : (s : Settings) (t : Tree) (c : Context) → get_elem? (contexts s t c) 0 ≡ some c
unfolding contexts
contexts_first s (cell t) c = refl
contexts_first s (group a ts) c = refl

stand_own : (s : Settings) {cs : List Context} {n : ℕ} (t : Tree) (c : Context) → Stand cs n (contexts s t c) → get_elem? cs n ≡ some c
stand_own s {n = n} t c h = let e : n + 0 ≡ n = omega arith in rw e at (h.is 0 c (contexts_first s t c))

-- the pair of a child's context is its cut's
child_pair : (a : Axis) (c : Context) (first last old : Bool) (node offset e : ℕ) (k : Cut) (handed : List ℕ)
    → (child a c first last old node offset e k handed).pair ≡ pair_of k
unfolding child
child_pair across c f l o n off e k hd = refl
child_pair down c f l o n off e k hd = refl

-- ---- a group's children

module _ (s : Settings) (zs : List Sizes) (cs : List Context) where
  -- node m has the pair of a cut of l at its extent
  record CutOff (a : Axis) (m : ℕ) (l : List ℕ) : Type 0 where
    context : Context
    there : get_elem? cs m ≡ some context
    pair : context.pair ≡ pair_of (short_splits3 l (extent_in zs a m))

  module _ (a : Axis) (c : Context) (spare n i : ℕ) (old : Bool) (node offset : ℕ) (cut handed : List ℕ) (t : Tree) (ts : Trees) where
    abbrev first_extent : ℕ
    first_extent = allot s a spare n i t

    abbrev first_cut : Cut
    first_cut = short_splits3 cut first_extent

    abbrev first_child : Context
    first_child = child a c (eqb i 0) (eqb (suc i) n) old node offset first_extent first_cut handed

    abbrev next_handed : List ℕ
    next_handed = beside_list a (walk s t first_child).horizontal (walk s t first_child).vertical

    module _ (h : Stand cs node (contexts* s (more t ts) a c spare n i old node offset cut handed)) where
      stand_child : Stand cs node (contexts s t first_child)
      unfolding contexts
      stand_child = stand_front _ _ h

      stand_others : Stand cs (node
          + nodes t) (contexts* s ts a c spare n (suc i) first_cut.split (node + nodes t) (offset + first_extent + sep s) first_cut.left next_handed)
      unfolding contexts
      stand_others = stand_back (contexts s t first_child) _ (nodes t) (contexts_length s t _) h

    first_extent_is : RecordsFrom zs node (sizes* s (more t ts) a c.size spare n i) → extent_in zs a node ≡ first_extent
    unfolding child_size
    first_extent_is p = ap (λ (x : Sizes). along a x.allotted) (part_own s t _ (child_part s a c.size spare n i t ts p)).is
        ∙ along_sized a first_extent _

  children_cut : (ts : Trees) (a : Axis) (c : Context) (spare n i : ℕ) (old : Bool) (node offset : ℕ) (cut handed : List ℕ)
      → Stand cs node (contexts* s ts a c spare n i old node offset cut handed) → RecordsFrom zs node (sizes* s ts a c.size spare n i)
      → (j m : ℕ) → get_elem? (child_nodes node ts) j ≡ some m → CutOff a m (left_after cut (map (extent_in zs a) (take j (child_nodes node ts))))
  unfolding child_nodes left_after
  children_cut none a c spare n i old node offset cut handed h p j m d = elem_none j m d
  children_cut (more t ts) a c spare n i old node offset cut handed h p zero m d =
      let e : node ≡ m = cc in
      rw (← e)
      (record {
        context = first_child a c spare n i old node offset cut handed t ts;
        there = stand_own s t _ (stand_child a c spare n i old node offset cut handed t ts h);
        pair = rw (first_extent_is a c spare n i old node offset cut handed t ts p) (child_pair a c _ _ _ _ _ _ _ _);
      })
  children_cut (more t ts) a c spare n i old node offset cut handed h p (suc j) m d =
      rw (first_extent_is a c spare n i old node offset cut handed t ts p)
      (children_cut ts a c spare n (suc i) _ (node + nodes t) _ _ _ (stand_others a c spare n i old node offset cut handed t ts h)
      (rest_part s a c.size spare n i t ts p) j m d)

  -- node n is a group of the trees ts along the axis a: its context, and the cut of each child
  record GroupCuts (n : ℕ) (a : Axis) (ts : Trees) : Type 0 where
    context : Context
    own : get_elem? cs n ≡ some context
    each : (i m : ℕ) → get_elem? (child_nodes (suc n) ts) i ≡ some m
        → CutOff a m (left_after (along_list a context.horizontal context.vertical) (map (extent_in zs a) (take i (child_nodes (suc n) ts))))

  here : (b : Axis) (us : Trees) (c : Context) → Stand cs c.node (contexts s (group b us) c) → RecordsFrom zs c.node (sizes s (group b us) c.size)
      → (k : ℕ) (a : Axis) (ts : Trees) → k ≡ 0 → group b us ≡ group a ts → GroupCuts (c.node + k) a ts
  unfolding contexts sizes
  here b us c h p k a ts z e =
      let x : b ≡ a = cc in
      let y : us ≡ ts = cc in
      let m : c.node + k ≡ c.node = omega arith in
      rw (m, ← x, ← y) (record
      { context = c; own = stand_first h; each = children_cut us b c _ _ 0 false (suc c.node) 0 _ _ (stand_rest h) (part_tail _ _ p) })

  mutual
    unfolding contexts sizes subtrees

    group_cuts : (t : Tree) (c : Context) → Stand cs c.node (contexts s t c) → RecordsFrom zs c.node (sizes s t c.size)
        → (k : ℕ) (a : Axis) (ts : Trees) → get_elem? (subtrees t) k ≡ some (group a ts) → GroupCuts (c.node + k) a ts
    group_cuts (cell t) c h p k a ts e = elem_first (cell t) [] k _ e (λ d x. absurd (let z : ◌≡◌ {A = ℕ} 0 1 = cc in omega arith)) (λ j d x. elem_none j _ x)
    group_cuts (group b us) c h p k a ts e =
        elem_first (group b us) (subtrees* us) k _ e
        (λ d x. here b us c h p k a ts d x)
        (λ j d x. let m : c.node + k ≡ suc c.node + j = omega arith in
        rw m (group_cuts* us b c _ _ 0 false (suc c.node) 0 _ _ (stand_rest h) (part_tail _ _ p) j a ts x))

    group_cuts* : (us : Trees) (b : Axis) (c : Context) (spare n i : ℕ) (old : Bool) (node offset : ℕ) (cut handed : List ℕ)
        → Stand cs node (contexts* s us b c spare n i old node offset cut handed) → RecordsFrom zs node (sizes* s us b c.size spare n i)
        → (k : ℕ) (a : Axis) (ts : Trees) → get_elem? (subtrees* us) k ≡ some (group a ts) → GroupCuts (node + k) a ts
    group_cuts* none b c spare n i old node offset cut handed h p k a ts e = elem_none k _ e
    group_cuts* (more t us) b c spare n i old node offset cut handed h p k a ts e =
        let kid = first_child b c spare n i old node offset cut handed t us in
        let at : kid.node ≡ node = child_node b c _ _ _ node _ _ _ _ in
        elem_cases (subtrees t) (subtrees* us) k (group a ts) e
        (λ d. rw at at
        (group_cuts t kid (rw at (stand_child b c spare n i old node offset cut handed t us h))
        (rw (at, child_size_lem b c _ _ _ _ _ _ _ _) (child_part s b c.size spare n i t us p)) k a ts d))
        (λ j d x. let m : node + k ≡ node + nodes t + j = omega (arith, d, subtrees_length t) in
        rw m (group_cuts* us b c spare n (suc i) _ (node + nodes t) _ _ _ (stand_others b c spare n i old node offset cut handed t us h)
        (rest_part s b c.size spare n i t us p) j a ts x))

  -- ---- the leaves

  -- the leaf is walked with its node's context
  abbrev AtContext : Placed → Type 0
  AtContext f = get_elem? cs f.at.node ≡ some f.at

  whole : (ts : Trees) (a : Axis) (c : Context) → Stand cs c.node (contexts s (group a ts) c)
      → Every AtContext (children s ts a c (spare_of s a ts c.size) (count ts) 0 false (suc c.node) 0 (along_list a c.horizontal c.vertical)
      (beside_list a c.horizontal c.vertical)).leaves
      → Every AtContext (walk s (group a ts) c).leaves
  unfolding walk empty? leaf_walked contexts
  whole none a c h q = (stand_first h, tt)
  whole (more t ts) a c h q = q

  mutual
    unfolding walk leaf_walked contexts

    at_context : (t : Tree) (c : Context) → Stand cs c.node (contexts s t c) → Every AtContext (walk s t c).leaves
    at_context (cell t) c h = (stand_first h, tt)
    at_context (group a ts) c h = whole ts a c h (at_context* ts a c _ _ 0 false (suc c.node) 0 _ _ (stand_rest h))

    at_context* : (ts : Trees) (a : Axis) (c : Context) (spare n i : ℕ) (old : Bool) (node offset : ℕ) (cut handed : List ℕ)
        → Stand cs node (contexts* s ts a c spare n i old node offset cut handed)
        → Every AtContext (children s ts a c spare n i old node offset cut handed).leaves
    at_context* none a c spare n i old node offset cut handed h = rw none_leaves tt
    at_context* (more t ts) a c spare n i old node offset cut handed h =
        let kid = first_child a c spare n i old node offset cut handed t ts in
        let at : kid.node ≡ node = child_node a c _ _ _ node _ _ _ _ in
        let w = walk s t kid in
        let k = first_cut a c spare n i old node offset cut handed t ts in
        let r = children s ts a c spare n (suc i) k.split (node + nodes t) (offset + first_extent a c spare n i old node offset cut handed t ts + sep s)
        k.left (beside_list a w.horizontal w.vertical) in
        rw (join_leaves a w r)
        (every_append AtContext w.leaves r.leaves
        (at_context t kid (rw at (stand_child a c spare n i old node offset cut handed t ts h)))
        (at_context* ts a c spare n (suc i) _ (node + nodes t) _ _ _ (stand_others a c spare n i old node offset cut handed t ts h)))

-- ---- the laws

module _ (s : Settings) (t : Tree) {m : ℕ} {f : Placed} (p : LeafAt s t m f) where
  leaf_there : get_elem? (contexts s t (root s t)) m ≡ some f.at
  unfolding leaves root
  leaf_there =
      let cs = contexts s t (root s t) in
      subst (λ k. get_elem? cs k ≡ some f.at) p.number
      (every_elem _ (leaves s t) p.index f (at_context s (tree_sizes s t) cs t (root s t) (stand_whole cs)) p.stands)

  -- a leaf gets what its node gets
  pub leaf_context : f.at ≡ context_at s t m
  unfolding context_at
  leaf_context = sym (entry_at (contexts s t (root s t)) m f.at (root s t) leaf_there)

  -- "each leaf record holds the pair from its own cut": a leaf that is child i of a group has the pair of `short_splits3` of the list that was left before it,
  -- at its extent. The list is the one that the group, node n, got along its axis; the children before the leaf have cut it at their extents.
  pub leaf_pair : (n : ℕ) (a : Axis) (ts : Trees) → get_elem? (subtrees t) n ≡ some (group a ts) → (i : ℕ) → get_elem? (child_nodes (suc n) ts) i ≡ some m
      → let extent = extent_in (tree_sizes s t) a in
      let handed = along_list a (context_at s t n).horizontal (context_at s t n).vertical in
      f.at.pair ≡ pair_of (short_splits3 (left_after handed (map extent (take i (child_nodes (suc n) ts)))) (extent m))
  unfolding context_at tree_sizes root
  leaf_pair n a ts e i d =
      let cs = contexts s t (root s t) in
      let z : 0 + n ≡ n = omega arith in
      let g : GroupCuts s (tree_sizes s t) cs n a ts = rw z at (group_cuts s (tree_sizes s t) cs t (root s t) (stand_whole cs) (part_whole _) n a ts e) in
      let k = g.each i m d in
      let is : f.at ≡ k.context = elem_same cs leaf_there k.there refl in
      rw (is, entry_at cs n _ (root s t) g.own) k.pair

-- "zeros for the root"
pub root_pair : (s : Settings) (t : Tree) {f : Placed} → LeafAt s t 0 f → f.at.pair ≡ no_pair
unfolding context_at root
root_pair s t {f} p =
    ap (λ (c : Context). c.pair) (leaf_context s t p ∙ entry_at (contexts s t (root s t)) 0 (root s t) (root s t) (contexts_first s t (root s t)))
