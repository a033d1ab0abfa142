-- The sizes of a whole tree in the list.
use mathlib.Core.Path.{◌≡◌, refl, ap, subst, ◌∙◌}
use Prim.Native.Nat.{ℕ, suc, ◌+◌, ◌*◌, ◌≤◌}
use native.Mathlib.Nat.{le_refl}
use native.Mathlib.Omega.{arith}
use mathlib.Core.List.{List, ◌∷◌, map, map-append, append-nil}
use lib.ListN.{length, drop_of_length-le}
use lib.Seq.{sets}
use Rattle.settings.specs.declared.Settings.{Settings}
use Rattle.tree.specs.Tree.{Axis, Tree, cell, group, Trees, none, more, count, nodes}
use Rattle.sizes.specs.declared.Size.{Size}
use Rattle.sizes.specs.declared.natural.Node.{Node}
use Rattle.sizes.specs.Sizes.{natural, allot, spare_of, child_size, sizes, sizes*, tree_sizes}
use Rattle.sizes.specs.Listed.{flat}
use Rattle.sizes.specs.Clauses.{put_sizes, Holds, ReadyRoot, ReadyTree, Collects, Allots, Measures, natural_sizes, natural_sizes*, allotted_size, natural_at}
use Rattle.sizes.specs.Clauses.{Here, Allotted, AllottedIn, natural_size}
use Rattle.sizes.proofs.Fill.{fits_refl}
use Rattle.sizes.proofs.Within.{sizes_length, tree_sizes_length}
use Rattle.sizes.proofs.Naturals.{natural_sizes_length}
use Rattle.common.proofs.Stores.{sets_front}
use Rattle.sizes.proofs.Numbers.{flat_length}
use Rattle.sizes.proofs.Pairs.{both_stored}
use Rattle.sizes.proofs.SizeLists.{each_front, each_back, puts_length, stored_holds, HoldsAll, stored_all}
use Rattle.sizes.proofs.Allotted.{holds_first, Kid}

-- ---- the natural sizes among all sizes

module _ (S : Settings) where
  mutual
    unfolding sizes natural_sizes

    pub sizes_natural : (t : Tree) (z : Size) → map natural_size (sizes S t z) ≡ natural_sizes S t
    sizes_natural (cell t) z = refl
    sizes_natural (group a ts) z = ap (λ (l : List Size). natural S (group a ts) ∷ l) (sizes*_natural ts a z (spare_of S a ts z) (count ts) 0)

    sizes*_natural : (ts : Trees) (a : Axis) (z : Size) (spare n i : ℕ) → map natural_size (sizes* S ts a z spare n i) ≡ natural_sizes* S ts
    sizes*_natural none a z spare n i = refl
    sizes*_natural (more t ts) a z spare n i =
        rw (
          map-append natural_size (sizes S t (child_size a z (allot S a spare n i t))) (sizes* S ts a z spare n (suc i)),
          sizes_natural t (child_size a z (allot S a spare n i t)),
          sizes*_natural ts a z spare n (suc i),
        )

-- ---- collected, then allotted

abbrev pub allot_ready : (S : Settings) (b : List ℕ) (q : ReadyRoot S b) (r : Node) (l₀ l : List ℕ) → Collects S q.tree 0 r l₀ l → ReadyTree S b l
allot_ready S b q r l₀ l k = record { tree = q.tree; is = q.is; few = q.few; small = q.small; old = l₀; list = k.list }

held : (xs : List Size) (l₀ l : List ℕ) → l ≡ put_sizes l₀ 0 xs → length l ≡ 2048 → length xs ≤ 512 → Holds xs 0 l
held xs l₀ l e h f = let n = ap length e in let m = puts_length xs l₀ 0 in rw e (stored_holds xs l₀ 0 (omega arith))

module _ (S : Settings) (b l : List ℕ) (q : ReadyTree S b l) (long : length l ≡ 2048) (z : Size) (ze : z ≡ natural_at l 0) where
  abbrev T : Tree
  T = q.tree

  holds : Holds (natural_sizes S T) 0 l
  holds = held (natural_sizes S T) q.old l q.list long (omega (arith, natural_sizes_length S T, q.few))

  size_is : z ≡ natural S T
  size_is = ze ∙ holds_first S T 0 l holds

  pub root_kid : Kid S b 0 z l
  root_kid = record { tree = T; is = q.is; holds = holds; fits = rw size_is (fits_refl _); small = rw size_is q.small; room = omega (arith, q.few) }

  pub root_gives : (n : ℕ) (l₁ : List ℕ) → Allots S root_kid.tree 0 z n l l₁ → Measures S T n q.old l₁
  unfolding root_kid tree_sizes
  root_gives n l₁ a =
      let y = natural S T in
      let e : l₁ ≡ put_sizes l 2 (map allotted_size (sizes S T y)) = a.list ∙ ap (λ (y : Size). put_sizes l 2 (map allotted_size (sizes S T y))) size_is in
      let d : l ≡ put_sizes q.old 0 (map natural_size (sizes S T y)) = q.list ∙ rw (sizes_natural S T y) in
      record {
        count = omega (arith, a.next);
        list = e ∙ ap (λ (k : List ℕ). put_sizes k 2 (map allotted_size (sizes S T y))) d
            ∙ both_stored (sizes S T y) q.old 0;
      }

-- ---- the list as the walks over it read it

module _ (S : Settings) (l : List ℕ) where
  mutual
    unfolding sizes Allotted

    allotted_in : (t : Tree) (z : Size) (node : ℕ) → HoldsAll (sizes S t z) node l → Allotted S t z node l
    allotted_in (cell t) z node h = h.0
    allotted_in (group a ts) z node h = (h.0, allotted*_in ts a z (spare_of S a ts z) (count ts) 0 (suc node) h.1)

    allotted*_in : (ts : Trees) (a : Axis) (z : Size) (spare n i node : ℕ) → HoldsAll (sizes* S ts a z spare n i) node l → AllottedIn S ts a z spare n i node l
    allotted*_in none a z spare n i node h = tt
    allotted*_in (more t ts) a z spare n i node h =
        let y = child_size a z (allot S a spare n i t) in
        let us = sizes* S ts a z spare n (suc i) in (
          allotted_in t y node (each_front _ (sizes S t y) us node h),
          allotted*_in ts a z spare n (suc i) (node + nodes t) (each_back _ (sizes S t y) us node (nodes t) (sizes_length S t y) h),
        )

-- after `measure_tree` the list holds the sizes of the tree's nodes
pub sizes_listed : (s : Settings) (t : Tree) (l : List ℕ) → 4 * nodes t ≤ length l → Allotted s t (natural s t) 0 (sets l 0 (flat (tree_sizes s t)))
unfolding tree_sizes
sizes_listed s t l h = allotted_in s (sets l 0 (flat (tree_sizes s t))) t (natural s t) 0
    (stored_all (tree_sizes s t) l 0 (omega (arith, tree_sizes_length s t)))

-- and so does the list of the numbers alone
pub flat_listed : (s : Settings) (t : Tree) → Allotted s t (natural s t) 0 (flat (tree_sizes s t))
flat_listed s t =
    let zs = flat (tree_sizes s t) in
    let n : length zs ≡ 4 * length (tree_sizes s t) = flat_length (tree_sizes s t) in
    let e : sets zs 0 zs ≡ zs = sets_front zs zs (le_refl _) ∙ rw (drop_of_length-le zs {i = length zs} (le_refl _)) (append-nil zs) in
    subst (λ (l : List ℕ). Allotted s t (natural s t) 0 l) e (sizes_listed s t zs (omega (arith, tree_sizes_length s t)))

pub here_of : (s : Settings) (t : Tree) (z : Size) (node : ℕ) (l : List ℕ) → Allotted s t z node l → Here (natural s t) z node l
unfolding Allotted
here_of s (cell t) z node l k = k
here_of s (group a ts) z node l k = k.0
