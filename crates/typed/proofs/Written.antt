-- The nodes' bytes as they are written, from the last node to the first.
use mathlib.Core.Path.{◌≡◌, refl, sym, ap, ◌∙◌}
use Prim.Native.Nat.{ℕ, zero, suc, ◌+◌, ◌-◌, ◌≤◌, ◌<◌, ◌/◌, ◌%◌}
use native.Mathlib.Omega.{arith}
use native.Mathlib.Numerals.{add-one}
use mathlib.Core.List.{List, [], ◌∷◌, ◌++◌, map}
use lib.ListN.{length, get_or, take, drop, set, replicate, drop_of_length-le}
use lib.Seq.{sets, drop-cons}
use Rattle.common.proofs.Stores.{sets_append, sets_sets}
use Rattle.tree.specs.Tree.{across, down, none}
use Rattle.typed.specs.Text.{text, typed_text}
use Rattle.typed.specs.Line.{Item, cell, group, own_text}
use Rattle.typed.specs.Scan.{TypedNode, level_under}
use Rattle.typed.specs.Clauses.{item_tag, kind_tag, kind_of, Spotted, no_node, no_spot, total_of, Good, inside_of, flat_of, Starts, Chained, ReadyNodes}
use Rattle.typed.specs.Typed.{trees_at, push}
use Rattle.typed.specs.declared.line.NodeSpot.{NodeSpot}
use Rattle.typed.proofs.Built.{trees_size, sizes_push, size_at, trees_size_low, levels_17, suits}

tag_is : (item : Item) → kind_tag (kind_of item) ≡ item_tag item
tag_is (cell t) = refl
tag_is (group across) = refl
tag_is (group down) = refl

-- an element's front with the text behind it
pub front_text : (o o' : List ℕ) (p tag n : ℕ) (t : List ℕ) → n < 65536 → o' ≡ set (set (set o p tag) (p + 1) (n / 256 % 256)) (p + 2) (n % 256)
    → sets o' (p + 3) t ≡ sets o p (tag ∷ (n / 256) ∷ (n % 256) ∷ t)
front_text o o' p tag n t h q =
    let a : p + 2 ≡ suc (suc p) = omega arith in
    let b : p + 3 ≡ suc (suc (suc p)) = omega arith in
    let c : n / 256 % 256 ≡ n / 256 = omega arith in
    rw (q, a, b, c, add-one p)

-- ---- the nodes from i on are written, from p on

pub record NodesWriting (ns : List TypedNode) (o₀ o sizes : List ℕ) (i p : ℕ) : Type 0 where
  pub within : i ≤ length ns
  pub sizes_are : sizes ≡ map trees_size (trees_at (drop i ns))
  pub place : p + total_of (drop i ns) ≡ total_of ns
  pub out_is : o ≡ sets o₀ p (flat_of (drop i ns))

chained_drop : (ns : List TypedNode) (i : ℕ) → Chained ns → Chained (drop i ns)
unfolding Chained
chained_drop ns zero c = c
chained_drop [] (suc i) c = c
chained_drop (n ∷ ns) (suc i) c = chained_drop ns i c.2

total_drop : (ns : List TypedNode) (i : ℕ) → total_of (drop i ns) ≤ total_of ns
unfolding total_of
total_drop ns zero = omega arith
total_drop [] (suc i) = omega arith
total_drop (n ∷ ns) (suc i) = omega (arith, total_drop ns i)

size_nones : (n : ℕ) → map trees_size (replicate n none) ≡ replicate n 0
size_nones zero = refl
size_nones (suc n) = rw (size_nones n, sym (size_at [] 0))

pub writing_none : (t : List ℕ) (spots : List NodeSpot) (total room : ℕ) (ns : List TypedNode) → ReadyNodes t spots total room ns → (o : List ℕ)
    → NodesWriting ns o o (replicate 17 0) (length spots) total
unfolding trees_at total_of flat_of
writing_none t spots total room ns r o =
    let e : drop (length spots) ns ≡ [] = drop_of_length-le ns {i = length spots} (omega (arith, r.count_is)) in
    record {
      within = omega (arith, r.count_is);
      sizes_are = rw e (sym (size_nones 17));
      place = rw e (omega (arith, r.total_is));
      out_is = rw e refl;
    }

-- the numbers at a node that is next to be written
pub record SpotBounds (s : NodeSpot) (sizes : List ℕ) (p total : ℕ) : Type 0 where
  pub level : s.level < 16
  pub inside : s.len + get_or sizes (s.level + 1) 0 < 65536
  pub grown : get_or sizes s.level 0 + (3 + (s.len + get_or sizes (s.level + 1) 0)) < 131072
  pub before : 3 + s.len ≤ p
  pub within : p ≤ total

module _ (t : List ℕ) (spots : List NodeSpot) (total room : ℕ) (ns : List TypedNode) (r : ReadyNodes t spots total room ns) (o₀ o sizes : List ℕ)
    (i p : ℕ) (w : NodesWriting ns o₀ o sizes i p) (h : 0 < i) where
  abbrev n : TypedNode
  n = get_or ns (i - 1) no_node

  abbrev s : NodeSpot
  s = get_or spots (i - 1) no_spot

  split : drop (i - 1) ns ≡ n ∷ drop i ns
  split =
      let e : suc (i - 1) ≡ i = omega arith in
      drop-cons ns (i - 1) no_node (omega (arith, w.within)) ∙ ap (λ (j : ℕ). n ∷ drop j ns) e

  spotted : Spotted t n s
  spotted = r.held (i - 1) (omega (arith, w.within))

  chain : (n.level < 16) × Starts (level_under n.level n.item) (drop i ns) × Chained (drop i ns)
  unfolding Chained
  chain = rw split at (chained_drop ns (i - 1) r.chained)

  size_below : get_or sizes (s.level + 1) 0 ≡ trees_size (get_or (trees_at (drop i ns)) (suc n.level) none)
  size_below = rw (w.sizes_are, spotted.level_is, add-one n.level) (size_at (trees_at (drop i ns)) (suc n.level))

  -- what is written and what is to be written are the whole
  whole : 3 + length (own_text n.item) + total_of (drop i ns) ≤ total_of ns
  unfolding total_of
  whole = rw split at (total_drop ns (i - 1))

  inside_small : s.len + get_or sizes (s.level + 1) 0 < 65536
  inside_small = omega (arith, size_below, trees_size_low (drop i ns) chain.2 (suc n.level), whole, r.small, r.total_is, spotted.text_at.len_is)

  pub spot_bounds : SpotBounds s sizes p total
  spot_bounds =
      let e : get_or sizes s.level 0 ≡ trees_size (get_or (trees_at (drop i ns)) s.level none) =
      rw w.sizes_are (size_at (trees_at (drop i ns)) s.level) in
      record {
        level = omega (arith, spotted.level_is, chain.0);
        inside = inside_small;
        grown = omega (arith, inside_small, trees_size_low (drop i ns) chain.2 s.level, whole, r.small, r.total_is);
        before = omega (arith, w.place, whole, spotted.text_at.len_is);
        within = omega (arith, w.place, r.total_is);
      }

  module _ (inside : ℕ) (ie : inside ≡ s.len + get_or sizes (s.level + 1) 0) where
    inside_has : inside ≡ inside_of n.item (get_or (trees_at (drop i ns)) (suc n.level) none)
    inside_has = ie ∙ (rw (size_below, spotted.text_at.len_is))

    pub text_good : length o ≡ room → Good (take (s.end - s.start) (drop s.start t)) (p - (3 + s.len) + 3) (length o)
    text_good le = record {
      of = own_text n.item;
      is = spotted.text_at.text_is;
      fits = omega (arith, spot_bounds.before, spotted.text_at.len_is, w.place, r.total_is, r.fits);
    }

    flat_more : flat_of (drop (i - 1) ns) ≡ (kind_tag s.kind ∷ (inside / 256) ∷ (inside % 256) ∷ own_text n.item) ++ flat_of (drop i ns)
    unfolding flat_of
    flat_more = rw (split, inside_has, spotted.text_at.kind_is, tag_is n.item)

    sizes_more : {l : List TypedNode} → l ≡ n ∷ drop i ns → map trees_size (push n.level n.item (trees_at (drop i ns))) ≡ map trees_size (trees_at l)
    unfolding trees_at
    sizes_more e = rw e

    placed_at : {l : List TypedNode} → l ≡ n ∷ drop i ns → p - (3 + s.len) + total_of l ≡ total_of ns
    unfolding total_of
    placed_at e = rw e (omega (arith, spot_bounds.before, w.place, spotted.text_at.len_is))

    pub writing_more : (o' sizes' : List ℕ)
        → ((u : List ℕ) → typed_text (take (s.end - s.start) (drop s.start t)) ≡ text u
        → o' ≡ sets o (p - (3 + s.len)) (kind_tag s.kind ∷ (inside / 256) ∷ (inside % 256) ∷ u))
        → sizes' ≡ set (set sizes s.level (get_or sizes s.level 0 + (3 + inside))) (s.level + 1) 0 → NodesWriting ns o₀ o' sizes' (i - 1) (p - (3 + s.len))
    writing_more o' sizes' oe se =
        let us : List ℕ = kind_tag s.kind ∷ (inside / 256) ∷ (inside % 256) ∷ own_text n.item in
        let at : p - (3 + s.len) + length us ≡ p = omega (arith, spot_bounds.before, spotted.text_at.len_is) in
        let g : get_or sizes s.level 0 + (3 + inside) ≡ get_or sizes s.level 0 + 3 + inside = omega arith in
        record {
          within = omega (arith, w.within);
          sizes_are =
              se
              ∙ ap (λ (m : ℕ). set (set sizes s.level m) (s.level + 1) 0) g
              ∙ (rw (w.sizes_are, spotted.level_is, add-one n.level, inside_has))
              ∙ sym (sizes_push n.level n.item (trees_at (drop i ns)) (omega (arith, chain.0, levels_17 (drop i ns) chain.2))
              (suits n.level n.item (drop i ns) chain.2 chain.1))
              ∙ sizes_more split;
          place = placed_at split;
          out_is =
              oe (own_text n.item) spotted.text_at.text_is
              ∙ ap (λ (y : List ℕ). sets y (p - (3 + s.len)) us) w.out_is
              ∙ sets_sets us (flat_of (drop i ns)) o₀ (p - (3 + s.len)) p (omega arith)
              ∙ ap (λ (m : ℕ). sets (sets o₀ (p - (3 + s.len)) us) m (flat_of (drop i ns))) (sym at)
              ∙ sym (sets_append us (flat_of (drop i ns)) o₀ (p - (3 + s.len)))
              ∙ ap (λ (y : List ℕ). sets o₀ (p - (3 + s.len)) y) (sym flat_more);
        }

pub writing_all : (ns : List TypedNode) (o₀ o sizes : List ℕ) (i p : ℕ) → NodesWriting ns o₀ o sizes i p → i ≤ 0 → o ≡ sets o₀ 0 (flat_of ns)
writing_all ns o₀ o sizes i p w h =
    let e : i ≡ 0 = omega arith in
    let q : p + total_of ns ≡ total_of ns = rw e at w.place in
    let z : p ≡ 0 = omega arith in
    rw (e, z) at w.out_is
