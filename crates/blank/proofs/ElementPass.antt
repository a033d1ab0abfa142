-- One pass over the elements of an accepted tree: how far it is, and what find_cells and put_elements have yet to store.
use mathlib.Core.Path.{◌≡◌, refl, sym, ap, ◌∙◌}
use Prim.Native.Nat.{ℕ, zero, suc, ◌+◌, ◌-◌, ◌≤◌, ◌<◌, ◌/◌, ◌%◌}
use native.Mathlib.Omega.{arith}
use native.Mathlib.Numerals.{add-one}
use native.Mathlib.Nat.{add-sub_cancel_left}
use mathlib.Core.Bool.{Bool, true, false}
use mathlib.Core.List.{List, [], ◌∷◌, map, append-nil}
use lib.ListN.{length, get_or, set, take, drop, replicate, length-append, length-drop, length-map}
use lib.Seq.{sets, drop-drop, length-take-le}
use lib.Dec.{eqb}
use Rattle.std.proofs.lemmas.List.{map-set}
use borrow.Author.Rules.{part_to_end}
use Rattle.common.specs.Choice.{pick}
use Rattle.tree.specs.Tree.{Tree, Trees, cell, group, none, more, nodes, nodes*}
use Rattle.tree.specs.Bytes.{length_at}
use Rattle.tree.specs.Promises.{Encodes, EncodesAll}
use Rattle.tree.specs.Accepted.{bytes_of, bytes_of*}
use Rattle.tree.proofs.Passing.{Passing, begin, Some, turn, over}
use Rattle.common.proofs.Stores.{sets_append}
use Rattle.common.proofs.Padded.{sets_padded}
use Rattle.blank.specs.Blank.{blanked, blanked*, shown_byte, cell_flags, cell_flags*}
use Rattle.blank.specs.Clauses.{is_set, cell_marks, text_at, is_dotted, ReadElements}
use Rattle.blank.proofs.Flat.{joined, inside_tree, front_in, after_are, after_nodes, after_flags, after_bytes}

mutual
  unfolding cell_flags nodes

  pub flags_length : (t : Tree) → length (cell_flags t) ≡ nodes t
  flags_length (cell x) = refl
  flags_length (group a ts) = ap suc (flags*_length ts)

  flags*_length : (ts : Trees) → length (cell_flags* ts) ≡ nodes* ts
  flags*_length none = refl
  flags*_length (more t ts) = rw length-append (omega (arith, flags_length t, flags*_length ts))

-- the bytes from `at` on, as the code takes them
abbrev pub part : List ℕ → ℕ → List ℕ
part s at = take (length s - at) (drop at s)

-- a list is mapped as it is stored to
map-sets : {X Y : Type 0} (f : X → Y) (vs l : List X) (i : ℕ) → map f (sets l i vs) ≡ sets (map f l) i (map f vs)
map-sets f [] l i = refl
map-sets f (v ∷ vs) l i = map-sets f vs (set l i v) (suc i) ∙ ap (λ (m : List _). sets m (suc i) (map f vs)) (map-set f l i v)

map-replicate : {X Y : Type 0} (f : X → Y) (n : ℕ) (x : X) → map f (replicate n x) ≡ replicate n (f x)
map-replicate f zero x = refl
map-replicate f (suc n) x = ap (λ (l : List _). f x ∷ l) (map-replicate f n x)

set_is : (c : Bool) → is_set (pick c 1 0) ≡ c
set_is true = refl
set_is false = refl

high_byte : (n : ℕ) → n < 65536 → n / 256 % 256 ≡ n / 256
high_byte n h = omega arith

module _ (s : List ℕ) (q : ReadElements s) where
  -- at byte `at` is the element of that node, the first of those still to come
  pub record Sweep (at node : ℕ) (rest : Trees) : Type 0 where
    pub passing : Passing s at rest
    pub left : node + nodes* rest ≡ nodes q.tree

  all_are : EncodesAll (more q.tree none) s
  unfolding Encodes
  all_are = (q.is, rw (length-drop (3 + length_at s) s) (omega (arith, q.ends)))

  sweep_begins : Sweep 0 0 (more q.tree none)
  unfolding nodes
  sweep_begins = record { passing = begin s (more q.tree none) all_are; left = omega arith }

  -- ---- one element, at the front of the bytes p

  module _ (at node : ℕ) (t : Tree) (ts : Trees) (l : Sweep at node (more t ts)) (p : List ℕ) (pe : p ≡ drop at s) where
    here : EncodesAll (more t ts) p
    here = rw pe l.passing.are

    pub element_in : (3 + text_at p ≤ length p) × (at + (3 + text_at p) ≤ length s) × (node < 512)
    element_in =
        let f = front_in t ts p here in
        let n : length p ≡ length s - at = ap length pe ∙ length-drop at s in
        (f, omega (arith, l.passing.within), omega (arith, l.left, after_nodes t ts p here, q.few))

    sweep_on : Sweep (at + (3 + text_at p)) (node + 1) (joined (inside_tree t) ts)
    sweep_on =
        let a : EncodesAll (joined (inside_tree t) ts) (drop (3 + text_at p) (drop at s)) = rw (← pe) (after_are t ts p here) in
        record {
          passing = record { within = element_in.1; are = rw (drop-drop (3 + text_at p) at s) at a };
          left = omega (arith, l.left, after_nodes t ts p here);
        }

  -- ---- the flags of the Cells

  -- with the flags of the elements still to come, the array is the result
  pub record Finding (cells : List Bool) (at node : ℕ) (rest : Trees) : Type 0 where
    pub sweep : Sweep at node rest
    pub stored : sets cells node (map is_set (cell_flags* rest)) ≡ cell_marks (cell_flags q.tree)

  no_marks : sets (replicate 512 false) 0 (map is_set (cell_flags q.tree)) ≡ map is_set (sets (replicate 512 0) 0 (cell_flags q.tree))
  no_marks = sym (map-sets is_set (cell_flags q.tree) (replicate 512 0) 0
      ∙ ap (λ (l : List Bool). sets l 0 (map is_set (cell_flags q.tree))) (map-replicate is_set 512 0))

  pub find_begins : Some (Finding (replicate 512 false) 0 0)
  unfolding cell_flags
  find_begins = record {
    rest = more q.tree none;
    holds = record {
      sweep = sweep_begins;
      stored = rw append-nil (no_marks ∙ ap (map is_set) (sets_padded 512 (cell_flags q.tree) (omega (arith, flags_length q.tree, q.few))));
    };
  }

  find_next : (cells : List Bool) (at node : ℕ) (t : Tree) (ts : Trees) → Finding cells at node (more t ts) → (p : List ℕ) → p ≡ drop at s
      → (v : Bool) (m : ℕ) → v ≡ eqb (get_or p 0 0) 1 → m ≡ text_at p → Some (Finding (set cells node v) (at + 3 + m) (node + 1))
  find_next cells at node t ts k p pe v m ve me =
      let i : at + 3 + m ≡ at + (3 + text_at p) = omega arith in
      let f : map is_set (cell_flags* (more t ts)) ≡ v ∷ map is_set (cell_flags* (joined (inside_tree t) ts)) =
      ap (map is_set) (after_flags t ts p (here at node t ts k.sweep p pe)) ∙ rw (ve, set_is (eqb (get_or p 0 0) 1)) in
      record {
        rest = joined (inside_tree t) ts;
        holds = record {
          sweep = rw i (sweep_on at node t ts k.sweep p pe);
          stored = rw (add-one node) (sym (ap (sets cells node) f) ∙ k.stored);
        };
      }

  find_last : (cells : List Bool) (at node : ℕ) → Finding cells at node none → cells ≡ cell_marks (cell_flags q.tree)
  unfolding cell_flags
  find_last cells at node k = k.stored

  module _ (cells : List Bool) (at node : ℕ) (k : Some (Finding cells at node)) where
    at_found : (rest : Trees) → Finding cells at node rest → Passing s at rest
    at_found rest l = l.sweep.passing

    module _ (h : at < length s) where
      pub find_in : (3 + text_at (part s at) ≤ length (part s at)) × (at + (3 + text_at (part s at)) ≤ length s) × (node < 512)
      find_in = let l = turn s at _ at_found k h in element_in at node l.tree l.trees l.holds.sweep (part s at) (part_to_end s at)

      pub find_more : (v : Bool) (m : ℕ) → v ≡ eqb (get_or (part s at) 0 0) 1 → m ≡ text_at (part s at)
          → Some (Finding (set cells node v) (at + 3 + m) (node + 1))
      find_more = let l = turn s at _ at_found k h in find_next cells at node l.tree l.trees l.holds (part s at) (part_to_end s at)

    pub find_ends : length s ≤ at → cells ≡ cell_marks (cell_flags q.tree)
    find_ends h = find_last cells at node (over s at _ at_found k h)

  -- ---- the bytes

  module _ (ds : List Bool) (o₀ : List ℕ) where
    -- with the bytes of the elements still to come, the output is the result
    pub record PuttingBytes (o : List ℕ) (at node : ℕ) (rest : Trees) : Type 0 where
      pub sweep : Sweep at node rest
      pub stored : sets o at (bytes_of* (blanked* (is_dotted ds) node rest)) ≡ sets o₀ 0 (bytes_of (blanked (is_dotted ds) 0 q.tree))

    pub put_begins : Some (PuttingBytes o₀ 0 0)
    unfolding bytes_of blanked
    put_begins = record { rest = more q.tree none; holds = record { sweep = sweep_begins; stored = rw append-nil } }

    module _ (o : List ℕ) (at node : ℕ) (t : Tree) (ts : Trees) (k : PuttingBytes o at node (more t ts)) (p : List ℕ) (pe : p ≡ drop at s) where
      -- the element's text as it is shown, and the bytes after it
      abbrev text : List ℕ
      text = map (shown_byte (is_dotted ds node)) (take (text_at p) (drop 3 p))

      text_length : length text ≡ text_at p
      text_length = length-map (take (text_at p) (drop 3 p)) (shown_byte (is_dotted ds node))
          ∙ length-take-le (text_at p) (drop 3 p) (rw length-drop (omega (arith, (element_in at node t ts k.sweep p pe).0)))

      abbrev behind : List ℕ
      behind = bytes_of* (blanked* (is_dotted ds) (suc node) (joined (inside_tree t) ts))

      put_next : (n m : ℕ) (o₁ o₂ : List ℕ) → n ≡ length_at p → n < 65536 → m ≡ text_at p
          → o₁ ≡ set (set (set o at (get_or p 0 0)) (at + 1) (n / 256 % 256)) (at + 2) (n % 256)
          → o₂ ≡ sets o₁ (at + 3) (map (shown_byte (is_dotted ds node)) (take (3 + m - 3) (drop 3 p))) → Some (PuttingBytes o₂ (at + 3 + m) (node + 1))
      put_next n m o₁ o₂ ne small me e₁ e₂ =
          let g : n % 256 ≡ length_at p % 256 = ap (λ (x : ℕ). x % 256) ne in
          let h : n / 256 % 256 ≡ length_at p / 256 = high_byte n small ∙ ap (λ (x : ℕ). x / 256) ne in
          let i : at + 3 + m ≡ at + (3 + text_at p) = omega arith in
          let j : at + (3 + text_at p) ≡ suc (suc (suc at)) + length text = omega (arith, text_length) in
          let x : at + 1 ≡ suc at = omega arith in
          let y : at + 2 ≡ suc (suc at) = omega arith in
          let z : at + 3 ≡ suc (suc (suc at)) = omega arith in
          let u : 3 + m - 3 ≡ text_at p = add-sub_cancel_left 3 m ∙ me in
          let f : List ℕ = set (set (set o at (get_or p 0 0)) (suc at) (length_at p / 256)) (suc (suc at)) (length_at p % 256) in
          let w : o₂ ≡ sets f (suc (suc (suc at))) text = e₂ ∙ rw (e₁, u, x, y, z, h, g) in
          record {
            rest = joined (inside_tree t) ts;
            holds = record {
              sweep = rw i (sweep_on at node t ts k.sweep p pe);
              stored = rw (add-one node, i, j, w)
                  (sym (sets_append text behind f (suc (suc (suc at))))
                  ∙ sym (ap (sets o at) (after_bytes t ts p (here at node t ts k.sweep p pe) (is_dotted ds) node)) ∙ k.stored);
            };
          }

    put_last : (o : List ℕ) (at node : ℕ) → PuttingBytes o at node none → o ≡ sets o₀ 0 (bytes_of (blanked (is_dotted ds) 0 q.tree))
    unfolding bytes_of blanked
    put_last o at node k = k.stored

    module _ (o : List ℕ) (at node : ℕ) (k : Some (PuttingBytes o at node)) where
      at_put : (rest : Trees) → PuttingBytes o at node rest → Passing s at rest
      at_put rest l = l.sweep.passing

      module _ (h : at < length s) where
        pub put_in : (3 + text_at (part s at) ≤ length (part s at)) × (at + (3 + text_at (part s at)) ≤ length s) × (node < 512)
        put_in = let l = turn s at _ at_put k h in element_in at node l.tree l.trees l.holds.sweep (part s at) (part_to_end s at)

        pub put_more : (n m : ℕ) (o₁ o₂ : List ℕ) → n ≡ length_at (part s at) → n < 65536 → m ≡ text_at (part s at)
            → o₁ ≡ set (set (set o at (get_or (part s at) 0 0)) (at + 1) (n / 256 % 256)) (at + 2) (n % 256)
            → o₂ ≡ sets o₁ (at + 3) (map (shown_byte (is_dotted ds node)) (take (3 + m - 3) (drop 3 (part s at))))
            → Some (PuttingBytes o₂ (at + 3 + m) (node + 1))
        put_more = let l = turn s at _ at_put k h in put_next o at node l.tree l.trees l.holds (part s at) (part_to_end s at)

      pub put_ends : length s ≤ at → o ≡ sets o₀ 0 (bytes_of (blanked (is_dotted ds) 0 q.tree))
      put_ends h = put_last o at node (over s at _ at_put k h)
