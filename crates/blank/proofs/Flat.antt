-- The elements of a tree in node order: what follows a front is the trees inside it and those after it.
use mathlib.Core.Path.{◌≡◌, refl, sym, ap, subst, ◌∙◌}
use Prim.Native.Nat.{ℕ, suc, ◌+◌, ◌≤◌, ◌/◌, ◌%◌}
use native.Mathlib.Omega.{arith}
use mathlib.Core.Bool.{Bool}
use mathlib.Core.List.{List, [], ◌∷◌, ◌++◌, map, append_assoc}
use lib.ListN.{length, get_or, take, drop, length-append, length-map, length-drop, take-append-drop, get_or-append}
use lib.Seq.{take-append-le, drop-append-le, drop-drop}
use lib.Dec.{eqb}
use borrow.Author.Tests.{eq-eqb, ne_eqb}
use Rattle.common.specs.Choice.{pick}
use Rattle.tree.specs.Tree.{Tree, Trees, cell, group, none, more, nodes, nodes*}
use Rattle.tree.specs.Bytes.{length_at}
use Rattle.tree.specs.Promises.{Encodes, EncodesAll, contents}
use Rattle.tree.specs.Accepted.{bytes_of, bytes_of*}
use Rattle.tree.proofs.Fronts.{is_whole, contents_length, tag_low}
use Rattle.blank.specs.Blank.{blanked, blanked*, shown_byte, cell_flags, cell_flags*}
use Rattle.blank.specs.Clauses.{text_at}
use Rattle.blank.proofs.Lengths.{blanked*_bytes_in}
use Rattle.tree.proofs.Lengths.{are_bytes_in, bytes*_length}

unfoldable pub joined : Trees → Trees → Trees
joined none us = us
joined (more t ts) us = more t (joined ts us)

unfoldable pub inside_tree : Tree → Trees
inside_tree (cell t) = none
inside_tree (group a ts) = ts

-- ---- what the joined trees have

joined_nodes : (ts us : Trees) → nodes* (joined ts us) ≡ nodes* ts + nodes* us
unfolding joined nodes
joined_nodes none us = omega arith
joined_nodes (more t ts) us = omega (arith, joined_nodes ts us)

joined_flags : (ts us : Trees) → cell_flags* (joined ts us) ≡ cell_flags* ts ++ cell_flags* us
unfolding joined cell_flags
joined_flags none us = refl
joined_flags (more t ts) us = rw (joined_flags ts us) (sym (append_assoc (cell_flags t) (cell_flags* ts) (cell_flags* us)))

joined_bytes : (dots : ℕ → Bool) (ts us : Trees) (n : ℕ)
    → bytes_of* (blanked* dots n (joined ts us)) ≡ bytes_of* (blanked* dots n ts) ++ bytes_of* (blanked* dots (n + nodes* ts) us)
unfolding joined blanked bytes_of nodes
joined_bytes dots none us n = ap (λ (k : ℕ). bytes_of* (blanked* dots k us)) (omega arith)
joined_bytes dots (more t ts) us n =
    let e : n + nodes t + nodes* ts ≡ n + (nodes t + nodes* ts) = omega arith in
    rw (joined_bytes dots ts us (n + nodes t), e)
    (sym (append_assoc (bytes_of (blanked dots n t)) (bytes_of* (blanked* dots (n + nodes t) ts)) (bytes_of* (blanked* dots (n + (nodes t + nodes* ts)) us))))

-- ---- their bytes

length_longer : (s r : List ℕ) → 3 ≤ length s → length_at (s ++ r) ≡ length_at s
length_longer s r h = rw (get_or-append s r 0 1 (omega arith), get_or-append s r 0 2 (omega arith))

contents_longer : (s r : List ℕ) → 3 + length_at s ≤ length s → contents (s ++ r) ≡ contents s
contents_longer s r h =
    rw (length_longer s r (omega arith), drop-append-le 3 s r (omega arith))
    (take-append-le (length_at s) (drop 3 s) r (rw length-drop (omega arith)))

is_longer : (t : Tree) (s r : List ℕ) → Encodes t s → Encodes t (s ++ r)
unfolding Encodes
is_longer (cell x) s r k = (
  rw (length_longer s r (omega (arith, k.0)), length-append s r) (omega (arith, k.0)),
  get_or-append s r 0 0 (omega (arith, k.0))
      ∙ k.1,
  contents_longer s r k.0 ∙ k.2,
)
is_longer (group a ts) s r k = (
  rw (length_longer s r (omega (arith, k.0)), length-append s r) (omega (arith, k.0)),
  get_or-append s r 0 0 (omega (arith, k.0))
      ∙ k.1,
  rw (contents_longer s r k.0) k.2,
)

no_bytes : (s r : List ℕ) → length s ≡ 0 → s ++ r ≡ r
no_bytes [] r h = refl
no_bytes (b ∷ s) r h = absurd (omega arith)

are_joined : (ts us : Trees) (s r : List ℕ) → EncodesAll ts s → EncodesAll us r → EncodesAll (joined ts us) (s ++ r)
unfolding joined Encodes
are_joined none us s r k l = rw (no_bytes s r k) l
are_joined (more t ts) us s r k l =
    let w = is_whole t s k.0 in (
      is_longer t s r k.0,
      rw (length_longer s r (omega (arith, w)), drop-append-le (3 + length_at s) s r w) (are_joined ts us (drop (3 + length_at s) s) r k.1 l),
    )

-- ---- one element

module _ (t : Tree) (ts : Trees) (s : List ℕ) (k : EncodesAll (more t ts) s) where
  abbrev pub next_trees : Trees
  next_trees = joined (inside_tree t) ts

  first : Encodes t s
  unfolding Encodes
  first = k.0

  pub front_in : 3 + text_at s ≤ length s
  front_in = go (eqb (get_or s 0 0) 1)
    where
      go : (c : Bool) → 3 + pick c (length_at s) 0 ≤ length s
      go Bool.true = is_whole t s first
      go Bool.false = omega (arith, is_whole t s first)

  pub after_are : EncodesAll next_trees (drop (3 + text_at s) s)
  unfolding Encodes joined inside_tree
  after_are = go t k
    where
      go : (t : Tree) → EncodesAll (more t ts) s → EncodesAll (joined (inside_tree t) ts) (drop (3 + text_at s) s)
      go (cell x) k = rw (eq-eqb (get_or s 0 0) 1 k.0.1) k.1
      go (group a us) k =
          let e : drop (3 + length_at s) s ≡ drop (length_at s) (drop 3 s) = sym (drop-drop (length_at s) 3 s) in
          rw (ne_eqb (get_or s 0 0) 1 (λ z. omega (arith, k.0.1, tag_low a)))
          (subst (λ (r : List ℕ). EncodesAll (joined us ts) r) (take-append-drop (length_at s) (drop 3 s))
          (are_joined us ts (contents s) (drop (length_at s) (drop 3 s)) k.0.2 (rw (← e) k.1)))

  pub after_nodes : nodes* (more t ts) ≡ suc (nodes* next_trees)
  unfolding nodes inside_tree joined
  after_nodes = go t
    where
      go : (t : Tree) → nodes* (more t ts) ≡ suc (nodes* (joined (inside_tree t) ts))
      go (cell x) = omega arith
      go (group a us) = omega (arith, joined_nodes us ts)

  pub after_flags : cell_flags* (more t ts) ≡ pick (eqb (get_or s 0 0) 1) 1 0 ∷ cell_flags* next_trees
  unfolding Encodes cell_flags inside_tree joined
  after_flags = go t k
    where
      go : (t : Tree) → EncodesAll (more t ts) s → cell_flags* (more t ts) ≡ pick (eqb (get_or s 0 0) 1) 1 0 ∷ cell_flags* (joined (inside_tree t) ts)
      go (cell x) k = rw (eq-eqb (get_or s 0 0) 1 k.0.1)
      go (group a us) k = rw (ne_eqb (get_or s 0 0) 1 (λ z. omega (arith, k.0.1, tag_low a))) (ap (λ (l : List ℕ). 0 ∷ l) (sym (joined_flags us ts)))

  -- its front, its text with dots where it is blanked, and the elements after it
  pub after_bytes : (dots : ℕ → Bool) (n : ℕ)
      → bytes_of* (blanked* dots n (more t ts)) ≡ get_or s 0 0 ∷ (length_at s / 256) ∷ (length_at s % 256)
      ∷ (map (shown_byte (dots n)) (take (text_at s) (drop 3 s)) ++ bytes_of* (blanked* dots (suc n) next_trees))
  unfolding Encodes bytes_of blanked inside_tree joined nodes
  after_bytes dots n = go t k
    where
      go : (t : Tree) → EncodesAll (more t ts) s
          → bytes_of* (blanked* dots n (more t ts)) ≡ get_or s 0 0 ∷ (length_at s / 256) ∷ (length_at s % 256)
          ∷ (map (shown_byte (dots n)) (take (text_at s) (drop 3 s)) ++ bytes_of* (blanked* dots (suc n) (joined (inside_tree t) ts)))
      go (cell x) k =
          let e : length (map (shown_byte (dots n)) x) ≡ length_at s = length-map x (shown_byte (dots n)) ∙ sym (ap length k.0.2)
          ∙ contents_length s k.0.0 in
          let j : n + 1 ≡ suc n = omega arith in
          rw (eq-eqb (get_or s 0 0) 1 k.0.1, k.0.1, k.0.2, e, j)
      go (group a us) k =
          let e : length (bytes_of* (blanked* dots (suc n) us)) ≡ length_at s = bytes*_length (blanked* dots (suc n) us) ∙ blanked*_bytes_in dots us (suc n)
          ∙ sym (are_bytes_in us (contents s) k.0.2) ∙ contents_length s k.0.0 in
          let j : n + suc (nodes* us) ≡ suc n + nodes* us = omega arith in
          rw (ne_eqb (get_or s 0 0) 1 (λ z. omega (arith, k.0.1, tag_low a)), k.0.1, e, j, joined_bytes dots us ts (suc n))
