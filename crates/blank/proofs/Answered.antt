-- The answer for every input, from the answers of the calls on the tree and on the numbers.
use mathlib.Core.Path.{◌≡◌, refl, sym, ap, ap₂, ◌∙◌}
use Prim.Native.Nat.{ℕ, suc, ◌+◌, ◌≤◌, ◌<◌}
use native.Mathlib.Omega.{arith}
use mathlib.Core.Bool.{Bool}
use mathlib.Core.List.{List, map}
use lib.ListN.{length}
use lib.Seq.{sets}
use borrow.Author.Tests.{lt-ltb, le-ltb}
use Rattle.common.proofs.Stores.{sets_front}
use Rattle.tree.specs.declared.ReadTree.{ReadTree}
use Rattle.tree.specs.Tree.{Tree, Trees, cell, group, none, more, nodes, nodes*}
use Rattle.tree.specs.Reading.{ReadOne, read_tree, tree_answer}
use Rattle.tree.specs.Accepted.{bytes_of}
use Rattle.tree.proofs.Sound.{tree_sound, tree_refusal}
use Rattle.blank.specs.Blank.{shown_byte, blanked, blanked*, cell_flags, dots_for, no_blank, blank_to, blank_of}
use Rattle.blank.specs.Clauses.{ReadElements, is_dotted, NamedAs}
use Rattle.std.specs.Prelude.{Result, Ok, Err}
use Rattle.common.specs.Refusals.{number_of, refusal_of}
use Rattle.common.specs.declared.refusal.Refusal.{Refusal}
use Rattle.blank.proofs.Lengths.{blanked_length}

-- ---- the same dots at the tree's nodes

module _ (f g : ℕ → Bool) (h : (n : ℕ) → n < 512 → f n ≡ g n) where
  mutual
    unfolding blanked nodes

    same_blanked : (t : Tree) (n : ℕ) → n + nodes t ≤ 512 → blanked f n t ≡ blanked g n t
    same_blanked (cell x) = λ n l. ap (λ (b : Bool). cell (map (shown_byte b) x)) (h n (omega arith))
    same_blanked (group a ts) = λ n l. ap (group a) (same_blanked* ts (suc n) (omega arith))

    same_blanked* : (ts : Trees) (n : ℕ) → n + nodes* ts ≤ 512 → blanked* f n ts ≡ blanked* g n ts
    same_blanked* none = λ n l. refl
    same_blanked* (more t ts) = λ n l. ap₂ more (same_blanked t n (omega arith)) (same_blanked* ts (n + nodes t) (omega arith))

-- ---- the tree

-- the accepted tree, as the passes over its elements take it
pub record TreeHere (tree : List ℕ) : Type 0 where
  pub elements : ReadElements tree
  pub size : ℕ
  pub count : ℕ
  pub reads : read_tree tree ≡ ReadOne.one elements.tree size count

tree_here : (tree : List ℕ) (t : Tree) (z n : ℕ) → read_tree tree ≡ ReadOne.one t z n → TreeHere tree
tree_here tree t z n e =
    let g = tree_sound tree t z n e in
    record { elements = record { tree = t; is = g.is; ends = g.ends; short = g.short; few = g.few }; size = z; count = n; reads = e }

module _ (tree : List ℕ) (a : ReadTree) (e : a ≡ tree_answer (read_tree tree)) where
  pub got_elements : a.number ≡ 0 → TreeHere tree
  got_elements h = go (read_tree tree) refl (sym (ap (λ (y : ReadTree). y.number) e) ∙ h)
    where
      go : (x : ReadOne) → read_tree tree ≡ x → (tree_answer x).number ≡ 0 → TreeHere tree
      go (ReadOne.refused k) r q = absurd (omega (arith, tree_refusal tree k r))
      go (ReadOne.one t z n) r q = tree_here tree t z n r

  pub refused_blank : (a.number ≡ 0 → ⊥) → (ns o : List ℕ) → blank_of tree ns o ≡ no_blank a.number o
  unfolding blank_of
  refused_blank h ns o = go (read_tree tree) refl
    where
      go : (x : ReadOne) → read_tree tree ≡ x → blank_of tree ns o ≡ no_blank a.number o
      go (ReadOne.refused k) r = rw (e, r)
      go (ReadOne.one t z n) r = absurd (h (ap (λ (y : ReadTree). y.number) e ∙ rw r))

module _ (tree ns : List ℕ) (k : TreeHere tree) where
  abbrev t : Tree
  t = k.elements.tree

  as_long : length (bytes_of (blanked (dots_for ns) 0 t)) ≡ length tree
  as_long = blanked_length (dots_for ns) t tree k.elements.is k.elements.ends

  abbrev cs : List ℕ
  cs = cell_flags t

  module _ (o : List ℕ) (x : Result (List Bool) Refusal) (named : NamedAs cs ns x) where
    pub no_cell : (r : Refusal) → x ≡ Err r → blank_of tree ns o ≡ no_blank (number_of r) o
    unfolding blank_of refusal_of
    no_cell r e = let n : NamedAs cs ns (Err r) = rw e at named in rw (n.1, k.reads, n.0)

    module _ (ds : List Bool) (e : x ≡ Ok ds) where
      here : NamedAs cs ns (Ok ds)
      here = rw e at named

      to_out : blank_of tree ns o ≡ blank_to (bytes_of (blanked (dots_for ns) 0 t)) o
      unfolding blank_of
      to_out = rw (k.reads, here.0)

      pub blank_no_room : length o < length tree → blank_of tree ns o ≡ no_blank 8 o
      blank_no_room l = to_out ∙ rw (as_long, lt-ltb (length o) (length tree) l)

      pub blanks : length tree ≤ length o → (o₁ : List ℕ) → o₁ ≡ sets o 0 (bytes_of (blanked (is_dotted ds) 0 t))
          → blank_of tree ns o ≡ record { answer = record { number = 0; count = length tree }; memory = o₁ }
      blanks l o₁ d =
          let s : List ℕ = bytes_of (blanked (dots_for ns) 0 t) in
          let m : length s ≡ length tree = as_long in
          let b : blanked (is_dotted ds) 0 t ≡ blanked (dots_for ns) 0 t =
          same_blanked (is_dotted ds) (dots_for ns) here.1 t 0 (omega (arith, k.elements.few)) in
          to_out ∙ rw (d, b, sets_front s o (omega arith), m, le-ltb (length o) (length tree) l)
