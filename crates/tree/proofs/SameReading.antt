-- Without planning the general reading is document 01's: `read_tree` as it is in specs/Reading.antt.
use mathlib.Core.Path.{◌≡◌, refl, ap, ◌∙◌}
use Prim.Native.Nat.{ℕ, zero, suc, ◌+◌, ◌≤◌}
use native.Mathlib.Omega.{arith}
use mathlib.Core.List.{List, [], ◌∷◌}
use mathlib.Core.Bool.{Bool, true, false}
use lib.ListN.{length, get_or, take, drop}
use lib.Dec.{ltb, leb, eqb}
use borrow.Author.Tests.{ltb-false, eqb-true, ne_eqb}
use Rattle.common.specs.Choice.{pick}
use Rattle.tree.specs.Tree as tree
use Rattle.tree.specs.Bytes.{length_at}
use Rattle.tree.specs.Reading.{is_text, header_of, ReadOne, ReadAll, read_element, read_sequence, read_tree, cell_read, group_read, more_read, tree_answer}
use Rattle.tree.specs.Planning.{Plan, header_in, odd_range, PlanOne, PlanAll, cell_in, range_in, group_in, more_in, element_in, sequence_in, whole_in}
use Rattle.tree.specs.Clauses.{plan_answer}
use Rattle.tree.specs.Bytes.{Header, Fault, Element}
use Rattle.tree.specs.Promises.{tree_of, tree_read, trees_of}
use Rattle.tree.proofs.PlanSound.{picked}

abbrev pub trees_read : PlanAll → ReadAll
trees_read (PlanAll.refused k) = ReadAll.refused k
trees_read (PlanAll.all ps n) = ReadAll.all (trees_of ps) n

-- ---- the front

odd_no : (s : List ℕ) → get_or s 0 0 ≤ 3 → odd_range s ≡ false
odd_no s h = rw (ne_eqb (get_or s 0 0) 4 (λ e. omega arith))

tail_case : (s : List ℕ) (x : Header) (b : Bool) → ltb 3 (get_or s 0 0) ≡ b
    → pick b (Fault 2) (pick (ltb (length s) (3 + length_at s)) (Fault 2) (pick (odd_range s) (Fault 2) x))
    ≡ pick b (Fault 2) (pick (ltb (length s) (3 + length_at s)) (Fault 2) x)
tail_case s x true e = refl
tail_case s x false e = rw (odd_no s (ltb-false 3 (get_or s 0 0) e))

pub header_same : (s : List ℕ) (d n : ℕ) → header_in false s d n ≡ header_of s d n
unfolding header_in header_of
header_same s d n = ap (λ (h : Header). pick (ltb (length s) 3) (Fault 2) (pick (ltb (get_or s 0 0) 1) (Fault 2) h)) (tail_case s _ (ltb 3 (get_or s 0 0)) refl)

-- an element's tag is not 4
abbrev Low : Header → Type 0
Low (Fault k) = Unit {0}
Low (Element tag len) = tag ≤ 3

low_tag : (s : List ℕ) (d n : ℕ) → Low (header_in false s d n)
unfolding header_in
low_tag s d n =
    picked Low (ltb (length s) 3) (λ e. tt) (λ e₁.
    picked Low (ltb (get_or s 0 0) 1) (λ e. tt) (λ e₂.
    picked Low (ltb 3 (get_or s 0 0)) (λ e. tt) (λ e₃.
    picked Low (ltb (length s) (3 + length_at s)) (λ e. tt) (λ e₄.
    picked Low (odd_range s) (λ e. tt) (λ e₅.
    picked Low (ltb 16 d) (λ e. tt) (λ e₆.
    picked Low (leb 512 n) (λ e. tt) (λ e₇. ltb-false 3 (get_or s 0 0) e₃)))))))

-- ---- elements and sequences

cell_same : (text : List ℕ) (size n : ℕ) (b : Bool)
    → tree_read (pick b (PlanOne.one (Plan.cell text) size (n + 1)) (PlanOne.refused 3)) ≡ pick b (ReadOne.one (tree.cell text) size (n + 1))
    (ReadOne.refused 3)
unfolding tree_of
cell_same text size n true = refl
cell_same text size n false = refl

group_same : (tag size : ℕ) (x : PlanAll) → tree_read (group_in tag size x) ≡ group_read tag size (trees_read x)
unfolding tree_of
group_same tag size (PlanAll.refused k) = refl
group_same tag size (PlanAll.all ps n) = refl

more_same : (p : Plan) (x : PlanAll) → trees_read (more_in p x) ≡ more_read (tree_of p) (trees_read x)
unfolding tree_of
more_same p (PlanAll.refused k) = refl
more_same p (PlanAll.all ps n) = refl

abbrev Elements : ℕ → Type 0
Elements f = (d n : ℕ) (s : List ℕ) → tree_read (element_in false f d n s) ≡ read_element f d n s

abbrev Sequences : ℕ → Type 0
Sequences f = (d n : ℕ) (s : List ℕ) → trees_read (sequence_in false f d n s) ≡ read_sequence f d n s

module _ (f d n : ℕ) (s : List ℕ) (ih : Sequences f) where
  four_case : (tag len : ℕ) (b : Bool) → eqb tag 4 ≡ b → tag ≤ 3
      → tree_read (elim b [
        | true ↦ range_in (take len (drop 3 s)) (3 + len) n
        | false ↦ group_in tag (3 + len)
            (sequence_in false f (d + 1) (n + 1) (take len (drop 3 s)))
      ])
      ≡ group_read tag (3 + len) (read_sequence f (d + 1) (n + 1) (take len (drop 3 s)))
  four_case tag len true e h = absurd (omega (arith, eqb-true tag 4 e))
  four_case tag len false e h = group_same tag (3 + len) (sequence_in false f (d + 1) (n + 1) (take len (drop 3 s)))
      ∙ ap (group_read tag (3 + len)) (ih (d + 1) (n + 1) (take len (drop 3 s)))

  tag_case : (tag len : ℕ) (b : Bool) → tag ≤ 3
      → tree_read (elim b [
        | true ↦ cell_in (take len (drop 3 s)) (3 + len) n
        | false ↦ elim
            (eqb tag 4) [
              | true ↦ range_in (take len (drop 3 s)) (3 + len) n
              | false ↦ group_in tag (3 + len)
                  (sequence_in false f (d + 1) (n + 1) (take len (drop 3 s)))
            ]
      ])
      ≡ elim b [ true ↦ cell_read (take len (drop 3 s)) (3 + len) n | false ↦ group_read tag (3 + len) (read_sequence f (d + 1) (n + 1) (take len (drop 3 s))) ]
  tag_case tag len true h = cell_same (take len (drop 3 s)) (3 + len) n (is_text (take len (drop 3 s)))
  tag_case tag len false h = four_case tag len (eqb tag 4) refl h

  header_case : (h g : Header) → h ≡ g → Low h
      → tree_read (elim h [
        | Fault k ↦ PlanOne.refused k
        | Element tag len ↦ elim
            (eqb tag 1) [
              | true ↦ cell_in (take len (drop 3 s)) (3 + len) n
              | false ↦ elim
                  (eqb tag 4) [
                    | true ↦ range_in (take len (drop 3 s)) (3 + len) n
                    | false ↦ group_in tag (3 + len)
                        (sequence_in false f (d + 1) (n + 1) (take len (drop 3 s)))
                  ]
            ]
      ])
      ≡ elim g [
        | Fault k ↦ ReadOne.refused k
        | Element tag len ↦ elim
            (eqb tag 1) [
              | true ↦ cell_read (take len (drop 3 s)) (3 + len) n
              | false ↦ group_read tag (3 + len)
                  (read_sequence f (d + 1) (n + 1) (take len (drop 3 s)))
            ]
      ]
  header_case (Fault k) g e h = rw (← e)
  header_case (Element tag len) g e h = rw (← e) (tag_case tag len (eqb tag 1) h)

  next_case : (x : PlanOne) (y : ReadOne) → tree_read x ≡ y
      → trees_read (elim x [ PlanOne.refused k ↦ PlanAll.refused k | PlanOne.one p size c ↦ more_in p (sequence_in false f d c (drop size s)) ])
      ≡ elim y [ ReadOne.refused k ↦ ReadAll.refused k | ReadOne.one t size c ↦ more_read t (read_sequence f d c (drop size s)) ]
  next_case (PlanOne.refused k) y e = rw (← e)
  next_case (PlanOne.one p size c) y e = rw (← e) (more_same p (sequence_in false f d c (drop size s)) ∙ ap (more_read (tree_of p)) (ih d c (drop size s)))

element_same : (f : ℕ) → Sequences f → Elements (suc f)
unfolding element_in read_element
element_same f ih d n s = header_case f d n s ih (header_in false s d n) (header_of s d n) (header_same s d n) (low_tag s d n)

sequence_same : (f : ℕ) → Elements f → Sequences f → Sequences (suc f)
unfolding element_in read_element tree_of
sequence_same f p q d n [] = refl
sequence_same f p q d n (b ∷ s) = next_case f d n (b ∷ s) q (element_in false f d n (b ∷ s)) (read_element f d n (b ∷ s)) (p d n (b ∷ s))

mutual
  unfolding element_in read_element

  elements : (f : ℕ) → Elements f
  elements zero = λ d n s. refl
  elements (suc f) = element_same f (sequences f)

  sequences : (f : ℕ) → Sequences f
  sequences zero = λ d n s. refl
  sequences (suc f) = sequence_same f (elements f) (sequences f)

-- ---- the whole tree

answer_same : (x : PlanOne) → plan_answer x ≡ tree_answer (tree_read x)
answer_same (PlanOne.refused k) = refl
answer_same (PlanOne.one p size n) = refl

whole_case : (s : List ℕ) (a b : Bool)
    → tree_read (pick a (PlanOne.refused 2) (pick b (element_in false (length s + 1) 1 0 s) (PlanOne.refused 2)))
    ≡ pick a (ReadOne.refused 2) (pick b (read_element (length s + 1) 1 0 s) (ReadOne.refused 2))
whole_case s true b = refl
whole_case s false true = elements (length s + 1) 1 0 s
whole_case s false false = refl

pub read_same : (s : List ℕ) → tree_read (whole_in false s) ≡ read_tree s
unfolding whole_in read_tree
read_same s = whole_case s (ltb 32768 (length s)) (eqb (3 + length_at s) (length s))

pub whole_same : (s : List ℕ) → plan_answer (whole_in false s) ≡ tree_answer (read_tree s)
whole_same s = answer_same (whole_in false s) ∙ ap tree_answer (read_same s)
