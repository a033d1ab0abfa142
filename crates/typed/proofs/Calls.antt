-- The theorems about the call: what is accepted is the tree meant, where a fault is reported, and every tree that the tree reader accepts can be typed.
use mathlib.Core.Path.{◌≡◌, refl, sym, ap, ◌∙◌}
use mathlib.Core.Logic.{inl, inr}
use Prim.Native.Nat.{ℕ, ◌<◌}
use native.Mathlib.Omega.{arith}
use mathlib.Core.Bool.{Bool}
use mathlib.Core.List.{List, ◌++◌}
use lib.ListN.{length, take, drop}
use lib.Seq.{take_at, drop_at}
use borrow.Author.Tests.{le-ltb}
use Rattle.common.specs.Choice.{pick}
use Rattle.common.specs.Every.{Every}
use Rattle.tree.specs.Tree.{Tree, nodes}
use Rattle.tree.specs.Reading.{one, read_tree}
use Rattle.tree.specs.Accepted.{bytes_of}
use Rattle.tree.proofs.Sound.{tree_sound}
use Rattle.tree.proofs.Lengths.{is_bytes_in, bytes_length}
use Rattle.tree.proofs.Exact.{tree_exact}
use Rattle.typed.specs.Scan.{TypedNode, found, scan_lines}
use Rattle.typed.specs.Typed.{root_of, typed_refusal, typed_accepted, typed_of}
use Rattle.typed.specs.Promises.{TypedTree, TypedBack, Unplaced, FaultAt, FaultPlace, typed_nodes}
use Rattle.typed.specs.declared.Typed.{Typed}
use Rattle.typed.proofs.Answered.{typed_cases}
use Rattle.typed.proofs.Faults.{fault_at}
use Rattle.typed.proofs.AcceptedLists.{typed_meant, nodes_listed}
use Rattle.typed.proofs.RoundTrip.{round_trip}

-- ---- an accepted call

typed_written : (t o b : List ℕ) (root : Tree) → b ≡ bytes_of root → scan_lines t ≡ found (typed_nodes 0 root) → read_tree b ≡ one root (length b) (nodes root)
    → TypedTree t o (typed_accepted b o)
typed_written t o b root i l r =
    let w : take (length b) (b ++ drop (length b) o) ≡ b = take_at b (drop (length b) o) (length b) refl in
    record { root = root; lines_are = l; bytes_are = w ∙ i; read = ap read_tree w ∙ r; kept = drop_at b (drop (length b) o) (length b) refl }

typed_found : (t o : List ℕ) (ns : List TypedNode) → scan_lines t ≡ found ns → TypedTree t o (typed_accepted (bytes_of (root_of ns)) o)
typed_found t o ns e =
    let m = typed_meant t ns e in
    let n : length ns ≡ nodes (root_of ns) = ap length (sym m.lines_are) ∙ nodes_listed (root_of ns) 0 in
    typed_written t o (bytes_of (root_of ns)) (root_of ns) refl (e ∙ ap found (sym m.lines_are))
    (m.read ∙ ap (λ (j : ℕ). one (root_of ns) (length (bytes_of (root_of ns))) j) n)

-- what is written is the bytes of the tree that the lines list, and the tree reader accepts them
pub typed_accepted_lem : (t o : List ℕ) → (typed_of t o).answer.number ≡ 0 → TypedTree t o (typed_of t o)
typed_accepted_lem t o =
    typed_cases t o (λ x. x.answer.number ≡ 0 → TypedTree t o x)
    (λ h. absurd (omega arith))
    (λ k l c e h. absurd (omega (arith, (fault_at t k l c e).number_low)))
    (λ h. absurd (omega arith))
    (λ ns e h. typed_found t o ns e)

-- ---- where a fault is reported

without_place : (t : List ℕ) (k n : ℕ) → Unplaced k → FaultPlace t (record { number = k; count = n; line = 0; column = 0 })
without_place t k n u = record { none = λ v. (refl, refl); some = λ v. absurd (v u) }

with_place : (t : List ℕ) (a : Typed) → FaultAt t a → FaultPlace t a
with_place t a f = record { none = λ u. absurd (placed u); some = λ u. f }
  where
    placed : Unplaced a.number → ⊥
    placed (inl e) = omega (arith, f.number_low)
    placed (inr (inl e)) = omega (arith, f.number_low)
    placed (inr (inr e)) = omega (arith, f.number_low)

-- a fault's line and column are in the list; 0, 8 and 30 have none
pub fault_place : (t o : List ℕ) → FaultPlace t (typed_of t o).answer
fault_place t o =
    typed_cases t o (λ x. FaultPlace t x.answer)
    (without_place t 30 0 (inr (inr refl)))
    (λ k l c e. with_place t (record { number = k; count = 0; line = l; column = c }) (fault_at t k l c e))
    (without_place t 8 0 (inr (inl refl)))
    (λ ns e. without_place t 0 (length (bytes_of (root_of ns))) (inl refl))

-- ---- every tree that the tree reader accepts can be typed, and is read back to the same bytes

-- its bytes, as `bytes_of` has them
pub typed_again : (s : List ℕ) (t : Tree) (size n : ℕ) → read_tree s ≡ one t size n → (length (bytes_of t) ≡ length s) × TypedBack (bytes_of t) t
typed_again s t size n e =
    let g = tree_sound s t size n e in
    let b : length (bytes_of t) ≡ length s = bytes_length t ∙ sym (is_bytes_in t s g.is) ∙ g.ends in (
      b,
      λ o l.
          round_trip t (omega (arith, g.short)) g.few g.shallow g.texts o
          ∙ ap (λ (c : Bool). pick c (typed_refusal 8 0 0 o) (typed_accepted (bytes_of t) o)) (le-ltb (length o) (length (bytes_of t)) l),
    )

-- the bytes that were read: they are those, where each is below 256, as in every slice of bytes
pub typed_back : (s : List ℕ) (t : Tree) (size n : ℕ) → Every (λ b. b < 256) s → read_tree s ≡ one t size n → TypedBack s t
typed_back s t size n h e =
    let g = tree_sound s t size n e in
    rw (tree_exact t s h g.is g.ends) (typed_again s t size n e).1
