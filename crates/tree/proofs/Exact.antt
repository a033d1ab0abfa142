-- Accepted bytes are the bytes of their tree, where each is below 256.
use mathlib.Core.Path.{◌≡◌, sym, ap, ap₂, ◌∙◌}
use Prim.Native.Nat.{ℕ, zero, suc, ◌+◌, ◌*◌, ◌≤◌, ◌<◌, ◌/◌, ◌%◌}
use native.Mathlib.Omega.{arith}
use mathlib.Core.List.{List, [], ◌∷◌, ◌++◌}
use lib.ListN.{length, get_or, take, drop, take-append-drop}
use lib.Seq.{take_all, take-add}
use Rattle.common.specs.Every.{Every}
use Rattle.tree.specs.Tree.{Tree, Trees, cell, group, none, more}
use Rattle.tree.specs.Bytes.{length_at, tag_of}
use Rattle.tree.specs.Promises.{Encodes, EncodesAll, contents}
use Rattle.tree.specs.Accepted.{element, bytes_of, bytes_of*}
use Rattle.tree.proofs.Fronts.{contents_length}

abbrev Bytes : List ℕ → Type 0
Bytes s = Every (λ b. b < 256) s

byte_at : (s : List ℕ) (i : ℕ) → Bytes s → get_or s i 0 < 256
byte_at [] i k = omega arith
byte_at (b ∷ s) zero k = k.0
byte_at (b ∷ s) (suc i) k = byte_at s i k.1

bytes_take : (n : ℕ) (s : List ℕ) → Bytes s → Bytes (take n s)
bytes_take zero s k = tt
bytes_take (suc n) [] k = tt
bytes_take (suc n) (b ∷ s) k = (k.0, bytes_take n s k.1)

bytes_drop : (n : ℕ) (s : List ℕ) → Bytes s → Bytes (drop n s)
bytes_drop zero s k = k
bytes_drop (suc n) [] k = tt
bytes_drop (suc n) (b ∷ s) k = bytes_drop n s k.1

-- the front and the contents
front_split : (s : List ℕ) (n : ℕ) → 3 ≤ length s → take (3 + n) s ≡ get_or s 0 0 ∷ get_or s 1 0 ∷ get_or s 2 0 ∷ take n (drop 3 s)
front_split [] n h = absurd (omega arith)
front_split (a ∷ []) n h = absurd (omega arith)
front_split (a ∷ b ∷ []) n h = absurd (omega arith)
front_split (a ∷ b ∷ c ∷ s) n h = take-add 3 n (a ∷ b ∷ c ∷ s)

two_bytes : (a b n : ℕ) → b < 256 → n ≡ 256 * a + b → (a ≡ n / 256) × (b ≡ n % 256)
two_bytes a b n h e = (omega arith, omega arith)

element_is : (s : List ℕ) (tag : ℕ) (inside : List ℕ) → Bytes s → 3 + length_at s ≤ length s → get_or s 0 0 ≡ tag → contents s ≡ inside
    → take (3 + length_at s) s ≡ element tag inside
element_is s tag inside k h e f =
    let n : length inside ≡ length_at s = sym (ap length f) ∙ contents_length s h in
    let w = two_bytes (get_or s 1 0) (get_or s 2 0) (length inside) (byte_at s 2 k) n in
    front_split s (length_at s) (omega arith) ∙ ap₂ ◌∷◌ e (ap₂ ◌∷◌ w.0 (ap₂ ◌∷◌ w.1 f))

mutual
  unfolding Encodes bytes_of

  is_exact : (t : Tree) (s : List ℕ) → Bytes s → Encodes t s → take (3 + length_at s) s ≡ bytes_of t
  is_exact (cell x) = λ s b k. element_is s 1 x b k.0 k.1 k.2
  is_exact (group a ts) = λ s b k.
      element_is s (tag_of a) (bytes_of* ts) b k.0 k.1 (are_exact ts (contents s) (bytes_take (length_at s) (drop 3 s) (bytes_drop 3 s b)) k.2)

  are_exact : (ts : Trees) (s : List ℕ) → Bytes s → EncodesAll ts s → s ≡ bytes_of* ts
  are_exact none = λ s b k. sym (take_all 0 s (omega arith))
  are_exact (more t ts) = λ s b k.
      sym (take-append-drop (3 + length_at s) s)
      ∙ ap₂ ◌++◌ (is_exact t s b k.0) (are_exact ts (drop (3 + length_at s) s) (bytes_drop (3 + length_at s) s b) k.1)

pub tree_exact : (t : Tree) (s : List ℕ) → Bytes s → Encodes t s → 3 + length_at s ≡ length s → s ≡ bytes_of t
tree_exact t s b k e = sym (take_all (3 + length_at s) s (omega arith)) ∙ is_exact t s b k
