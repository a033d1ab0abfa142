-- How many bytes a tree has: it depends on its shape and the lengths of its texts.
use mathlib.Core.Path.{◌≡◌, refl, ap}
use Prim.Native.Nat.{ℕ, ◌+◌}
use native.Mathlib.Omega.{arith}
use mathlib.Core.List.{List}
use lib.ListN.{length, drop, length-append, length-drop}
use Rattle.tree.specs.Tree.{Tree, Trees, cell, group, none, more}
use Rattle.tree.specs.Bytes.{length_at}
use Rattle.tree.specs.Promises.{Encodes, EncodesAll, contents}
use Rattle.tree.specs.Accepted.{bytes_of, bytes_of*}
use Rattle.tree.proofs.Fronts.{is_whole, contents_length}

unfoldable mutual
  pub bytes_in : Tree → ℕ
  bytes_in (cell x) = 3 + length x
  bytes_in (group a ts) = 3 + bytes_in* ts

  pub bytes_in* : Trees → ℕ
  bytes_in* none = 0
  bytes_in* (more t ts) = bytes_in t + bytes_in* ts

mutual
  unfolding bytes_in Encodes

  pub is_bytes_in : (t : Tree) (s : List ℕ) → Encodes t s → 3 + length_at s ≡ bytes_in t
  is_bytes_in (cell x) = λ s k. let e : length (contents s) ≡ length x = ap length k.2 in omega (arith, contents_length s k.0)
  is_bytes_in (group a ts) = λ s k. omega (arith, contents_length s k.0, are_bytes_in ts (contents s) k.2)

  pub are_bytes_in : (ts : Trees) (s : List ℕ) → EncodesAll ts s → length s ≡ bytes_in* ts
  are_bytes_in none = λ s k. k
  are_bytes_in (more t ts) = λ s k.
      omega (arith, is_bytes_in t s k.0, is_whole t s k.0, are_bytes_in ts (drop (3 + length_at s) s) k.1, length-drop (3 + length_at s) s)

mutual
  unfolding bytes_in bytes_of

  pub bytes_length : (t : Tree) → length (bytes_of t) ≡ bytes_in t
  bytes_length (cell x) = omega arith
  bytes_length (group a ts) = omega (arith, bytes*_length ts)

  pub bytes*_length : (ts : Trees) → length (bytes_of* ts) ≡ bytes_in* ts
  bytes*_length none = refl
  bytes*_length (more t ts) = rw length-append (omega (arith, bytes_length t, bytes*_length ts))
