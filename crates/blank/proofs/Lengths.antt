-- A tree with blanked texts has as many bytes.
use mathlib.Core.Path.{◌≡◌, refl, sym, ap, ap₂, ◌∙◌}
use Prim.Native.Nat.{ℕ, suc, ◌+◌}
use mathlib.Core.Bool.{Bool}
use mathlib.Core.List.{List}
use lib.ListN.{length, length-map}
use Rattle.tree.specs.Tree.{Tree, Trees, cell, group, none, more, nodes}
use Rattle.tree.specs.Bytes.{length_at}
use Rattle.tree.specs.Promises.{Encodes}
use Rattle.tree.specs.Accepted.{bytes_of}
use Rattle.blank.specs.Blank.{blanked, blanked*, shown_byte}
use Rattle.tree.proofs.Lengths.{bytes_length, bytes_in, bytes_in*, is_bytes_in}

mutual
  unfolding bytes_in blanked

  pub blanked_bytes_in : (dots : ℕ → Bool) (t : Tree) (n : ℕ) → bytes_in (blanked dots n t) ≡ bytes_in t
  blanked_bytes_in dots (cell x) = λ n. ap (λ (m : ℕ). 3 + m) (length-map x (shown_byte (dots n)))
  blanked_bytes_in dots (group a ts) = λ n. ap (λ (m : ℕ). 3 + m) (blanked*_bytes_in dots ts (suc n))

  pub blanked*_bytes_in : (dots : ℕ → Bool) (ts : Trees) (n : ℕ) → bytes_in* (blanked* dots n ts) ≡ bytes_in* ts
  blanked*_bytes_in dots none = λ n. refl
  blanked*_bytes_in dots (more t ts) = λ n. ap₂ (λ (m k : ℕ). m + k) (blanked_bytes_in dots t n) (blanked*_bytes_in dots ts (n + nodes t))

-- the blanked tree has as many bytes as the tree
pub blanked_length : (dots : ℕ → Bool) (t : Tree) (s : List ℕ) → Encodes t s → 3 + length_at s ≡ length s → length (bytes_of (blanked dots 0 t)) ≡ length s
blanked_length dots t s k e = bytes_length (blanked dots 0 t) ∙ blanked_bytes_in dots t 0 ∙ sym (is_bytes_in t s k) ∙ e
