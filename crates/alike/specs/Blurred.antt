-- The same condition on bytes as an equation: bytes "differ only inside Cells' texts" where they are equal once the text of each Cell that a reader visits is
-- covered.
use Rattle.std.specs.Prelude.{◌≡◌, ℕ, zero, suc, ◌+◌, Bool, true, false, List, ◌++◌, map, length, get_or, take, eqb, leb}
use Rattle.common.specs.Choice.{pick}
use Rattle.tree.specs.Bytes.{length_at}
use Rattle.tree.specs.Promises.{contents}
use Rattle.tree.specs.Reading.{is_text}
use Rattle.blank.specs.Alike.{covered}
use Rattle.alike.specs.Pairs.{after_element}

-- s begins with a whole element
abbrev pub whole? : List ℕ → Bool
whole? s = leb (3 + length_at s) (length s)

-- a Row or a Column
abbrev pub group? : ℕ → Bool
group? tag = pick (eqb tag 2) true (eqb tag 3)

-- element by element up to a container's end: a Cell's text is covered, but for line feeds; a Row's or a Column's contents likewise; all other bytes stay. By
-- fuel, of which the bytes' length is enough
unfoldable pub blurred : ℕ → List ℕ → List ℕ
blurred zero s = s
blurred (suc f) s = elim (whole? s) [
  | true ↦ elim (eqb (get_or s 0 0) 1) [
    | true ↦ take 3 s ++ (map (covered 1) (contents s) ++ blurred f (after_element s))
    | false ↦ elim (group? (get_or s 0 0)) [
      | true ↦ take 3 s ++ (blurred f (contents s) ++ blurred f (after_element s))
      | false ↦ take 3 s ++ (contents s ++ blurred f (after_element s))
    ]
  ]
  | false ↦ s
]

-- none of those texts holds a forbidden byte
unfoldable pub Clean : ℕ → List ℕ → Type 0
Clean zero s = Unit {0}
Clean (suc f) s = elim (whole? s) [
  | true ↦ elim (eqb (get_or s 0 0) 1) [
    | true ↦ (is_text (contents s) ≡ true) × Clean f (after_element s)
    | false ↦ elim (group? (get_or s 0 0)) [
      | true ↦ Clean f (contents s) × Clean f (after_element s)
      | false ↦ Clean f (after_element s)
    ]
  ]
  | false ↦ Unit {0}
]
