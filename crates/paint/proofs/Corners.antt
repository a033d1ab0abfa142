-- The marks of a leaf: with its corners in the altered copy, the parts that the painter writes are the block's.
use mathlib.Core.Path.{◌≡◌, ◌∙◌}
use mathlib.Core.Logic.{◌≢◌}
use Prim.Native.Nat.{ℕ}
use native.Mathlib.Omega.{arith}
use mathlib.Core.Bool.{true}
use mathlib.Core.List.{List}
use lib.ListN.{length, get_or, set, length-set}
use lib.Seq.{get_or-set_same, get_or-set_other}
use Rattle.settings.specs.declared.Settings.{Settings}
use Rattle.block.specs.Block.{Leaf, mark, top_left, top_right, bottom_left, top_line, middle, bottom_line}
use Rattle.paint.specs.Clauses.{borders_of, top_of, left_of, right_of, bottom_of, middle_of}
use Rattle.sizes.proofs.Separator.{sep_one}

-- ---- the altered copy

module _ (m : List ℕ) (long : length m ≡ 15) (a b d : ℕ) where
  abbrev corners : List ℕ
  corners = set (set (set m 6 a) 7 b) 9 d

  corner_6 : get_or corners 6 0 ≡ a
  corner_6 = get_or-set_other (set (set m 6 a) 7 b) 9 6 d 0 (λ e. omega arith) ∙ get_or-set_other (set m 6 a) 7 6 b 0 (λ e. omega arith)
      ∙ get_or-set_same m 6 a 0 (omega arith)

  corner_7 : get_or corners 7 0 ≡ b
  corner_7 = get_or-set_other (set (set m 6 a) 7 b) 9 7 d 0 (λ e. omega arith) ∙ get_or-set_same (set m 6 a) 7 b 0 (rw length-set (omega arith))

  corner_9 : get_or corners 9 0 ≡ d
  corner_9 = get_or-set_same (set (set m 6 a) 7 b) 9 d 0 (simp length-set (omega arith))

  corner_other : (i : ℕ) → i ≢ 6 → i ≢ 7 → i ≢ 9 → get_or corners i 0 ≡ get_or m i 0
  corner_other i x y z = get_or-set_other (set (set m 6 a) 7 b) 9 i d 0 z ∙ get_or-set_other (set m 6 a) 7 i b 0 y ∙ get_or-set_other m 6 i a 0 x

-- ---- the parts of the block

module _ (s : Settings) (l : Leaf) (lined : s.lines ≡ true) (long : length s.marks ≡ 15) where
  abbrev marks : List ℕ
  marks = set (set (set s.marks 6 (top_left s l.flags)) 7 (top_right s l.flags)) 9 (bottom_left s l.flags)

  other : (i : ℕ) → i ≢ 6 → i ≢ 7 → i ≢ 9 → get_or marks i 0 ≡ mark s i
  unfolding mark
  other = corner_other s.marks long (top_left s l.flags) (top_right s l.flags) (bottom_left s l.flags)

  pub top_is : top_of (borders_of s l.flags) l.size.width l.horizontal ≡ top_line s l
  unfolding top_of borders_of top_line
  top_is =
      rw (
        sep_one s lined,
        corner_6 s.marks long _ _ _,
        corner_7 s.marks long _ _ _,
        other 11 (λ e. omega arith) (λ e. omega arith) (λ e. omega arith),
        other 0 (λ e. omega arith) (λ e. omega arith) (λ e. omega arith),
      )

  pub middle_is : middle_of s l.text l.size (borders_of s l.flags) l.vertical ≡ middle s l
  unfolding middle_of left_of right_of borders_of middle
  middle_is =
      rw (
        sep_one s lined,
        other 13 (λ e. omega arith) (λ e. omega arith) (λ e. omega arith),
        other 2 (λ e. omega arith) (λ e. omega arith) (λ e. omega arith),
        other 3 (λ e. omega arith) (λ e. omega arith) (λ e. omega arith),
      )

  pub bottom_is : bottom_of (borders_of s l.flags) l.size.width ≡ bottom_line s l
  unfolding bottom_of borders_of bottom_line
  bottom_is =
      rw (
        sep_one s lined,
        corner_9 s.marks long _ _ _,
        other 1 (λ e. omega arith) (λ e. omega arith) (λ e. omega arith),
        other 10 (λ e. omega arith) (λ e. omega arith) (λ e. omega arith),
      )
