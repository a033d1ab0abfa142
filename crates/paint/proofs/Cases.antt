-- A leaf's block with lines and without: the painter's two cases.
use mathlib.Core.Path.{◌≡◌, refl, ap, ◌∙◌}
use Prim.Native.Nat.{ℕ, zero, suc, ◌+◌}
use native.Mathlib.Omega.{arith}
use mathlib.Core.Bool.{Bool, true, false}
use mathlib.Core.List.{List, [], ◌∷◌, ◌++◌, append-nil}
use lib.ListN.{length, replicate}
use Rattle.common.specs.Choice.{pick}
use Rattle.settings.specs.declared.Settings.{Settings}
use Rattle.sizes.specs.declared.Size.{Size}
use Rattle.sizes.specs.Sizes.{leaf_size}
use Rattle.sizes.specs.Clauses.{Fits}
use Rattle.sizes.proofs.Separator.{sep_one, sep_none}
use Rattle.block.specs.declared.Flags.{Flags}
use Rattle.block.specs.Content.{column, side_by_side}
use Rattle.block.specs.Block.{Leaf, edge, body, top_line, middle, bottom_line, block, block_height, block_width}
use Rattle.block.proofs.Dims.{body_dims, length_ruled}

-- ---- with lines, a separator is one mark wide

module _ (s : Settings) (lined : s.lines ≡ true) (z : Size) (f : Flags) where
  pub tall_is : block_height s z f ≡ suc (z.height + pick f.last_row 1 0)
  unfolding block_height
  tall_is = rw (sep_one s lined) (omega arith)

  pub wide_is : block_width s z f ≡ suc (z.width + pick f.last_col 1 0)
  unfolding block_width
  wide_is = rw (sep_one s lined) (omega arith)

one_line : (b : Bool) (x : List ℕ) → replicate (pick b 1 0) x ≡ pick b (x ∷ []) []
one_line true x = refl
one_line false x = refl

pub block_lined : (s : Settings) (l : Leaf) → s.lines ≡ true → block s l ≡ top_line s l ∷ (middle s l ++ pick l.flags.last_row (bottom_line s l ∷ []) [])
unfolding block
block_lined s l lined =
    ap (λ (e : ℕ). replicate e (top_line s l) ++ (middle s l ++ replicate (pick l.flags.last_row e 0) (bottom_line s l))) (sep_one s lined)
    ∙ ap (λ (x : List (List ℕ)). top_line s l ∷ (middle s l ++ x)) (one_line l.flags.last_row (bottom_line s l))

-- ---- without lines, a block is its body

none_picked : (b : Bool) → ◌≡◌ {A = ℕ} (pick b 0 0) 0
none_picked true = refl
none_picked false = refl

column_none : (l : List ℕ) → column 0 l ≡ replicate (length l) []
unfolding column
column_none [] = refl
column_none (b ∷ l) = ap (λ (x : List (List ℕ)). [] ∷ x) (column_none l)

none_left : (n : ℕ) (x : List (List ℕ)) → length x ≡ n → side_by_side (replicate n []) x ≡ x
unfolding side_by_side
none_left zero x e = refl
none_left (suc n) [] e = absurd (omega arith)
none_left (suc n) (l ∷ x) e = ap (λ (y : List (List ℕ)). l ∷ y) (none_left n x (omega arith))

none_right : (n : ℕ) (x : List (List ℕ)) → length x ≡ n → side_by_side x (replicate n []) ≡ x
unfolding side_by_side
none_right zero [] e = refl
none_right zero (l ∷ x) e = absurd (omega arith)
none_right (suc n) [] e = absurd (omega arith)
none_right (suc n) (l ∷ x) e = rw (append-nil l) (ap (λ (y : List (List ℕ)). l ∷ y) (none_right n x (omega arith)))

module _ (s : Settings) (bare : s.lines ≡ false) where
  pub bare_tall : (z : Size) (f : Flags) → block_height s z f ≡ z.height
  unfolding block_height
  bare_tall z f = rw (sep_none s bare, none_picked f.last_row) (omega arith)

  pub bare_wide : (z : Size) (f : Flags) → block_width s z f ≡ z.width
  unfolding block_width
  bare_wide z f = rw (sep_none s bare, none_picked f.last_col) (omega arith)

  bare_middle : (l : Leaf) → Fits (leaf_size s l.text) l.size → middle s l ≡ body s l.text l.size
  unfolding middle edge
  bare_middle l fits =
      let h = l.size.height in
      let x = body s l.text l.size in
      let e : length x ≡ h = (body_dims s l.text l.size fits).lines in
      rw (sep_none s bare, none_picked l.flags.last_col, column_none, length_ruled, none_right h x e) (none_left h x e)

  bare_lines : (l : Leaf) → block s l ≡ middle s l
  unfolding block
  bare_lines l = rw (sep_none s bare, none_picked l.flags.last_row, append-nil)

  pub block_bare : (l : Leaf) → Fits (leaf_size s l.text) l.size → block s l ≡ body s l.text l.size
  block_bare l fits = bare_lines l ∙ bare_middle l fits
