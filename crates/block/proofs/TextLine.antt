-- A text line between its marks: its indent and its length.
use mathlib.Core.Path.{◌≡◌, ◌∙◌}
use Prim.Native.Nat.{ℕ, ◌+◌, ◌-◌, ◌≤◌}
use native.Mathlib.Nat.{le_refl}
use native.Mathlib.Omega.{arith}
use mathlib.Core.Bool.{Bool, true, false}
use mathlib.Core.List.{List, map}
use lib.ListN.{length, length-append, length-replicate, length-map}
use Rattle.common.specs.Choice.{pick}
use Rattle.common.proofs.Every.{every_image, every_map}
use Rattle.settings.specs.declared.Settings.{Settings}
use Rattle.settings.specs.declared.Alignment.{Alignment}
use Rattle.text.specs.Text.{lines, text_width, text_height}
use Rattle.text.proofs.Measured.{lines_height, lines_width}
use Rattle.block.specs.Block.{slack_before, indent, text_line}
use Rattle.block.proofs.Dimensions.{Dims}

-- ---- the indent

pub before_le : (p : Alignment) (n : ℕ) → slack_before p n ≤ n
unfolding slack_before
before_le Alignment.Start n = omega arith
before_le Alignment.Center n = omega arith
before_le Alignment.End n = le_refl n

pub mode_le : (b : Bool) (own widest : ℕ) → own ≤ widest → (own ≤ pick b own widest) × (pick b own widest ≤ widest)
mode_le true own widest h = (le_refl own, h)
mode_le false own widest h = (h, le_refl widest)

module _ (s : Settings) (inner widest : ℕ) (l : List ℕ) (h : length l ≤ widest) (k : widest ≤ inner) where
  -- the indented line stays within its columns
  indent_fits : indent s inner widest l + length l ≤ inner
  unfolding indent
  indent_fits =
      let m = pick s.line_mode (length l) widest in
      omega (arith, mode_le s.line_mode (length l) widest h, before_le s.horizontal (inner - m))

  text_line_length : length (text_line s inner widest l) ≡ s.left + inner + s.right
  unfolding text_line
  text_line_length = let f = indent_fits in simp (length-append, length-replicate) (omega arith)

-- ---- all lines of a text

pub text_dims : (s : Settings) (t : List ℕ) (inner : ℕ) → text_width t ≤ inner
    → Dims (map (text_line s inner (text_width t)) (lines t)) (text_height t) (s.left + inner + s.right)
text_dims s t inner h = record {
  lines = length-map (lines t) _ ∙ lines_height t;
  columns = every_image (λ l. length l ≡ s.left + inner + s.right) _ (lines t)
      (every_map (λ l. length l ≤ text_width t) _ (λ l k. text_line_length s inner (text_width t) l k h) (lines t) (lines_width t));
}
