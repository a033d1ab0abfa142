-- A text as it is measured.
use Rattle.std.specs.Prelude.{ℕ, List}
use Rattle.text.specs.declared.measure.TextSize.{TextSize}
use Rattle.text.specs.Text.{text_width, text_height}

-- the longest line and the line count
unfoldable pub text_size : List ℕ → TextSize
unfolding text_width text_height
text_size t = record { width = text_width t; height = text_height t }
