-- Definitions used in the statements of the theorems about this crate's functions.
use Rattle.std.specs.Prelude.{ℕ, ◌≤◌, ◌<◌, ◌≡◌, List, length, get_or}
use Rattle.common.specs.Choice.{pick}
use Rattle.settings.specs.declared.Settings.{Settings}

-- n bytes from one to another
pub record Bounded (n least greatest : ℕ) (l : List ℕ) : Type 0 where
  pub many : length l ≡ n
  pub each : (i : ℕ) → i < n → (least ≤ get_or l i 0) × (get_or l i 0 ≤ greatest)

abbrev pub Printable : ℕ → List ℕ → Type 0
Printable n l = Bounded n 32 126 l

-- the ranges of settings that were read
pub record Ranges (s : Settings) : Type 0 where
  pub marks : Bounded 15 (pick s.lines 32 0) (pick s.lines 126 0) s.marks
  pub left : s.left ≤ 16
  pub right : s.right ≤ 16
  pub top : s.top ≤ 16
  pub bottom : s.bottom ≤ 16
  pub margin_left : s.margin.left ≤ 16
  pub margin_right : s.margin.right ≤ 16
  pub margin_top : s.margin.top ≤ 16
  pub margin_bottom : s.margin.bottom ≤ 16
  pub margin_fills : Printable 4 s.margin.fills
  pub fills : Printable 4 s.fills
