-- The defaults of 01, "Settings record": marks `--||-|+++++++++`, padding 1 1 0 0, fills space, then 0 0 0 1 2: the width priority is Last by 02, 2.
use Rattle.std.specs.Prelude.{ℕ, true, false, List, [], ◌∷◌, ◌++◌, replicate}
use Rattle.common.specs.Choice.{pick}
use Rattle.settings.specs.declared.Settings.{Settings}
use Rattle.settings.specs.declared.Margin.{Margin}
use Rattle.settings.specs.declared.Alignment.{Alignment}
use Rattle.settings.specs.declared.Priority.{Priority}
use Rattle.settings.specs.Reading.{no_margin}

abbrev pub defaults : Settings
defaults = record {
  lines = true;
  margin = no_margin;
  marks = 45 ∷ 45 ∷ 124 ∷ 124 ∷ 45 ∷ 124 ∷ replicate 9 43;
  left = 1;
  right = 1;
  top = 0;
  bottom = 0;
  fills = replicate 4 32;
  horizontal = Alignment.Start;
  vertical = Alignment.Start;
  line_mode = false;
  width_priority = Priority.Last;
  height_priority = Priority.List;
}

-- the numbers that encode the names
abbrev pub alignment_number : Alignment → ℕ
alignment_number Alignment.Start = 0
alignment_number Alignment.Center = 1
alignment_number Alignment.End = 2

abbrev pub priority_number : Priority → ℕ
priority_number Priority.First = 0
priority_number Priority.Last = 1
priority_number Priority.List = 2

-- the 31 bytes of settings, without the margin
abbrev pub settings_bytes : Settings → List ℕ
settings_bytes s =
    16 ∷ 0 ∷ 28 ∷ (s.marks
    ++ (s.left ∷ s.right ∷ s.top ∷ s.bottom ∷ (s.fills
    ++ (alignment_number s.horizontal ∷ alignment_number s.vertical ∷ pick s.line_mode 1 0
    ∷ priority_number s.width_priority ∷ priority_number s.height_priority ∷ []))))

-- the 11 bytes of a margin
abbrev pub margin_bytes : Margin → List ℕ
margin_bytes m = 17 ∷ 0 ∷ 8 ∷ m.left ∷ m.right ∷ m.top ∷ m.bottom ∷ m.fills
