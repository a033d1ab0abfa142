-- The default settings, and records with and without a margin and lines, computed.
use Rattle.std.specs.Prelude.{◌≡◌, refl, ℕ, true, false, List, [], ◌∷◌, ◌++◌, replicate}
use Rattle.settings.specs.declared.Alignment.{Alignment}
use Rattle.settings.specs.declared.Priority.{Priority}
use Rattle.settings.specs.Reading.{no_margin, refused, read, read_settings}
use Rattle.settings.specs.Defaults.{defaults, settings_bytes}

-- the 31 bytes of the defaults
pub defaults_bytes : settings_bytes defaults
    ≡ 16 ∷ 0 ∷ 28 ∷ 45 ∷ 45 ∷ 124 ∷ 124 ∷ 45 ∷ 124 ∷ 43 ∷ 43 ∷ 43 ∷ 43 ∷ 43 ∷ 43 ∷ 43 ∷ 43 ∷ 43 ∷ 1 ∷ 1 ∷ 0 ∷ 0 ∷ 32 ∷ 32 ∷ 32 ∷ 32 ∷ 0 ∷ 0 ∷ 0 ∷ 1 ∷ 2 ∷ []
defaults_bytes = refl

pub defaults_read : read_settings (settings_bytes defaults) ≡ read defaults
unfolding read_settings
defaults_read = refl

-- a margin of 2 columns on the left, 1 line on top, of dots and stars
pub margin_read : read_settings (settings_bytes defaults ++ (17 ∷ 0 ∷ 8 ∷ 2 ∷ 0 ∷ 1 ∷ 0 ∷ 46 ∷ 32 ∷ 42 ∷ 32 ∷ []))
    ≡ read (record {
      lines = true;
      margin = record { left = 2; right = 0; top = 1; bottom = 0; fills = 46 ∷ 32 ∷ 42 ∷ 32 ∷ [] };
      marks = defaults.marks;
      left = 1;
      right = 1;
      top = 0;
      bottom = 0;
      fills = replicate 4 32;
      horizontal = Alignment.Start;
      vertical = Alignment.Start;
      line_mode = false;
      width_priority = Priority.Last;
      height_priority = Priority.List;
    })
unfolding read_settings
margin_read = refl

-- a size of 17, a field cut short, a byte too many
pub margin_refused : (read_settings (settings_bytes defaults ++ (17 ∷ 0 ∷ 8 ∷ 17 ∷ 0 ∷ 1 ∷ 0 ∷ 46 ∷ 32 ∷ 42 ∷ 32 ∷ [])) ≡ refused)
    × (read_settings (settings_bytes defaults ++ (17 ∷ 0 ∷ 8 ∷ [])) ≡ refused)
    × (read_settings (settings_bytes defaults ++ (17 ∷ 0 ∷ 8 ∷ 2 ∷ 0 ∷ 1 ∷ 0 ∷ 46 ∷ 32 ∷ 42 ∷ 32 ∷ 1 ∷ [])) ≡ refused)
unfolding read_settings
margin_refused = (refl, refl, refl)

-- fifteen zeros as marks: no lines; a mixture of zeros and marks is refused
abbrev pub bare_record : List ℕ → List ℕ
bare_record marks = 16 ∷ 0 ∷ 28 ∷ (marks ++ (1 ∷ 1 ∷ 0 ∷ 0 ∷ 32 ∷ 32 ∷ 32 ∷ 32 ∷ 0 ∷ 0 ∷ 0 ∷ 1 ∷ 2 ∷ []))

pub bare_read : read_settings (bare_record (replicate 15 0))
    ≡ read (record {
      lines = false;
      margin = no_margin;
      marks = replicate 15 0;
      left = 1;
      right = 1;
      top = 0;
      bottom = 0;
      fills = replicate 4 32;
      horizontal = Alignment.Start;
      vertical = Alignment.Start;
      line_mode = false;
      width_priority = Priority.Last;
      height_priority = Priority.List;
    })
unfolding read_settings
bare_read = refl

pub mixed_refused : (read_settings (bare_record (replicate 14 0 ++ (45 ∷ []))) ≡ refused) × (read_settings (bare_record (0 ∷ replicate 14 45)) ≡ refused)
unfolding read_settings
mixed_refused = (refl, refl)
