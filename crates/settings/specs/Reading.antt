-- Reading the settings (document 01, "Settings record"; document 02, 1 and 13): tag hex 10, two-byte length 28, 28 bytes, each in its own range, or fifteen
-- zeros as marks; then nothing, or the margin.
use Rattle.std.specs.Prelude.{ℕ, Bool, true, false, List, [], ◌∷◌, ◌++◌, get_or, take, drop, replicate, ltb, eqb}
use Rattle.common.specs.Choice.{pick}
use Rattle.settings.specs.declared.Settings.{Settings}
use Rattle.settings.specs.declared.Alignment.{Alignment}
use Rattle.settings.specs.declared.Margin.{Margin}
use Rattle.settings.specs.declared.Priority.{Priority}
use Rattle.settings.specs.declared.ReadSettings.{ReadSettings}

-- the least and the greatest value of each byte, with lines and without: tag, length, 15 marks, 4 padding sizes, 4 fills, 2 alignments, line mode, 2 priorities
abbrev pub low : Bool → List ℕ
low lines = 16 ∷ 0 ∷ 28 ∷ (replicate 15 (pick lines 32 0) ++ (replicate 4 0 ++ (replicate 4 32 ++ (0 ∷ 0 ∷ 0 ∷ 0 ∷ 0 ∷ []))))

abbrev pub high : Bool → List ℕ
high lines = 16 ∷ 0 ∷ 28 ∷ (replicate 15 (pick lines 126 0) ++ (replicate 4 16 ++ (replicate 4 126 ++ (2 ∷ 2 ∷ 1 ∷ 2 ∷ 2 ∷ []))))

-- of the margin: tag hex 11, two-byte length 8, 4 sizes, 4 fills, in the padding's order and ranges
abbrev pub margin_low : List ℕ
margin_low = 17 ∷ 0 ∷ 8 ∷ (replicate 4 0 ++ replicate 4 32)

abbrev pub margin_high : List ℕ
margin_high = 17 ∷ 0 ∷ 8 ∷ (replicate 4 16 ++ replicate 4 126)

-- as many bytes as bounds, each byte from its least to its greatest value
unfoldable pub within : List ℕ → List ℕ → List ℕ → Bool
within [] [] [] = true
within (l ∷ ls) (h ∷ hs) (b ∷ bs) = pick (ltb b l) false (pick (ltb h b) false (within ls hs bs))
within [] [] (b ∷ bs) = false
within [] (h ∷ hs) bs = false
within (l ∷ ls) [] bs = false
within (l ∷ ls) (h ∷ hs) [] = false

abbrev pub alignment_of : ℕ → Alignment
alignment_of b = pick (eqb b 0) Alignment.Start (pick (eqb b 1) Alignment.Center Alignment.End)

abbrev pub priority_of : ℕ → Priority
priority_of b = pick (eqb b 0) Priority.First (pick (eqb b 1) Priority.Last Priority.List)

abbrev pub margin_of : List ℕ → Margin
margin_of l = record { left = get_or l 3 0; right = get_or l 4 0; top = get_or l 5 0; bottom = get_or l 6 0; fills = take 4 (drop 7 l) }

-- without the field
abbrev pub no_margin : Margin
no_margin = record { left = 0; right = 0; top = 0; bottom = 0; fills = replicate 4 32 }

-- the fields, from the bytes of the record, with or without lines, with that margin
abbrev pub settings_of : Bool → Margin → List ℕ → Settings
settings_of lines m l = record {
  lines = lines;
  margin = m;
  marks = take 15 (drop 3 l);
  left = get_or l 18 0;
  right = get_or l 19 0;
  top = get_or l 20 0;
  bottom = get_or l 21 0;
  fills = take 4 (drop 22 l);
  horizontal = alignment_of (get_or l 26 0);
  vertical = alignment_of (get_or l 27 0);
  line_mode = eqb (get_or l 28 0) 1;
  width_priority = priority_of (get_or l 29 0);
  height_priority = priority_of (get_or l 30 0);
}

pub data Parsed : Type 0 where
  refused : Parsed
  read : Settings → Parsed

-- what follows the first field: nothing, or the margin
unfoldable pub read_behind : Bool → List ℕ → List ℕ → Parsed
unfolding within
read_behind lines l [] = read (settings_of lines no_margin l)
read_behind lines l (b ∷ k) = pick (within margin_low margin_high (b ∷ k)) (read (settings_of lines (margin_of (b ∷ k)) l)) refused

-- the settings with lines, or without
unfoldable pub read_form : Bool → List ℕ → Parsed
unfolding within read_behind
read_form lines l = pick (within (low lines) (high lines) (take 31 l)) (read_behind lines (take 31 l) (drop 31 l)) refused

abbrev pub or_else : Parsed → Parsed → Parsed
or_else refused p = p
or_else (read s) p = read s

-- in either form: so fifteen zeros as marks mean no lines, and a mixture is refused
unfoldable pub read_settings : List ℕ → Parsed
unfolding read_form
read_settings l = or_else (read_form true l) (read_form false l)

-- how many bytes of the program's input are settings, or all if there are fewer: 11 more where a hex 11 follows the first field
unfoldable pub settings_end : List ℕ → ℕ
settings_end l = pick (eqb (get_or l 31 0) 17) 42 31

-- the fields of a refusal: 0 or no everywhere, and the variants numbered 0
abbrev pub blank : Settings
blank = record {
  lines = false;
  margin = record { left = 0; right = 0; top = 0; bottom = 0; fills = replicate 4 0 };
  marks = replicate 15 0;
  left = 0;
  right = 0;
  top = 0;
  bottom = 0;
  fills = replicate 4 0;
  horizontal = Alignment.Start;
  vertical = Alignment.Start;
  line_mode = false;
  width_priority = Priority.First;
  height_priority = Priority.First;
}

-- the reader's answer for each
abbrev pub parsed_answer : Parsed → ReadSettings
parsed_answer refused = record { number = 1; settings = blank }
parsed_answer (read s) = record { number = 0; settings = s }

abbrev pub settings_answer : List ℕ → ReadSettings
settings_answer l = parsed_answer (read_settings l)
