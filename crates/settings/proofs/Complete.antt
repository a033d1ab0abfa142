-- All settings within 01's ranges are read from their record: nothing else is refused.
use mathlib.Core.Path.{◌≡◌, refl, sym, ap, ◌∙◌}
use mathlib.Core.Bool.{Bool, true, false}
use mathlib.Core.List.{List, [], ◌∷◌, ◌++◌, append-nil}
use Prim.Native.Nat.{ℕ, suc, ◌+◌, ◌≤◌, ◌<◌}
use native.Mathlib.Omega.{arith}
use lib.ListN.{length, get_or, take, drop, replicate, length-append, get_or-append, drop_of_length-le}
use lib.Seq.{get_or-drop, take_all, take-append_seam, drop-append_seam, drop-append-add}
use lib.Dec.{eqb}
use borrow.Author.Tests.{le-ltb}
use Rattle.common.specs.Choice.{pick}
use Rattle.settings.specs.declared.Settings.{Settings}
use Rattle.settings.specs.declared.Margin.{Margin}
use Rattle.settings.specs.declared.Alignment.{Alignment}
use Rattle.settings.specs.declared.Priority.{Priority}
use Rattle.settings.specs.Reading.{low, high, margin_low, margin_high, within, alignment_of, priority_of, margin_of, no_margin, settings_of, read, read_behind}
use Rattle.settings.specs.Reading.{read_form, read_settings}
use Rattle.settings.specs.Promises.{Bounded, Ranges}
use Rattle.settings.proofs.Within.{bare_form, lined_form}
use Rattle.settings.specs.Defaults.{alignment_number, priority_number, settings_bytes, margin_bytes}

-- ---- each byte of the record is within its bounds

byte_within : (l h b : ℕ) (ls hs bs : List ℕ) → l ≤ b → b ≤ h → within (l ∷ ls) (h ∷ hs) (b ∷ bs) ≡ within ls hs bs
unfolding within
byte_within l h b ls hs bs p q = rw (le-ltb b l p, le-ltb h b q)

none_within : within [] [] [] ≡ true
unfolding within
none_within = refl

bytes_within : (l h : ℕ) (bs ls hs rest : List ℕ) → ((i : ℕ) → i < length bs → (l ≤ get_or bs i 0) × (get_or bs i 0 ≤ h))
    → within (replicate (length bs) l ++ ls) (replicate (length bs) h ++ hs) (bs ++ rest) ≡ within ls hs rest
bytes_within l h [] ls hs rest k = refl
bytes_within l h (b ∷ bs) ls hs rest k =
    byte_within l h b _ _ _ (k 0 (omega arith)).0 (k 0 (omega arith)).1 ∙ bytes_within l h bs ls hs rest (λ i j. k (suc i) (omega arith))

bounded_within : (n x y : ℕ) (bs ls hs rest : List ℕ) → Bounded n x y bs → within (replicate n x ++ ls) (replicate n y ++ hs) (bs ++ rest) ≡ within ls hs rest
bounded_within n x y bs ls hs rest p = rw (← p.many) (bytes_within x y bs ls hs rest (λ i j. p.each i (omega (arith, p.many))))

alignment_low : (a : Alignment) → alignment_number a ≤ 2
alignment_low Alignment.Start = omega arith
alignment_low Alignment.Center = omega arith
alignment_low Alignment.End = omega arith

priority_low : (p : Priority) → priority_number p ≤ 2
priority_low Priority.First = omega arith
priority_low Priority.Last = omega arith
priority_low Priority.List = omega arith

mode_low : (b : Bool) → pick b 1 0 ≤ 1
mode_low true = omega arith
mode_low false = omega arith

module _ (s : Settings) (r : Ranges s) where
  record_within : within (low s.lines) (high s.lines) (settings_bytes s) ≡ true
  record_within =
      byte_within 16 16 16 _ _ _ (omega arith) (omega arith)
      ∙ byte_within 0 0 0 _ _ _ (omega arith) (omega arith)
      ∙ byte_within 28 28 28 _ _ _ (omega arith) (omega arith)
      ∙ bounded_within 15 (pick s.lines 32 0) (pick s.lines 126 0) s.marks _ _ _ r.marks
      ∙ byte_within 0 16 s.left _ _ _ (omega arith) r.left
      ∙ byte_within 0 16 s.right _ _ _ (omega arith) r.right
      ∙ byte_within 0 16 s.top _ _ _ (omega arith) r.top
      ∙ byte_within 0 16 s.bottom _ _ _ (omega arith) r.bottom
      ∙ bounded_within 4 32 126 s.fills _ _ _ r.fills
      ∙ byte_within 0 2 (alignment_number s.horizontal) _ _ _ (omega arith) (alignment_low s.horizontal)
      ∙ byte_within 0 2 (alignment_number s.vertical) _ _ _ (omega arith) (alignment_low s.vertical)
      ∙ byte_within 0 1 (pick s.line_mode 1 0) _ _ _ (omega arith) (mode_low s.line_mode)
      ∙ byte_within 0 2 (priority_number s.width_priority) _ _ _ (omega arith) (priority_low s.width_priority)
      ∙ byte_within 0 2 (priority_number s.height_priority) _ _ _ (omega arith) (priority_low s.height_priority)
      ∙ none_within

-- ---- and its fields are read out of it

alignment_read : (a : Alignment) → alignment_of (alignment_number a) ≡ a
alignment_read Alignment.Start = refl
alignment_read Alignment.Center = refl
alignment_read Alignment.End = refl

priority_read : (p : Priority) → priority_of (priority_number p) ≡ p
priority_read Priority.First = refl
priority_read Priority.Last = refl
priority_read Priority.List = refl

mode_read : (b : Bool) → eqb (pick b 1 0) 1 ≡ b
mode_read true = refl
mode_read false = refl

-- the first field, then what follows it
read_front_lem : (lines : Bool) (l f k : List ℕ) → take 31 l ≡ f → drop 31 l ≡ k → within (low lines) (high lines) f ≡ true
    → read_form lines l ≡ read_behind lines f k
unfolding read_form
read_front_lem lines l f k e d h = rw (e, d, h)

read_margin : (lines : Bool) (l : List ℕ) (b : ℕ) (k : List ℕ) → within margin_low margin_high (b ∷ k) ≡ true
    → read_behind lines l (b ∷ k) ≡ read (settings_of lines (margin_of (b ∷ k)) l)
unfolding read_behind
read_margin lines l b k h = rw h

read_none : (lines : Bool) (l : List ℕ) → read_behind lines l [] ≡ read (settings_of lines no_margin l)
unfolding read_behind
read_none lines l = refl

-- the other form has another first mark
read_either : (lines : Bool) (l : List ℕ) → (pick lines 32 0 ≤ get_or l 3 0) × (get_or l 3 0 ≤ pick lines 126 0) → read_settings l ≡ read_form lines l
read_either true l h = lined_form l (λ e. omega (arith, h.0))
read_either false l h = bare_form l (omega (arith, h.1))

-- what follows n bytes
behind : (n : ℕ) (xs ys : List ℕ) → length xs ≡ n → (i : ℕ) → drop (n + i) (xs ++ ys) ≡ drop i ys
behind n xs ys e i = rw (← e) (drop-append-add xs ys i)

front : (n : ℕ) (xs ys : List ℕ) → length xs ≡ n → take n (xs ++ ys) ≡ xs
front n xs ys e = rw (← e) (take-append_seam xs ys)

number : (n : ℕ) (xs ys : List ℕ) → length xs ≡ n → (i : ℕ) → get_or (xs ++ ys) (n + i) 0 ≡ get_or ys i 0
number n xs ys e i =
    let d : drop n (xs ++ ys) ≡ ys = rw (← e) (drop-append_seam xs ys) in
    sym (get_or-drop n (xs ++ ys) i 0) ∙ ap (λ (l : List ℕ). get_or l i 0) d

module _ (s : Settings) (r : Ranges s) where
  choices : List ℕ
  choices = alignment_number s.horizontal ∷ alignment_number s.vertical ∷ pick s.line_mode 1 0 ∷ priority_number s.width_priority
      ∷ priority_number s.height_priority ∷ []

  paddings : List ℕ
  unfolding choices
  paddings = s.left ∷ s.right ∷ s.top ∷ s.bottom ∷ (s.fills ++ choices)

  -- the number at 18 + i
  padding_at : (i : ℕ) → get_or (s.marks ++ paddings) (15 + i) 0 ≡ get_or paddings i 0
  padding_at i = number 15 s.marks paddings r.marks.many i

  -- the number at 26 + i
  choice_at : (i : ℕ) → get_or (s.marks ++ paddings) (15 + (4 + (4 + i))) 0 ≡ get_or choices i 0
  unfolding paddings
  choice_at i =
      padding_at (4 + (4 + i))
      ∙ number 4 (s.left ∷ s.right ∷ s.top ∷ s.bottom ∷ []) (s.fills ++ choices) refl (4 + i)
      ∙ number 4 s.fills choices r.fills.many i

  fields_read : settings_of s.lines s.margin (settings_bytes s) ≡ s
  unfolding paddings choices
  fields_read =
      rw (
        front 15 s.marks paddings r.marks.many,
        padding_at 0,
        padding_at 1,
        padding_at 2,
        padding_at 3,
        behind 15 s.marks paddings r.marks.many 4,
        front 4 s.fills choices r.fills.many,
        choice_at 0,
        choice_at 1,
        choice_at 2,
        choice_at 3,
        choice_at 4,
        alignment_read s.horizontal,
        alignment_read s.vertical,
        mode_read s.line_mode,
        priority_read s.width_priority,
        priority_read s.height_priority,
      )

  record_long : length (settings_bytes s) ≡ 31
  record_long = rw (length-append s.marks, length-append s.fills, r.marks.many, r.fills.many)

  margin_within : within margin_low margin_high (margin_bytes s.margin) ≡ true
  margin_within =
      byte_within 17 17 17 _ _ _ (omega arith) (omega arith)
      ∙ byte_within 0 0 0 _ _ _ (omega arith) (omega arith)
      ∙ byte_within 8 8 8 _ _ _ (omega arith) (omega arith)
      ∙ byte_within 0 16 s.margin.left _ _ _ (omega arith) r.margin_left
      ∙ byte_within 0 16 s.margin.right _ _ _ (omega arith) r.margin_right
      ∙ byte_within 0 16 s.margin.top _ _ _ (omega arith) r.margin_top
      ∙ byte_within 0 16 s.margin.bottom _ _ _ (omega arith) r.margin_bottom
      ∙ rw (← append-nil s.margin.fills) (bounded_within 4 32 126 s.margin.fills [] [] [] r.margin_fills)
      ∙ none_within

  margin_is : margin_of (margin_bytes s.margin) ≡ s.margin
  margin_is = rw (take_all 4 s.margin.fills (omega (arith, r.margin_fills.many)))

  front_is : (k : List ℕ) → take 31 (settings_bytes s ++ k) ≡ settings_bytes s
  front_is k = ap (λ (n : ℕ). take n (settings_bytes s ++ k)) (sym record_long) ∙ take-append_seam (settings_bytes s) k

  behind_is : (k : List ℕ) → drop 31 (settings_bytes s ++ k) ≡ k
  behind_is k = ap (λ (n : ℕ). drop n (settings_bytes s ++ k)) (sym record_long) ∙ drop-append_seam (settings_bytes s) k

  first_mark : (k : List ℕ) → (pick s.lines 32 0 ≤ get_or (settings_bytes s ++ k) 3 0) × (get_or (settings_bytes s ++ k) 3 0 ≤ pick s.lines 126 0)
  unfolding paddings
  first_mark k =
      let e : get_or (settings_bytes s ++ k) 3 0 ≡ get_or s.marks 0 0 = get_or-append (settings_bytes s) k 0 3 (omega (arith, record_long))
      ∙ get_or-append s.marks paddings 0 0 (omega (arith, r.marks.many)) in
      rw e (r.marks.each 0 (omega arith))

  -- with the margin's field
  pub settings_read : read_settings (settings_bytes s ++ margin_bytes s.margin) ≡ read s
  settings_read =
      read_either s.lines _ (first_mark (margin_bytes s.margin))
      ∙ read_front_lem s.lines _ (settings_bytes s) (margin_bytes s.margin) (front_is (margin_bytes s.margin)) (behind_is (margin_bytes s.margin))
      (record_within s r)
      ∙ read_margin s.lines (settings_bytes s) 17 _ margin_within
      ∙ ap read (ap (λ (m : Margin). settings_of s.lines m (settings_bytes s)) margin_is ∙ fields_read)

  -- without it
  pub plain_read : s.margin ≡ no_margin → read_settings (settings_bytes s) ≡ read s
  plain_read e =
      read_either s.lines (settings_bytes s) (rw (append-nil (settings_bytes s)) at (first_mark []))
      ∙ read_front_lem s.lines _ (settings_bytes s) [] (take_all 31 (settings_bytes s) (omega (arith, record_long)))
      (drop_of_length-le (settings_bytes s) {i = 31}
      (omega (arith, record_long))) (record_within s r)
      ∙ read_none s.lines (settings_bytes s)
      ∙ ap read (ap (λ (m : Margin). settings_of s.lines m (settings_bytes s)) (sym e) ∙ fields_read)
