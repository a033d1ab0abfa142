-- Settings that were read have 31 bytes, or 42 of which the 32nd is hex 11.
use mathlib.Core.Path.{◌≡◌, refl, sym, ap, ◌∙◌}
use mathlib.Core.Logic.{◌⊎◌, inl, inr}
use mathlib.Core.Bool.{Bool, true, false}
use mathlib.Core.List.{List, [], ◌∷◌}
use Prim.Native.Nat.{ℕ, ◌≤◌}
use native.Mathlib.Omega.{arith}
use lib.ListN.{length, get_or, take, drop, length-take, length-drop}
use lib.Seq.{get_or-drop}
use Rattle.common.specs.Choice.{pick}
use Rattle.settings.specs.declared.Settings.{Settings}
use Rattle.settings.specs.Reading.{low, high, margin_low, margin_high, within, margin_of, settings_of, refused, read, read_behind, read_settings}
use Rattle.settings.proofs.Within.{within_length, within_at, read_form_lem, form_front}

abbrev Long : List ℕ → Type 0
Long l = (length l ≡ 31) ⊎ ((length l ≡ 42) × (get_or l 31 0 ≡ 17))

margin_long : (lines : Bool) (l k : List ℕ) (s : Settings) (b : Bool) → 31 ≤ length l → drop 31 l ≡ k → within margin_low margin_high k ≡ b
    → pick b (read (settings_of lines (margin_of k) (take 31 l))) refused ≡ read s → Long l
margin_long lines l k s true h d e p =
    let many : length k ≡ 11 = within_length margin_low margin_high k e in
    let tag = within_at margin_low margin_high k e 0 (omega arith) in
    let first : get_or k 0 0 ≡ get_or l 31 0 = sym (ap (λ (x : List ℕ). get_or x 0 0) d) ∙ get_or-drop 31 l 0 0 in
    inr (omega (arith, length-drop 31 l, ap length d), omega (arith, tag.0, tag.1))
margin_long lines l k s false h d e p = cc

behind_long : (lines : Bool) (l k : List ℕ) (s : Settings) → 31 ≤ length l → drop 31 l ≡ k → read_behind lines (take 31 l) k ≡ read s → Long l
unfolding read_behind
behind_long lines l [] s h d p = inl (omega (arith, length-drop 31 l, ap length d))
behind_long lines l (b ∷ k) s h d p = margin_long lines l (b ∷ k) s (within margin_low margin_high (b ∷ k)) h d refl p

pub settings_long : (l : List ℕ) (s : Settings) → read_settings l ≡ read s → (length l ≡ 31) ⊎ ((length l ≡ 42) × (get_or l 31 0 ≡ 17))
settings_long l s e =
    let f = read_form_lem l s e in
    let b = form_front f.lines l s f.is in
    behind_long f.lines l (drop 31 l) s (omega (arith, within_length (low f.lines) (high f.lines) (take 31 l) b.0, length-take 31 l)) refl b.1
