-- The bytes of a text as they are shown: what show_byte answers, and the bytes that put_text has yet to write.
use mathlib.Core.Path.{◌≡◌, refl, sym, ap, ◌∙◌}
use Prim.Native.Nat.{ℕ, suc, ◌+◌, ◌≤◌, ◌<◌}
use native.Mathlib.Omega.{arith}
use native.Mathlib.Numerals.{add-one}
use mathlib.Core.Bool.{Bool}
use mathlib.Core.List.{List, map}
use lib.ListN.{length, get_or, set, drop, length-set}
use lib.Seq.{sets, drop-cons, drop-length}
use Rattle.blank.specs.Blank.{shown_byte}

-- ---- a text, byte by byte

module _ (d : Bool) (text o₀ : List ℕ) (at : ℕ) where
  -- with the bytes from j on, the output is the result
  pub record Showing (o : List ℕ) (j : ℕ) : Type 0 where
    pub few : j ≤ length text
    pub long : length o ≡ length o₀
    pub left : sets o (at + j) (map (shown_byte d) (drop j text)) ≡ sets o₀ at (map (shown_byte d) text)

  pub shown_none : Showing o₀ 0
  shown_none = let e : at + 0 ≡ at = omega arith in record { few = omega arith; long = refl; left = rw e }

  pub show_more : (o : List ℕ) (j v : ℕ) → Showing o j → j < length text → v ≡ shown_byte d (get_or text j 0) → Showing (set o (at + j) v) (j + 1)
  show_more o j v k h e =
      let i : at + (j + 1) ≡ suc (at + j) = omega arith in
      record {
        few = omega arith;
        long = length-set o (at + j) v ∙ k.long;
        left = rw (i, add-one j, e) (sym (ap (λ (l : List ℕ). sets o (at + j) (map (shown_byte d) l)) (drop-cons text j 0 h)) ∙ k.left);
      }

  pub show_all : (o : List ℕ) (j : ℕ) → Showing o j → length text ≤ j → o ≡ sets o₀ at (map (shown_byte d) text)
  show_all o j k h =
      let e : j ≡ length text = omega (arith, k.few) in
      rw (e, drop-length text) at k.left
