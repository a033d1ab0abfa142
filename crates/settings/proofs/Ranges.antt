-- Settings that were read are within 01's ranges.
use mathlib.Core.Path.{◌≡◌, refl, sym, ◌∙◌, ap}
use mathlib.Core.Bool.{Bool, true, false}
use mathlib.Core.List.{List, [], ◌∷◌, ◌++◌}
use Prim.Native.Nat.{ℕ, ◌+◌, ◌≤◌, ◌<◌}
use native.Mathlib.Omega.{arith}
use lib.ListN.{length, get_or, take, drop, replicate, length-drop, length-replicate, get_or-append, get_or-replicate}
use lib.Seq.{get_or-take, get_or-drop, length-take-le}
use Rattle.common.specs.Choice.{pick}
use Rattle.settings.specs.declared.Settings.{Settings}
use Rattle.settings.specs.declared.Margin.{Margin}
use Rattle.settings.specs.Reading.{low, high, margin_low, margin_high, within, margin_of, no_margin, settings_of, refused, read, read_behind, read_settings}
use Rattle.settings.specs.Promises.{Bounded, Printable, Ranges}
use Rattle.settings.proofs.Within.{within_length, within_at, read_form_lem, form_front}

-- the number at k + i where there are n equal ones from k on
bound_at : (l : List ℕ) (k n x : ℕ) (rest : List ℕ) → drop k l ≡ replicate n x ++ rest → (i : ℕ) → i < n → get_or l (k + i) 0 ≡ x
bound_at l k n x rest e i h =
    sym (get_or-drop k l i 0) ∙ ap (λ (y : List ℕ). get_or y i 0) e
    ∙ get_or-append (replicate n x) rest 0 i (rw length-replicate h) ∙ get_or-replicate n i x 0 h

module _ (ls hs l : List ℕ) (e : within ls hs l ≡ true) where
  -- the n bytes from k on, which all have the same bounds
  bounded : (k n x y : ℕ) (lr hr : List ℕ) → drop k ls ≡ replicate n x ++ lr → drop k hs ≡ replicate n y ++ hr → k + n ≤ length ls
      → Bounded n x y (take n (drop k l))
  bounded k n x y lr hr p q h = record {
    many = length-take-le n (drop k l) (rw length-drop (omega (arith, within_length ls hs l e)));
    each = λ i j.
        let at = within_at ls hs l e (k + i) (omega arith) in
        let a = bound_at ls k n x lr p i j in
        let z = bound_at hs k n y hr q i j in
        rw (get_or-take n (drop k l) i 0 j, get_or-drop k l i 0) (omega (arith, at.0), omega (arith, at.1));
  }

  at_most : (i : ℕ) → i < length ls → get_or l i 0 ≤ get_or hs i 0
  at_most i h = (within_at ls hs l e i h).1

-- a margin's sizes and fills
record Edges (m : Margin) : Type 0 where
  left : m.left ≤ 16
  right : m.right ≤ 16
  top : m.top ≤ 16
  bottom : m.bottom ≤ 16
  fills : Printable 4 m.fills

edges : (l : List ℕ) → within margin_low margin_high l ≡ true → Edges (margin_of l)
edges l e = record {
  left = at_most margin_low margin_high l e 3 (omega arith);
  right = at_most margin_low margin_high l e 4 (omega arith);
  top = at_most margin_low margin_high l e 5 (omega arith);
  bottom = at_most margin_low margin_high l e 6 (omega arith);
  fills = bounded margin_low margin_high l e 7 4 32 126 [] [] refl refl (omega arith);
}

space : (i : ℕ) → i < 4 → (32 ≤ get_or (replicate 4 32) i 0) × (get_or (replicate 4 32) i 0 ≤ 126)
space i h = let z : ◌≡◌ {A = ℕ} (get_or (replicate 4 32) i 0) 32 = get_or-replicate 4 i 32 0 h in (omega arith, omega arith)

no_edges : Edges no_margin
no_edges = record { left = omega arith; right = omega arith; top = omega arith; bottom = omega arith; fills = record { many = refl; each = space } }

module _ (lines : Bool) (l : List ℕ) (e : within (low lines) (high lines) l ≡ true) where
  ranges : (m : Margin) → Edges m → Ranges (settings_of lines m l)
  ranges m g = record {
    marks = bounded (low lines) (high lines) l e 3 15 (pick lines 32 0) (pick lines 126 0) (drop 18 (low lines)) (drop 18 (high lines)) refl refl (omega arith);
    left = at_most (low lines) (high lines) l e 18 (omega arith);
    right = at_most (low lines) (high lines) l e 19 (omega arith);
    top = at_most (low lines) (high lines) l e 20 (omega arith);
    bottom = at_most (low lines) (high lines) l e 21 (omega arith);
    margin_left = g.left;
    margin_right = g.right;
    margin_top = g.top;
    margin_bottom = g.bottom;
    margin_fills = g.fills;
    fills = bounded (low lines) (high lines) l e 22 4 32 126 (drop 26 (low lines)) (drop 26 (high lines)) refl refl (omega arith);
  }

  second : (b : Bool) (k : List ℕ) (s : Settings) → (b ≡ true → Edges (margin_of k)) → pick b (read (settings_of lines (margin_of k) l)) refused ≡ read s
      → Ranges s
  second true k s g p = let z : settings_of lines (margin_of k) l ≡ s = cc in rw z at (ranges (margin_of k) (g refl))
  second false k s g p = cc

  behind : (k : List ℕ) (s : Settings) → read_behind lines l k ≡ read s → Ranges s
  unfolding read_behind
  behind [] s p = let z : settings_of lines no_margin l ≡ s = cc in rw z at (ranges no_margin no_edges)
  behind (b ∷ k) s p = second (within margin_low margin_high (b ∷ k)) (b ∷ k) s (edges (b ∷ k)) p

pub settings_small : (l : List ℕ) (s : Settings) → read_settings l ≡ read s → Ranges s
settings_small l s e =
    let f = read_form_lem l s e in
    let b = form_front f.lines l s f.is in
    behind f.lines (take 31 l) b.0 (drop 31 l) s b.1
