-- How a text is placed in its allotted size, and the room of each part of the body.
use mathlib.Core.Path.{◌≡◌, refl}
use Prim.Native.Nat.{ℕ, ◌+◌, ◌-◌, ◌*◌, ◌≤◌}
use native.Mathlib.Omega.{arith}
use mathlib.Core.List.{List, ◌++◌, map, append_assoc}
use lib.ListN.{get_or, replicate}
use Rattle.settings.specs.declared.Settings.{Settings}
use Rattle.text.specs.Text.{lines, text_width, text_height}
use Rattle.sizes.specs.declared.Size.{Size}
use Rattle.sizes.specs.Sizes.{leaf_size}
use Rattle.sizes.specs.Clauses.{Fits}
use Rattle.block.specs.Block.{text_line, body}
use Rattle.block.proofs.TextLine.{before_le}
use Rattle.paint.specs.declared.body.BodyRows.{BodyRows}
use Rattle.paint.specs.Clauses.{Room, body_rows_of}
use Rattle.paint.proofs.Room.{room_first, room_then}

pub natural_wide : (s : Settings) (t : List ℕ) (n : Size) → n ≡ leaf_size s t → s.left + s.right ≤ n.width
unfolding leaf_size
natural_wide s t n e = rw e (omega arith)

pub natural_tall : (s : Settings) (t : List ℕ) (n : Size) → n ≡ leaf_size s t → n.height ≡ text_height t + s.top + s.bottom
unfolding leaf_size
natural_tall s t n e = rw e

-- the plan k of the text t in the size z
pub record BodyFits (s : Settings) (t : List ℕ) (z : Size) (k : BodyRows) : Type 0 where
  pub tall : z.height ≡ k.above + s.top + (text_height t + (s.bottom + k.below))
  pub wide : s.left + k.inner + s.right ≡ z.width
  pub widest_is : k.widest ≡ text_width t
  pub within : k.widest ≤ k.inner
  pub body_is : body s t z
      ≡ (replicate k.above (replicate z.width 32) ++ replicate s.top (replicate z.width (get_or s.fills 2 0)))
      ++ (map (text_line s k.inner k.widest) (lines t)
      ++ (replicate s.bottom (replicate z.width (get_or s.fills 3 0)) ++ replicate k.below (replicate z.width 32)))

plan_planned : (s : Settings) (t : List ℕ) (z : Size) → Fits (leaf_size s t) z → BodyFits s t z (body_rows_of s (leaf_size s t) z)
unfolding body_rows_of leaf_size body
plan_planned s t z fits =
    let b = before_le s.vertical (z.height - (text_height t + s.top + s.bottom)) in
    let x = fits.wide in
    let y = fits.tall in
    let w : text_width t + s.left + s.right - s.left - s.right ≡ text_width t = omega arith in
    let h : z.height - s.top - s.bottom - text_height t ≡ z.height - (text_height t + s.top + s.bottom) = omega arith in
    record { tall = omega arith; wide = omega arith; widest_is = w; within = omega arith; body_is = rw (h, w, append_assoc) }

pub body_fits : (s : Settings) (t : List ℕ) (n z : Size) (k : BodyRows) → n ≡ leaf_size s t → Fits n z → k ≡ body_rows_of s n z → BodyFits s t z k
body_fits s t n z k is fits e = rw (e, is) (plan_planned s t z (rw is at fits))

-- ---- the room of the parts

module _ (s : Settings) (t : List ℕ) (z : Size) (k : BodyRows) (h : BodyFits s t z k) (at stride len : ℕ)
    (room : Room at stride z.height z.width len) where
  whole : Room at stride (k.above + s.top + (text_height t + (s.bottom + k.below))) z.width len
  whole = rw h.tall at room

  pub above_room : Room at stride (k.above + s.top) z.width len
  above_room = room_first _ _ whole

  module _ (p : ℕ) (ep : p ≡ at + (k.above + s.top) * stride) where
    rest : Room p stride (text_height t + (s.bottom + k.below)) z.width len
    rest = room_then (k.above + s.top) _ whole ep refl

    pub text_room : {len' : ℕ} → len' ≡ len → Room p stride (text_height t) (s.left + k.inner + s.right) len'
    text_room l = rw (h.wide, l) (room_first _ _ rest)
