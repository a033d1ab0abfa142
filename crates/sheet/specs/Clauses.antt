-- What the sheet printer refuses, by the frame that was computed, and what it writes of the margin.
use Rattle.std.specs.Prelude.{◌≡◌, ℕ, ◌+◌, ◌*◌, ◌≤◌, List, get_or, replicate, ltb}
use Rattle.common.specs.Choice.{pick}
use Rattle.settings.specs.declared.Margin.{Margin}
use Rattle.paint.specs.Clauses.{Room, pasted}
use Rattle.frame.specs.declared.Frame.{Frame}
use Rattle.frame.specs.Clauses.{large_of}

-- 6 and 8 in this order, for an output of len bytes; 0 where the sheet is printed
unfoldable pub frame_refusal : Frame → ℕ → ℕ
frame_refusal f len = pick (large_of f) 6 (pick (ltb len f.bytes) 8 0)

-- ---- the margin's four sides: n lines of one byte

abbrev pub left_side : Margin → ℕ → List (List ℕ)
left_side m n = replicate n (replicate m.left (get_or m.fills 0 0))

abbrev pub right_side : Margin → ℕ → List (List ℕ)
right_side m n = replicate n (replicate m.right (get_or m.fills 1 0))

abbrev pub top_side : Margin → ℕ → List (List ℕ)
top_side m w = replicate m.top (replicate w (get_or m.fills 2 0))

abbrev pub bottom_side : Margin → ℕ → List (List ℕ)
bottom_side m w = replicate m.bottom (replicate w (get_or m.fills 3 0))

-- where the rectangle inside starts
abbrev pub inside_at : Margin → ℕ → ℕ
inside_at m stride = m.left + m.top * stride

-- the frame is the margin around its rectangle, and fits len bytes
pub record Framed (m : Margin) (f : Frame) (len : ℕ) : Type 0 where
  pub lines_is : f.lines ≡ m.top + f.tall + m.bottom
  pub columns_is : f.columns ≡ m.left + f.wide + m.right
  pub apart : m.left + f.wide + m.right ≤ f.stride
  pub room : Room 0 f.stride (m.top + f.tall + m.bottom) (m.left + f.wide + m.right) len

-- what is written before the leaves' blocks, and after them
abbrev pub before_of : Margin → Frame → List ℕ → List ℕ
before_of m f o = pasted (pasted o 0 f.stride (left_side m f.lines)) m.left f.stride (top_side m f.wide)

abbrev pub after_of : Margin → Frame → List ℕ → List ℕ
after_of m f o = pasted (pasted o (inside_at m f.stride + f.tall * f.stride) f.stride (bottom_side m f.wide)) (m.left
    + f.wide) f.stride (right_side m f.lines)
