-- What the functions of this crate require and ensure, beyond the definitions; no theorem mentions it.
use Rattle.std.specs.Prelude.{ℕ, ◌+◌, ◌*◌, Bool, true, ltb}
use Rattle.common.specs.Choice.{pick}
use Rattle.settings.specs.declared.Settings.{Settings}
use Rattle.settings.specs.declared.Margin.{Margin}
use Rattle.sizes.specs.declared.Size.{Size}
use Rattle.sizes.specs.Sizes.{sep}
use Rattle.frame.specs.declared.Frame.{Frame}
use Rattle.frame.specs.Frame.{columns_of, lines_of}
use Rattle.frame.specs.Promises.{stride_of, byte_count}

-- the frame around w columns and h lines
abbrev pub around : Margin → ℕ → ℕ → Frame
around m w h = record {
  wide = w;
  tall = h;
  columns = columns_of m w;
  lines = lines_of m h;
  stride = stride_of (columns_of m w);
  bytes = byte_count (columns_of m w) (lines_of m h);
}

-- by the root's natural size, with a mark at both ends
abbrev pub frame_of : Settings → Size → Frame
frame_of s z = around s.margin (z.width + 2 * sep s) (z.height + 2 * sep s)

-- over 400 columns or over 160 lines
abbrev pub large_of : Frame → Bool
large_of f = pick (ltb 400 f.columns) true (ltb 160 f.lines)
