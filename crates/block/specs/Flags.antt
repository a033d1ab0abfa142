-- Flags without any inner one.
use Rattle.std.specs.Prelude.{Bool, false}
use Rattle.block.specs.declared.Flags.{Flags}

-- first and last row and column as said, the others no
abbrev pub edge_flags : Bool → Flags
edge_flags edge = record {
  first_row = edge;
  last_row = edge;
  first_col = edge;
  last_col = edge;
  no_right = false;
  lean_top = false;
  top_left = false;
  top_intersection = false;
}

-- no flag
abbrev pub no_flags : Flags
no_flags = edge_flags false
