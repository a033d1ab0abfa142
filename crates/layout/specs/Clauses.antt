-- What the functions on flags require and ensure: flags as a number.
use Rattle.std.specs.Prelude.{ℕ, ◌+◌, ◌*◌, ◌/◌, ◌%◌, eqb, List}
use Rattle.common.specs.Choice.{pick}
use Rattle.settings.specs.declared.Settings.{Settings}
use Rattle.text.specs.Text.{join_lines}
use Rattle.block.specs.declared.Flags.{Flags}
use Rattle.block.specs.Block.{block}
use Rattle.layout.specs.Walk.{Context, Placed, leaf_of}
use Rattle.layout.specs.Promises.{Place}

-- a binary digit for each flag
unfoldable pub flags_number : Flags → ℕ
flags_number f =
    pick f.first_row 1 0 + 2 * pick f.last_row 1 0 + (4 * pick f.first_col 1 0 + 8 * pick f.last_col 1 0)
    + (16 * pick f.no_right 1 0 + 32 * pick f.lean_top 1 0) + (64 * pick f.top_left 1 0 + 128 * pick f.top_intersection 1 0)

-- the flags that a number encodes
unfoldable pub flags_at : ℕ → Flags
flags_at n = record {
  first_row = eqb (n / 1 % 2) 1;
  last_row = eqb (n / 2 % 2) 1;
  first_col = eqb (n / 4 % 2) 1;
  last_col = eqb (n / 8 % 2) 1;
  no_right = eqb (n / 16 % 2) 1;
  lean_top = eqb (n / 32 % 2) 1;
  top_left = eqb (n / 64 % 2) 1;
  top_intersection = eqb (n / 128 % 2) 1;
}

abbrev pub place_of : Context → Place
place_of c = record { line = c.line; column = c.column }

-- what the leaf printer writes for a leaf
abbrev pub block_of : Settings → Placed → List ℕ
block_of s f = join_lines (block s (leaf_of f))
