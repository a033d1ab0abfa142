-- What the functions of both calls require and ensure.
use Rattle.std.specs.Prelude.{◌≡◌, ℕ, ◌+◌, ◌*◌, ◌-◌, ◌≤◌, ◌<◌, List, length, drop, Result, MatchResult}
use Rattle.settings.specs.declared.Settings.{Settings}
use Rattle.text.specs.Text.{join_lines}
use Rattle.sizes.specs.declared.Size.{Size}
use Rattle.sizes.specs.Sizes.{leaf_size}
use Rattle.sizes.specs.Clauses.{Fits}
use Rattle.sizes.specs.Input.{Input}
use Rattle.block.specs.declared.Flags.{Flags}
use Rattle.block.specs.Block.{block, block_height, block_width}
use Rattle.layout.specs.Walk.{Placed, leaf_of}
use Rattle.entries.specs.Clauses.{BeginsEntry}
use Rattle.frame.specs.Printer.{no_print, print_to}
use Rattle.leaf.specs.declared.Sought.{Sought}
use Rattle.leaf.specs.Answers.{no_leaf_record, placed_record, leaf_record_of, leaf_print_of}

-- the bytes of a block of that size: (columns + 1) × lines − 1
unfoldable pub block_bytes : Settings → Size → Flags → ℕ
unfolding block_height block_width
block_bytes s z f = block_height s z f * (block_width s z f + 1) - 1

-- both calls refuse with that number
pub record Refuses (i : Input) (n k : ℕ) : Type 0 where
  pub record_is : leaf_record_of i n ≡ no_leaf_record k
  pub print_is : (o : List ℕ) → leaf_print_of i n o ≡ no_print k o

-- es begins with the entry of a leaf that can be printed
pub record ShowsLeaf (tree list es : List ℕ) (s : Settings) : Type 0 where
  pub leaf : Placed
  pub stride : ℕ
  pub begins : BeginsEntry s stride tree list leaf es
  pub fits : Fits (leaf_size s leaf.text) leaf.at.size
  pub short : length tree < 65536

-- it is the leaf that both calls answer for
pub record Meets (i : Input) (n : ℕ) (tree list es : List ℕ) (s : Settings) : Type 0 where
  pub shows : ShowsLeaf tree list es s
  pub record_is : leaf_record_of i n ≡ placed_record shows.leaf
  pub print_is : (o : List ℕ) → leaf_print_of i n o ≡ print_to (join_lines (block s (leaf_of shows.leaf))) o

-- and its entry begins there
pub record Leads (i : Input) (n : ℕ) (tree : List ℕ) (r : Sought) (list leaves : List ℕ) : Type 0 where
  pub meets : Meets i n tree list (drop r.entry leaves) r.settings
  pub within : r.entry ≤ length leaves

abbrev pub Seeks : Input → ℕ → List ℕ → Result Sought ℕ → List ℕ → List ℕ → Type 0
Seeks i n tree r list leaves = MatchResult r (λ q. Leads i n tree q list leaves) (λ k. Refuses i n k)
