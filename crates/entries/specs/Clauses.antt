-- The list of a tree's leaves, as the walk writes it and the printers read it.
use Rattle.std.specs.Prelude.{◌≡◌, ℕ, ◌+◌, ◌*◌, ◌≤◌, ◌<◌, true, false, List, [], ◌∷◌, ◌++◌, length, get_or, take, drop, eqb}
use Rattle.std.proofs.Math.Option.{Option, some, none}
use Rattle.common.specs.Choice.{pick}
use Rattle.common.specs.Every.{Every}
use Rattle.settings.specs.declared.Settings.{Settings}
use Rattle.tree.specs.Bytes.{length_at}
use Rattle.tree.specs.Promises.{contents}
use Rattle.splits.specs.declared.cut.CutPair.{CutPair}
use Rattle.sizes.specs.Sizes.{leaf_size}
use Rattle.sizes.specs.Clauses.{Here, Fits}
use Rattle.block.specs.Block.{block, block_height, block_width}
use Rattle.paint.specs.Clauses.{pasted, Room}
use Rattle.layout.specs.Walk.{Placed, leaf_of}
use Rattle.layout.specs.Clauses.{flags_number}
use Rattle.entries.specs.declared.entry.Spot.{Spot}
use Rattle.entries.specs.declared.entry.Entry.{Entry}
use Rattle.entries.specs.declared.FoundEntry.{FoundEntry}

-- ---- an entry

-- eight numbers, then the pieces of the horizontal and of the vertical list
abbrev pub entry_with : Spot → CutPair → List ℕ → List ℕ → List ℕ
entry_with p k h v = p.node ∷ p.at ∷ p.base ∷ p.flags ∷ length h ∷ length v ∷ k.taken ∷ k.rest ∷ (h ++ v)

-- the numbers of the entry at the front of a list
abbrev pub entry_at : List ℕ → Entry
entry_at l = record {
  spot = record { node = get_or l 0 0; at = get_or l 1 0; base = get_or l 2 0; flags = get_or l 3 0 };
  horizontal = get_or l 4 0;
  vertical = get_or l 5 0;
  pair = record { taken = get_or l 6 0; rest = get_or l 7 0 };
}

abbrev pub entry_length : List ℕ → ℕ
entry_length l = 8 + get_or l 4 0 + get_or l 5 0

-- the entry from i on fits, and its numbers fit 16 bits
pub record EntryRoom (i : ℕ) (p : Spot) (k : CutPair) (h v : List ℕ) (len : ℕ) : Type 0 where
  pub room : i + 8 + length h + length v ≤ len
  pub node : p.node < 65536
  pub at : p.at < 65536
  pub base : p.base < 65536
  pub flags : p.flags < 65536
  pub few_h : length h < 65536
  pub few_v : length v < 65536
  pub taken : k.taken < 65536

-- after the first i numbers of the list, which was l₀, comes e up to r
pub record PutEntry (i : ℕ) (e : List ℕ) (r : ℕ) (l₀ l : List ℕ) : Type 0 where
  pub end_is : r ≡ i + length e
  pub front_is : take r l ≡ take i l₀ ++ e

-- ---- the leaves of a tree

-- the leaf's first byte in a sheet whose lines begin `stride` bytes apart
abbrev pub base_of : ℕ → Placed → ℕ
base_of stride l = l.at.line * stride + l.at.column

-- its entry: its element begins at `at` of the tree's bytes
abbrev pub entry_of : ℕ → ℕ → Placed → List ℕ
entry_of stride at l =
    entry_with (record { node = l.at.node; at = at; base = base_of stride l; flags = flags_number l.at.flags }) l.at.pair l.at.horizontal
    l.at.vertical

-- at `at` of the tree's bytes is the leaf's element, in the list its sizes
pub record Stands (s : Settings) (tree list : List ℕ) (at : ℕ) (l : Placed) : Type 0 where
  pub inside : at + 3 + length_at (drop at tree) ≤ length tree
  pub text_is : contents (drop at tree) ≡ l.text
  pub sizes : Here (leaf_size s l.text) l.at.size l.at.node list
  pub few_h : length l.at.horizontal ≤ 512
  pub few_v : length l.at.vertical ≤ 512

-- es is the entries of those leaves, one after the other
pub data Listing (s : Settings) (stride : ℕ) (tree list : List ℕ) : List Placed → List ℕ → Type 0 where
  empty : Listing s stride tree list [] []
  entry : (at : ℕ) {l : Placed} {ls : List Placed} {es : List ℕ} → Stands s tree list at l → Listing s stride tree list ls es
      → Listing s stride tree list (l ∷ ls) (entry_of stride at l ++ es)

-- the list, which was l₀ up to i, also holds up to r the entries of those leaves
pub record WroteEntries (s : Settings) (stride : ℕ) (tree list : List ℕ) (i : ℕ) (l₀ : List ℕ) (r : ℕ) (l : List ℕ) (ls : List Placed) : Type 0 where
  pub entries : List ℕ
  pub listing : Listing s stride tree list ls entries
  pub put : PutEntry i entries r l₀ l

-- ---- finding one of them

-- the leaf with that node number
unfoldable pub entry_leaf : ℕ → List Placed → Option Placed
entry_leaf n [] = none
entry_leaf n (l ∷ ls) = pick (eqb l.at.node n) (some l) (entry_leaf n ls)

-- a list of leaves
pub record Lists (es : List ℕ) : Type 0 where
  pub settings : Settings
  pub stride : ℕ
  pub tree : List ℕ
  pub list : List ℕ
  pub leaves : List Placed
  pub listing : Listing settings stride tree list leaves es

-- es begins with the leaf's entry
pub record BeginsEntry (s : Settings) (stride : ℕ) (tree list : List ℕ) (l : Placed) (es : List ℕ) : Type 0 where
  pub at : ℕ
  pub rest : List ℕ
  pub is : es ≡ entry_of stride at l ++ rest
  pub stands : Stands s tree list at l

pub record Hits (es : List ℕ) (q : Lists es) (r : FoundEntry) (l : Placed) : Type 0 where
  pub hit : r.hit ≡ true
  pub within : r.entry < length es
  pub begins : BeginsEntry q.settings q.stride q.tree q.list l (drop r.entry es)

-- where the leaf's entry begins, if there is such a leaf
abbrev pub FindsEntry : (es : List ℕ) → Lists es → FoundEntry → Option Placed → Type 0
FindsEntry es q r none = r ≡ record { hit = false; entry = 0 }
FindsEntry es q r (some l) = Hits es q r l

-- ---- painting leaves

-- its text fits its size, and its block fits the output
pub record Asks (s : Settings) (stride len : ℕ) (l : Placed) : Type 0 where
  pub fits : Fits (leaf_size s l.text) l.at.size
  pub apart : block_width s l.at.size l.at.flags ≤ stride
  pub room : Room (base_of stride l) stride (block_height s l.at.size l.at.flags) (block_width s l.at.size l.at.flags) len

-- its block at its first byte
abbrev pub painted : Settings → ℕ → List ℕ → Placed → List ℕ
painted s stride o l = pasted o (base_of stride l) stride (block s (leaf_of l))

-- what `paint_leaf` requires
pub record Paints (tree list es : List ℕ) (s : Settings) (stride len : ℕ) : Type 0 where
  pub leaf : Placed
  pub begins : BeginsEntry s stride tree list leaf es
  pub short : length tree < 65536
  pub asks : Asks s stride len leaf

-- the blocks of all leaves
abbrev pub paint_all : Settings → ℕ → List ℕ → List Placed → List ℕ
paint_all s stride o [] = o
paint_all s stride o (l ∷ ls) = paint_all s stride (painted s stride o l) ls

-- what `paint_leaves` requires
pub record PaintsAll (tree list es : List ℕ) (s : Settings) (stride len : ℕ) : Type 0 where
  pub leaves : List Placed
  pub listing : Listing s stride tree list leaves es
  pub short : length tree < 65536
  pub asks : Every (Asks s stride len) leaves
