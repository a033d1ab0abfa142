-- Demand 3 about what the calls answer and write: `Tiled`, `SharedOut`. Quotations are of demand 3, and of document 01 where marked so. The separator width
-- `sep` is document 01's one column and one line: 1, or 0 without lines (document 02, 13). The rectangle is the one inside the margin: "its starts and places
-- count from that rectangle's first line and column" (document 02, 1).
use Rattle.std.specs.Prelude.{◌≡◌, ◌↔◌, ℕ, suc, ◌+◌, ◌-◌, ◌*◌, ◌≤◌, ◌<◌, List, [], map, length, get_or, take}
use Rattle.std.proofs.Math.Option.{some}
use Rattle.std.proofs.Math.ListN.{get_elem?}
use Rattle.common.specs.Choice.{pick}
use Rattle.common.specs.Every.{Every}
use Rattle.common.specs.Sums.{total}
use Rattle.splits.specs.Lists.{list_of}
use Rattle.common.specs.Outcome.{Outcome}
use Rattle.settings.specs.declared.Settings.{Settings}
use Rattle.tree.specs.Tree.{Axis, across, down, Tree, cell, group, Trees, count, nodes}
use Rattle.tree.specs.Promises.{subtrees, child_nodes}
use Rattle.text.specs.Text.{lines}
use Rattle.sizes.specs.declared.Size.{Size}
use Rattle.sizes.specs.Sizes.{sep, natural}
use Rattle.sizes.specs.Input.{given, input_of}
use Rattle.block.specs.Block.{Leaf, block}
use Rattle.collector.specs.declared.Collected.{Collected}
use Rattle.collector.specs.declared.SizeRecord.{SizeRecord}
use Rattle.collector.specs.Records.{collect_of}
use Rattle.collector.specs.Promises.{no_size_record}
use Rattle.layout.specs.Promises.{Place, origin, start_at}
use Rattle.frame.specs.declared.Written.{Written}
use Rattle.frame.specs.Promises.{byte_count}
use Rattle.leaf.specs.declared.LeafRecord.{LeafRecord}
use Rattle.leaf.specs.Answers.{leaf_record_of, leaf_print_of}
use Rattle.sheet.specs.Answers.{sheet_of}

-- ---- what the calls wrote

-- the record of node n in the list that the caller has after the size collector's call, of those that its answer counts
abbrev pub sizes_written : Outcome Collected (List SizeRecord) → ℕ → SizeRecord
sizes_written c n = get_or (take c.answer.count c.memory) n no_size_record

-- the size that is allotted to the node there
abbrev pub allotted_written : Outcome Collected (List SizeRecord) → ℕ → Size
allotted_written c n = record { width = (sizes_written c n).width; height = (sizes_written c n).height }

-- what a printer wrote, "read in lines parted at each 0A" (01)
abbrev pub lines_in : Outcome Written (List ℕ) → List (List ℕ)
lines_in p = lines (take p.answer.count p.memory)

-- the byte at line i, column k
abbrev pub byte_in : Outcome Written (List ℕ) → ℕ → ℕ → ℕ
byte_in p i k = get_or (get_or (lines_in p) i []) k 0

-- it is h lines of w columns
pub record Rectangle (p : Outcome Written (List ℕ)) (h w : ℕ) : Type 0 where
  pub lines : length (lines_in p) ≡ h
  pub columns : Every (λ line. length line ≡ w) (lines_in p)

-- exactly one number has that property
pub record OneNode (P : ℕ → Type 0) : Type 0 where
  pub node : ℕ
  pub has : P node
  pub only : (m : ℕ) → P m → m ≡ node

-- the text of a leaf: an empty Row or Column has none
abbrev pub leaf_text : Tree → List ℕ
leaf_text (cell text) = text
leaf_text (group a ts) = []

-- ---- the definitions, for the bytes of settings and tree that all calls get, the settings and the tree that these bytes encode, and what the size collector
-- answered and wrote

module _ (bs ts : List ℕ) (s : Settings) (t : Tree) (c : Outcome Collected (List SizeRecord)) where
  -- nodes are numbered from 0, parent before children, left to right: node n is the tree u
  abbrev pub NodeIs : ℕ → Tree → Type 0
  NodeIs n u = get_elem? (subtrees t) n ≡ some u

  -- the children of node n, which is a group of the trees us: child i is node m
  abbrev pub ChildIs : ℕ → Trees → ℕ → ℕ → Type 0
  ChildIs n us i m = get_elem? (child_nodes (suc n) us) i ≡ some m

  -- ---- a leaf's block

  -- what the leaf record answers for node n, and what the leaf printer answers for it and writes into the lent output
  abbrev pub leaf_answer : ℕ → LeafRecord
  leaf_answer n = leaf_record_of (input_of bs ts) n

  abbrev pub leaf_print : ℕ → List ℕ → Outcome Written (List ℕ)
  leaf_print n o = leaf_print_of (input_of bs ts) n o

  -- where node n starts, by the sizes written: `Tiles`'s `root_starts`, `row_starts` and `column_starts` say how
  abbrev pub start_in : ℕ → Place
  start_in n = start_at s (allotted_written c) t n

  -- "a leaf's block has 1 + allotted height lines, one more under last_row, of 1 + allotted width columns, one more under last_col" (01): the size as written,
  -- the flags as answered
  abbrev pub block_lines : ℕ → ℕ
  block_lines n = sep s + (sizes_written c n).height + pick (leaf_answer n).flags.last_row (sep s) 0

  abbrev pub block_columns : ℕ → ℕ
  block_columns n = sep s + (sizes_written c n).width + pick (leaf_answer n).flags.last_col (sep s) 0

  -- node n is a leaf, and line i, column k is a place of its block: "its places are those it covers from the leaf's start" (01)
  pub record BlockCovers (n i k : ℕ) : Type 0 where
    pub leaf : (leaf_answer n).number ≡ 0
    pub from_line : (start_in n).line ≤ i
    pub to_line : i < (start_in n).line + block_lines n
    pub from_column : (start_in n).column ≤ k
    pub to_column : k < (start_in n).column + block_columns n

  -- the leaf of node n as document 01's block takes it: its text, the size as written, the split lists and the flags as answered
  abbrev pub leaf_seen : ℕ → Leaf
  leaf_seen n = record {
    text = leaf_text (get_or (subtrees t) n t);
    size = allotted_written c n;
    horizontal = list_of (leaf_answer n).horizontal;
    vertical = list_of (leaf_answer n).vertical;
    flags = (leaf_answer n).flags;
  }

  -- ---- the rectangle

  -- "A sheet is W = root width + 2 by H = root height + 2" (01), by the root's size as written: that many lines and columns inside the margin
  abbrev pub inside_lines : ℕ
  inside_lines = (sizes_written c 0).height + 2 * sep s

  abbrev pub inside_columns : ℕ
  inside_columns = (sizes_written c 0).width + 2 * sep s

  pub record InRectangle (i k : ℕ) : Type 0 where
    pub line : i < inside_lines
    pub column : k < inside_columns

  -- ---- the tiling, of the sheet that was printed into o

  pub record Tiles (o : List ℕ) : Type 0 where
    -- "each place of its rectangle lies in exactly one leaf's block"
    pub each_place : (i k : ℕ) → InRectangle i k → OneNode (λ n. BlockCovers n i k)
    -- "and no block has a place outside it"
    pub none_outside : (n i k : ℕ) → BlockCovers n i k → InRectangle i k
    -- "one leaf and any other leaf share the rectangle and not a single byte of it"
    pub none_shared : (n m i k : ℕ) → BlockCovers n i k → BlockCovers m i k → n ≡ m
    -- "The sheet's byte at each place equals the byte that the leaf printer, with the same settings and tree, writes there in that block"
    pub same_byte : (n i k : ℕ) → BlockCovers n i k → (o₁ : List ℕ) → (leaf_print n o₁).answer.number ≡ 0
        → byte_in (sheet_of (input_of bs ts) o) (s.margin.top + i) (s.margin.left + k) ≡ byte_in (leaf_print n o₁) (i - (start_in n).line)
        (k - (start_in n).column)
    -- "which is the byte that document 01 defines there"
    pub defined : (n : ℕ) → (leaf_answer n).number ≡ 0 → (o₁ : List ℕ) → (leaf_print n o₁).answer.number ≡ 0
        → lines_in (leaf_print n o₁) ≡ block s (leaf_seen n)
    -- "its H lines of W columns" (01), with the margin around them (02, 1)
    pub sheet_is : Rectangle (sheet_of (input_of bs ts) o) (s.margin.top + inside_lines + s.margin.bottom) (s.margin.left + inside_columns + s.margin.right)
    -- what the leaf printer writes has the lines and columns that the block covers
    pub block_is : (n : ℕ) → (leaf_answer n).number ≡ 0 → (o₁ : List ℕ) → (leaf_print n o₁).answer.number ≡ 0
        → Rectangle (leaf_print n o₁) (block_lines n) (block_columns n)
    -- "lent enough output" (01): for a leaf it answers 0 exactly where that many bytes and a 0A between lines fit
    pub enough : (n : ℕ) → (leaf_answer n).number ≡ 0 → (o₁ : List ℕ)
        → ((leaf_print n o₁).answer.number ≡ 0) ↔ (byte_count (block_columns n) (block_lines n) ≤ length o₁)
    -- the leaves are the nodes of the list below which the collector counted none
    pub leaves : (n : ℕ) → ((leaf_answer n).number ≡ 0) ↔ ((n < c.answer.count) × ((sizes_written c n).below ≡ 0))
    -- "The root starts at line 0, column 0." (01)
    pub root_starts : start_in 0 ≡ origin
    -- "A Row's child starts on the Row's line, at the Row's column plus, for each child before it, that child's allotted width and 1" (01)
    pub row_starts : (n : ℕ) (us : Trees) → NodeIs n (group across us) → (i m : ℕ) → ChildIs n us i m
        → ((start_in m).line ≡ (start_in n).line)
        × ((start_in m).column ≡ (start_in n).column + total (map (λ j. (sizes_written c j).width + sep s) (take i (child_nodes (suc n) us))))
    -- "a Column's child likewise by lines" (01)
    pub column_starts : (n : ℕ) (us : Trees) → NodeIs n (group down us) → (i m : ℕ) → ChildIs n us i m
        → ((start_in m).line ≡ (start_in n).line + total (map (λ j. (sizes_written c j).height + sep s) (take i (child_nodes (suc n) us))))
        × ((start_in m).column ≡ (start_in n).column)

  -- ---- the sizes

  pub record Sharing : Type 0 where
    -- a record for each node
    pub counted : c.answer.count ≡ nodes t
    -- "in each nonempty row the children's allotted widths plus one column between neighbours make exactly the row's allotted width"
    pub rows : (n : ℕ) (us : Trees) → NodeIs n (group across us) → 0 < count us
        → total (map (λ m. (sizes_written c m).width) (child_nodes (suc n) us)) + (count us - 1) * sep s ≡ (sizes_written c n).width
    -- "and in each nonempty column their allotted heights plus one line between neighbours make exactly the column's"
    pub columns : (n : ℕ) (us : Trees) → NodeIs n (group down us) → 0 < count us
        → total (map (λ m. (sizes_written c m).height) (child_nodes (suc n) us)) + (count us - 1) * sep s ≡ (sizes_written c n).height
    -- "no child is allotted less than its natural width or height"
    pub children : (n : ℕ) (a : Axis) (us : Trees) → NodeIs n (group a us) → (i m : ℕ) → ChildIs n us i m
        → (m < c.answer.count) × ((sizes_written c m).natural_width ≤ (sizes_written c m).width)
        × ((sizes_written c m).natural_height ≤ (sizes_written c m).height)
    -- "A Row's child has the Row's allotted height" (01)
    pub row_heights : (n : ℕ) (us : Trees) → NodeIs n (group across us) → (i m : ℕ) → ChildIs n us i m → (sizes_written c m).height ≡ (sizes_written c n).height
    -- "a Column's child the allotted width" (01)
    pub column_widths : (n : ℕ) (us : Trees) → NodeIs n (group down us) → (i m : ℕ) → ChildIs n us i m → (sizes_written c m).width ≡ (sizes_written c n).width
    -- the natural sizes written are those of document 01
    pub naturals : (n : ℕ) (u : Tree) → NodeIs n u
        → ((sizes_written c n).natural_width ≡ (natural s u).width) × ((sizes_written c n).natural_height ≡ (natural s u).height)

-- ---- what is promised

-- "Whatever the settings and the tree of an accepted sheet": where the sheet printer, lent o, and the size collector, lent l, answer 0
pub record Tiled (bs ts o : List ℕ) (l : List SizeRecord) : Type 0 where
  pub settings : Settings
  pub tree : Tree
  pub input : input_of bs ts ≡ given settings tree
  -- "with the blocks laid out by demand 2's sizes"
  pub tiling : Tiles bs ts settings tree (collect_of (input_of bs ts) l) o

-- "Whatever settings and tree the size collector accepts, printable as a sheet or not": where the size collector, lent l, answers 0
pub record SharedOut (bs ts : List ℕ) (l : List SizeRecord) : Type 0 where
  pub settings : Settings
  pub tree : Tree
  pub input : input_of bs ts ≡ given settings tree
  pub sharing : Sharing bs ts settings tree (collect_of (input_of bs ts) l)
