-- What the functions of the walk require and ensure.
use Rattle.std.specs.Prelude.{◌≡◌, ℕ, suc, ◌+◌, ◌-◌, ◌*◌, ◌≤◌, ◌<◌, Bool, true, false, List, ◌++◌, length, take, drop, set, eqb}
use Rattle.common.specs.Choice.{pick}
use Rattle.common.specs.Every.{Every}
use Rattle.settings.specs.declared.Settings.{Settings}
use Rattle.tree.specs.Tree.{Axis, Tree, Trees, none, more, empty?, nodes, nodes*, count}
use Rattle.tree.specs.Bytes.{length_at, axis_of}
use Rattle.tree.specs.Promises.{EncodesAll}
use Rattle.tree.specs.Clauses.{front_of}
use Rattle.splits.specs.Splits.{short_splits3}
use Rattle.splits.specs.Clauses.{CutsIn}
use Rattle.sizes.specs.Sizes as sizes
use Rattle.sizes.specs.Sizes.{sep, natural, allot}
use Rattle.sizes.specs.Listed.{allotted_at}
use Rattle.sizes.specs.Clauses.{Allotted, AllottedIn}
use Rattle.block.specs.declared.Flags.{Flags}
use Rattle.layout.specs.Clauses.{flags_number}
use Rattle.layout.specs.Walk.{Context, Placed, Walked, child_flags, along_list, beside_list, child, walk, children, leaves}
use Rattle.entries.specs.Clauses.{entry_with, PutEntry, base_of, WroteEntries}
use Rattle.walk.specs.declared.steps.Group.{Group}
use Rattle.walk.specs.declared.steps.GroupState.{GroupState}
use Rattle.walk.specs.declared.steps.NodeResult.{NodeResult}
use Rattle.walk.specs.declared.steps.NextChild.{NextChild}

-- ---- the steps

abbrev pub axis_in : Group → Axis
axis_in x = axis_of x.across

-- the bytes from a place to the next one along the axis
abbrev pub unit : Group → ℕ
unit x = pick x.across 1 x.stride

pub record CanPrepare (s list : List ℕ) (x : Group) (g : GroupState) (al : List ℕ) : Type 0 where
  pub flags : x.flags < 256
  pub in_bytes : g.at + (3 + length_at (drop g.at s)) ≤ length s
  pub in_list : 4 * g.node + 3 < length list
  pub in_along : g.from ≤ length al

-- the next child: its element is at g's place in s, its allotted size in the list; it is the last where the bytes end with its element; its pieces are cut off
-- those in al₀
pub record Prepares (s list : List ℕ) (x : Group) (g : GroupState) (p : NextChild) (al₀ al : List ℕ) : Type 0 where
  pub leaf_is : p.leaf ≡ (front_of (drop g.at s)).leaf
  pub across_is : p.across ≡ (front_of (drop g.at s)).across
  pub end_is : p.end ≡ g.at + (front_of (drop g.at s)).end
  pub last_is : p.last ≡ eqb p.end (length s)
  pub extent_is : p.extent ≡ sizes.along (axis_in x) (allotted_at list g.node)
  pub other_is : p.other ≡ sizes.beside (axis_in x) (allotted_at list g.node)
  pub extent_small : p.extent < 65536
  pub other_small : p.other < 65536
  pub flags_are : (flags : Flags) → x.flags ≡ flags_number flags → p.flags ≡ flags_number (child_flags (axis_in x) flags g.first p.last g.old)
  pub cuts : CutsIn p.extent p.cut (drop g.from al₀) (drop g.from al)
  pub front : take g.from al ≡ take g.from al₀

-- the sums of `advance` fit, where r pieces were given back along the axis
pub record CanAdvance (x : Group) (g : GroupState) (p : NextChild) (r : ℕ) : Type 0 where
  pub base : g.base ≤ 2199023255552
  pub extent : p.extent < 65536
  pub gap : x.gap ≤ 1
  pub stride : x.stride ≤ 65536
  pub from : g.from + p.cut.gone ≤ 512
  pub joined : g.joined + r ≤ 512

abbrev pub advance_of : Group → GroupState → NextChild → NodeResult → GroupState
advance_of x g p r = record {
  at = p.end;
  node = r.next;
  base = g.base + (p.extent + x.gap) * unit x;
  first = false;
  old = p.cut.split;
  from = g.from + p.cut.gone;
  joined = g.joined + r.along;
  handed = r.beside;
  entry = r.entry;
}

-- a leaf's pieces, in the memory along the axis and beside it
abbrev pub taken_in : GroupState → NextChild → List ℕ → List ℕ
taken_in g p al = take p.cut.pair.taken (drop g.from al)

abbrev pub handed_in : GroupState → List ℕ → List ℕ
handed_in g be = drop (length be - g.handed) be

pub record CanPass (x : Group) (g : GroupState) (p : NextChild) (al be : List ℕ) (len : ℕ) : Type 0 where
  pub in_along : g.from + p.cut.pair.taken ≤ length al
  pub in_beside : g.handed ≤ length be
  pub joins : g.joined < length al
  pub gives : 1 ≤ length be
  pub few_along : length al ≤ 512
  pub few_beside : length be ≤ 512
  pub other : p.other < 65536
  pub node : g.node < 512
  pub start : x.start + g.at < 65536
  pub low : g.base < 65536
  pub flags : p.flags < 65536
  pub room : g.entry + 8 + p.cut.pair.taken + g.handed ≤ len
  pub advances : CanAdvance x g p 1

-- past a leaf: its entry is written, and its extents are given back
pub record LeafPassed (x : Group) (g : GroupState) (p : NextChild) (r : GroupState) (al₀ al be₀ be l₀ l : List ℕ) : Type 0 where
  pub is : r ≡ advance_of x g p (record { next = g.node + 1; along = 1; beside = 1; entry = g.entry + (8 + (p.cut.pair.taken + g.handed)) })
  pub along_is : al ≡ set al₀ g.joined p.extent
  pub beside_is : be ≡ set (set be₀ 0 p.other) (length be₀ - 1) p.other
  pub put : PutEntry g.entry
      (entry_with (record { node = g.node; at = x.start + g.at; base = g.base; flags = p.flags }) p.cut.pair
      (pick x.across (taken_in g p al₀) (handed_in g be₀)) (pick x.across (handed_in g be₀) (taken_in g p al₀)))
      r.entry l₀ l

abbrev pub group_below : Group → GroupState → NextChild → Group
group_below x g p = record { across = p.across; start = x.start + g.at + 3; flags = p.flags; gap = x.gap; stride = x.stride }

abbrev pub enter_of : GroupState → ℕ → ℕ → GroupState
enter_of g from handed =
    record { at = 0; node = g.node + 1; base = g.base; first = true; old = false; from = from; joined = 0; handed = handed; entry = g.entry }

-- after the last child what is beside the axis stays, else it is copied to the end
abbrev pub handed_on : Bool → ℕ → List ℕ → List ℕ
handed_on true n be = be
handed_on false n be = take (length be - n) be ++ take n be

abbrev pub exchanged_of : NodeResult → NodeResult
exchanged_of r = record { next = r.next; along = r.beside; beside = r.along; entry = r.entry }

-- ---- the walk over children, in the definition's terms

-- the arguments of `children` that the code does not have as numbers; `whole` is the tree's bytes
pub record WalkState : Type 0 where
  pub settings : Settings
  pub whole : List ℕ
  pub at : Context
  pub spare : ℕ
  pub n : ℕ
  pub i : ℕ
  pub offset : ℕ
  pub cut : List ℕ
  pub handed : List ℕ
  pub rest : Trees

abbrev pub walked_from : WalkState → Group → GroupState → Walked
walked_from q x g = children q.settings q.rest (axis_in x) q.at q.spare q.n q.i g.old g.node q.offset q.cut q.handed

-- the next child's extent, its context and its walk, and the arguments after it
abbrev pub extent_of : WalkState → Group → Tree → ℕ
extent_of q x t = allot q.settings (axis_in x) q.spare q.n q.i t

abbrev pub kid_of : WalkState → Group → GroupState → Tree → Context
kid_of q x g t = child (axis_in x) q.at (eqb q.i 0) (eqb (suc q.i) q.n) g.old g.node q.offset (extent_of q x t) (short_splits3 q.cut
    (extent_of q x t)) q.handed

abbrev pub kid_walked : WalkState → Group → GroupState → Tree → Walked
kid_walked q x g t = walk q.settings t (kid_of q x g t)

-- a walk's lists along the axis and beside it
abbrev pub along_w : Axis → Walked → List ℕ
along_w a w = along_list a w.horizontal w.vertical

abbrev pub beside_w : Axis → Walked → List ℕ
beside_w a w = beside_list a w.horizontal w.vertical

abbrev pub next_state : WalkState → Group → GroupState → Tree → Trees → WalkState
next_state q x g t ts = record {
  settings = q.settings;
  whole = q.whole;
  at = q.at;
  spare = q.spare;
  n = q.n;
  i = suc q.i;
  offset = q.offset + extent_of q x t + sep q.settings;
  cut = (short_splits3 q.cut (extent_of q x t)).left;
  handed = beside_w (axis_in x) (kid_walked q x g t);
  rest = ts;
}

-- s is in the whole from `start` on
pub record Part (s : List ℕ) (start : ℕ) (whole : List ℕ) : Type 0 where
  pub after : List ℕ
  pub is : drop start whole ≡ s ++ after

-- the leaf's first byte fits 16 bits
abbrev pub LowLeaf : ℕ → Placed → Type 0
LowLeaf stride l = base_of stride l < 65536

-- the walk over the children of x in s is at g. What is to be cut is at the end of al, after room for a piece for each node; what is passed on is at the end of
-- be, or after the last child at its start; and of `len` numbers there is room for an entry for each leaf: ten numbers for each node, and one for each piece,
-- since each piece goes to one leaf.
pub record Ready (q : WalkState) (s list : List ℕ) (x : Group) (g : GroupState) (al be : List ℕ) (len : ℕ) : Type 0 where
  pub within : g.at ≤ length s
  pub are : EncodesAll q.rest (drop g.at s)
  pub part : Part s x.start q.whole
  pub short : length q.whole < 65536
  pub gap_is : x.gap ≡ sep q.settings
  pub stride_low : x.stride ≤ 65536
  pub flags_are : x.flags ≡ flags_number q.at.flags
  pub base_is : g.base ≡ q.at.line * x.stride + q.at.column + q.offset * unit x
  pub base_low : g.base ≤ 4294967296 * g.node
  pub left : q.i + count q.rest ≡ q.n
  pub first_is : g.first ≡ eqb q.i 0
  pub sizes_are : AllottedIn q.settings q.rest (axis_in x) q.at.size q.spare q.n q.i g.node list
  pub node_low : g.node + nodes* q.rest ≤ 512
  pub few_along : length al ≤ 512
  pub few_beside : length be ≤ 512
  pub cut_is : drop g.from al ≡ q.cut
  pub from_in : g.from ≤ length al
  pub handed_count : g.handed ≡ length q.handed
  pub handed_is : pick (empty? q.rest) (take g.handed be) (drop (length be - g.handed) be) ≡ q.handed
  pub room_along : g.joined + nodes* q.rest ≤ g.from
  pub room_beside : g.handed + nodes* q.rest ≤ length be
  pub room_leaves : g.entry + (length al - g.from) + g.handed + 10 * nodes* q.rest ≤ len
  pub lows : Every (LowLeaf x.stride) (walked_from q x g).leaves

-- ---- the two functions of the cycle

pub record ReadyChildren (s list : List ℕ) (x : Group) (g : GroupState) (al be : List ℕ) (len : ℕ) : Type 0 where
  pub state : WalkState
  pub ready : Ready state s list x g al be len
  pub some : empty? state.rest ≡ false
  pub none_joined : g.joined ≡ 0

-- the answer, and what the lent memory holds: the pieces given back at the start of al and be, and behind the first entries of l, which was l₀, those of the
-- leaves
pub record Walks (q : WalkState) (list : List ℕ) (x : Group) (g : GroupState) (r : NodeResult) (al be l₀ l : List ℕ) : Type 0 where
  pub next_is : r.next ≡ g.node + nodes* q.rest
  pub along_is : r.along ≡ length (along_w (axis_in x) (walked_from q x g))
  pub beside_is : r.beside ≡ length (beside_w (axis_in x) (walked_from q x g))
  pub lies_along : take r.along al ≡ along_w (axis_in x) (walked_from q x g)
  pub lies_beside : take r.beside be ≡ beside_w (axis_in x) (walked_from q x g)
  pub spent : r.entry + r.along + r.beside ≤ g.entry + (length al - g.from) + g.handed + 10 * nodes* q.rest
  pub wrote : WroteEntries q.settings x.stride q.whole list g.entry l₀ r.entry l (walked_from q x g).leaves

pub record ReadyChild (s list : List ℕ) (x : Group) (g : GroupState) (al be : List ℕ) (len : ℕ) : Type 0 where
  pub state : WalkState
  pub tree : Tree
  pub later : Trees
  pub rest_is : state.rest ≡ more tree later
  pub ready : Ready state s list x g al be len

-- past the child t: the walk is before the later ones, and what t gave back is joined
pub record Passes (q : WalkState) (t : Tree) (ts : Trees) (s list : List ℕ) (x : Group) (g r : GroupState) (al₀ al be l₀ l : List ℕ) : Type 0 where
  pub ready : Ready (next_state q x g t ts) s list x r al be (length l₀)
  pub forward : g.at < r.at
  pub node_is : r.node ≡ g.node + nodes t
  pub old_is : r.old ≡ (short_splits3 q.cut (extent_of q x t)).split
  pub joined_count : r.joined ≡ g.joined + length (along_w (axis_in x) (kid_walked q x g t))
  pub joined_is : take r.joined al ≡ take g.joined al₀ ++ along_w (axis_in x) (kid_walked q x g t)
  pub spent : r.entry + (length al₀ - r.from) + r.handed + length (along_w (axis_in x) (kid_walked q x g t)) ≤ g.entry + (length al₀ - g.from) + g.handed
      + 10 * nodes t
  pub wrote : WroteEntries q.settings x.stride q.whole list g.entry l₀ r.entry l (kid_walked q x g t).leaves

-- ---- the whole tree

pub record ReadyWalk (tree list : List ℕ) (gap stride len : ℕ) : Type 0 where
  pub settings : Settings
  pub root : Tree
  pub whole : EncodesAll (more root none) tree
  pub short : length tree < 65536
  pub gap_is : gap ≡ sep settings
  pub stride_low : stride ≤ 65536
  pub few : nodes root ≤ 512
  pub room : 10 * nodes root ≤ len
  pub sizes_are : Allotted settings root (natural settings root) 0 list
  pub lows : Every (LowLeaf stride) (leaves settings root)

-- the entries of the tree's leaves are at the front of l
pub record WalksTree (tree list : List ℕ) (stride : ℕ) {gap len : ℕ} (q : ReadyWalk tree list gap stride len) (r : ℕ) (l₀ l : List ℕ) : Type 0 where
  pub wrote : WroteEntries q.settings stride tree list 0 l₀ r l (leaves q.settings q.root)
