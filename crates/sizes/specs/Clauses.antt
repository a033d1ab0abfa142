-- What the functions of this crate require and ensure, where document 01 has no definition for it.
use Rattle.std.specs.Prelude.{◌≡◌, ℕ, suc, ◌+◌, ◌-◌, ◌*◌, ◌≤◌, ◌<◌, max, Bool, false, List, [], ◌∷◌, map, ◌++◌, length, get_or, eqb}
use Rattle.std.proofs.lemmas.List.Edits.{sets}
use Rattle.common.specs.Choice.{pick}
use Rattle.settings.specs.declared.Settings.{Settings}
use Rattle.settings.specs.Reading.{blank}
use Rattle.tree.specs.Tree.{Tree, group, Trees, empty?, count, nodes, cell, none, more, Axis}
use Rattle.tree.specs.Bytes.{axis_of}
use Rattle.tree.specs.Promises.{Encodes, EncodesAll}
use Rattle.text.specs.Text.{text_width, text_height}
use Rattle.sharing.specs.Sharing.{share}
use Rattle.sizes.specs.declared.Size.{Size}
use Rattle.sizes.specs.declared.natural.Node.{Node}
use Rattle.sizes.specs.declared.natural.Span.{Span}
use Rattle.sizes.specs.declared.natural.Around.{Around}
use Rattle.sizes.specs.declared.allot.GroupShare.{GroupShare}
use Rattle.sizes.specs.declared.Measured.{Measured}
use Rattle.sizes.specs.Sizes.{along, beside, sized, sep, natural, priority, spare_of, child_size, sizes, tree_sizes, allot, Sizes}
use Rattle.sizes.specs.Listed.{flat, allotted_at}
use Rattle.sizes.specs.Input.{Input, refused, given}

-- ---- pairs of numbers in the list

abbrev pub pair_at : List ℕ → ℕ → Size
pair_at l at = record { width = get_or l at 0; height = get_or l (at + 1) 0 }

-- a size stored from `at` on; a list of sizes stored so, each in two of four numbers
abbrev pub put_size : List ℕ → ℕ → Size → List ℕ
put_size l at z = sets l at (z.width ∷ z.height ∷ [])

unfoldable pub put_sizes : List ℕ → ℕ → List Size → List ℕ
put_sizes l at [] = l
put_sizes l at (z ∷ zs) = put_sizes (put_size l at z) (at + 4) zs

-- ---- natural sizes

-- what every size has in addition to its texts
abbrev pub around_of : Settings → Around
around_of s = record { wide = s.left + s.right; tall = s.top + s.bottom; gap = sep s }

-- the size of a leaf, with that around its text
abbrev pub leaf_by : Around → List ℕ → Size
leaf_by a t = record { width = text_width t + a.wide; height = text_height t + a.tall }

-- the children with one more after them, and the size of a group of them
abbrev pub with_child : Span → Bool → Size → Span
with_child g a z = record { along = g.along + along (axis_of a) z; beside = max g.beside (beside (axis_of a) z); children = g.children + 1 }

abbrev pub span_of : ℕ → Bool → Span → Size
span_of gap a g = sized (axis_of a) (g.along + (g.children - 1) * gap) g.beside

-- the sums fit 32 bits
pub record WideChild (g : Span) (a : Bool) (z : Size) : Type 0 where
  pub along : g.along + along (axis_of a) z < 4294967296
  pub few : g.children + 1 < 18446744073709551616

pub record WideSpan (gap : ℕ) (g : Span) : Type 0 where
  pub some : 1 ≤ g.children
  pub along : g.along + (g.children - 1) * gap < 4294967296

-- the group's size fits 16 bits
pub record SmallSpan (gap : ℕ) (g : Span) : Type 0 where
  pub some : 1 ≤ g.children
  pub along : g.along + (g.children - 1) * gap < 65536
  pub beside : g.beside < 65536

-- a size under n in both directions; one that fits 16 bits
pub record SizeUnder (n : ℕ) (z : Size) : Type 0 where
  pub wide : z.width < n
  pub tall : z.height < n

abbrev pub SmallSize : Size → Type 0
SmallSize z = SizeUnder 65536 z

-- the text's size fits 16 bits
pub record SmallText (a : Around) (t : List ℕ) : Type 0 where
  pub short : length t + 1 < 18446744073709551616
  pub small : SmallSize (leaf_by a t)

-- the bytes of a whole tree
pub record ReadyRoot (s : Settings) (bytes : List ℕ) : Type 0 where
  pub tree : Tree
  pub is : Encodes tree bytes
  pub few : nodes tree ≤ 512
  pub small : SmallSize (natural s tree)
  pub wide : s.left + s.right < 65536
  pub tall : s.top + s.bottom < 65536

-- the bytes are the children, at least one, of the group `node`
pub record ReadyGroup (x : Around) (bytes : List ℕ) (a : Bool) (node : ℕ) : Type 0 where
  pub settings : Settings
  pub around : x ≡ around_of settings
  pub trees : Trees
  pub are : EncodesAll trees bytes
  pub some : empty? trees ≡ false
  pub room : node + nodes (group (axis_of a) trees) ≤ 512
  pub small : SmallSize (natural settings (group (axis_of a) trees))

-- the natural sizes of all nodes, parent before children, left to right
unfoldable mutual
  unfolding natural

  pub natural_sizes : Settings → Tree → List Size
  natural_sizes s (cell t) = natural s (cell t) ∷ []
  natural_sizes s (group a ts) = natural s (group a ts) ∷ natural_sizes* s ts

  pub natural_sizes* : Settings → Trees → List Size
  natural_sizes* s none = []
  natural_sizes* s (more t ts) = natural_sizes s t ++ natural_sizes* s ts

-- the answer, and the list, which was l₀, with the natural sizes of all nodes of the tree
pub record Collects (s : Settings) (t : Tree) (node : ℕ) (r : Node) (l₀ l : List ℕ) : Type 0 where
  pub answer : r ≡ record { size = natural s t; next = node + nodes t }
  pub list : l ≡ put_sizes l₀ (4 * node) (natural_sizes s t)

-- ---- allotted sizes

-- P holds of each entry and its number, which counts from n
abbrev pub Each {ℓ} : {A : Type ℓ} → (A → ℕ → Type 0) → List A → ℕ → Type 0
Each P [] n = Unit {0}
Each P (x ∷ xs) n = P x n × Each P xs (suc n)

abbrev pub natural_at : List ℕ → ℕ → Size
natural_at l node = record { width = get_or l (4 * node) 0; height = get_or l (4 * node + 1) 0 }

-- the list has the natural sizes from `node` on
abbrev pub Holds : List Size → ℕ → List ℕ → Type 0
Holds zs node l = Each (λ z n. natural_at l n ≡ z) zs node

pub record ReadyCount (bytes : List ℕ) : Type 0 where
  pub trees : Trees
  pub are : EncodesAll trees bytes

-- how many share, and the part of one: with nothing to share both are 0
abbrev pub sharers : ℕ → ℕ → ℕ
sharers spare n = pick (eqb spare 0) 0 n

abbrev pub part_of : GroupShare → ℕ → ℕ
part_of g i = pick (eqb g.spare 0) 0 (share g.spare g.children g.priority i)

-- the group of the trees, allotted the size z
abbrev pub group_of : Settings → Bool → Trees → Size → GroupShare
group_of s a ts z = record {
  across = a;
  size = z;
  spare = spare_of s (axis_of a) ts z;
  children = sharers (spare_of s (axis_of a) ts z) (count ts);
  priority = priority s (axis_of a);
}

-- the size of its child i, of that natural size
abbrev pub child_of : GroupShare → Size → ℕ → Size
child_of g n i = child_size (axis_of g.across) g.size (along (axis_of g.across) n + part_of g i)

-- child i has a part of the spare
pub record HasPart (g : GroupShare) (i : ℕ) : Type 0 where
  pub there : (g.spare ≡ 0 → ⊥) → i < g.children
  pub small : g.spare < 65536

-- at least n in both directions
pub record Fits (n z : Size) : Type 0 where
  pub wide : n.width ≤ z.width
  pub tall : n.height ≤ z.height

-- the children, at least one, of the group `node`, allotted the size z: the list has their natural sizes
pub record ReadyTrees (s : Settings) (bytes : List ℕ) (a : Bool) (node : ℕ) (z : Size) (l : List ℕ) : Type 0 where
  pub trees : Trees
  pub are : EncodesAll trees bytes
  pub some : empty? trees ≡ false
  pub holds : Holds (natural_sizes s (group (axis_of a) trees)) node l
  pub fits : Fits (natural s (group (axis_of a) trees)) z
  pub small : SmallSize z
  pub room : node + nodes (group (axis_of a) trees) ≤ 512

-- a whole tree, whose natural sizes were stored in the list, which was `old`
pub record ReadyTree (s : Settings) (bytes l : List ℕ) : Type 0 where
  pub tree : Tree
  pub is : Encodes tree bytes
  pub few : nodes tree ≤ 512
  pub small : SmallSize (natural s tree)
  pub old : List ℕ
  pub list : l ≡ put_sizes old 0 (natural_sizes s tree)

abbrev pub allotted_size : Sizes → Size
allotted_size z = z.allotted

-- the next node, and the list, which was l₀, with the allotted sizes of all nodes of the tree
pub record Allots (s : Settings) (t : Tree) (node : ℕ) (z : Size) (r : ℕ) (l₀ l : List ℕ) : Type 0 where
  pub next : r ≡ node + nodes t
  pub list : l ≡ put_sizes l₀ (4 * node + 2) (map allotted_size (sizes s t z))

-- ---- the whole tree: the contracts of `allot_tree`, `size_tree` and `measure_tree`

-- the node count, and the list, which was l₀, with all numbers
pub record Measures (s : Settings) (t : Tree) (r : ℕ) (l₀ l : List ℕ) : Type 0 where
  pub count : r ≡ nodes t
  pub list : l ≡ sets l₀ 0 (flat (tree_sizes s t))

abbrev pub no_measured : ℕ → Measured
no_measured k = record { number = k; settings = blank; count = 0 }

abbrev pub measured_of : Input → Measured
measured_of (refused k) = no_measured k
measured_of (given s t) = record { number = 0; settings = s; count = nodes t }

-- the list, which was l: a refusal writes nothing
abbrev pub size_list_of : Input → List ℕ → List ℕ
size_list_of (refused k) l = l
size_list_of (given s t) l = sets l 0 (flat (tree_sizes s t))

-- ---- the sizes of one node and of a tree in the list: the contracts of walk and entries

-- the node's natural size is n, its allotted size z
pub record Here (n z : Size) (node : ℕ) (l : List ℕ) : Type 0 where
  pub inside : 4 * node + 3 < length l
  pub natural_is : natural_at l node ≡ n
  pub allotted_is : allotted_at l node ≡ z

-- the list holds the sizes of the tree's nodes, from `node` on, where the tree is allotted z
unfoldable mutual
  pub Allotted : Settings → Tree → Size → ℕ → List ℕ → Type 0
  Allotted s (cell t) z node l = Here (natural s (cell t)) z node l
  Allotted s (group a ts) z node l = Here (natural s (group a ts)) z node l × AllottedIn s ts a z (spare_of s a ts z) (count ts) 0 (suc node) l

  pub AllottedIn : Settings → Trees → Axis → Size → ℕ → ℕ → ℕ → ℕ → List ℕ → Type 0
  AllottedIn s none a z spare n i node l = Unit {0}
  AllottedIn s (more t ts) a z spare n i node l =
      Allotted s t (child_size a z (allot s a spare n i t)) node l × AllottedIn s ts a z spare n (suc i) (node + nodes t) l

-- the natural size of a record, beside `allotted_size`: proofs/Pairs.antt and proofs/WholeTree.antt use it
abbrev pub natural_size : Sizes → Size
natural_size z = z.natural
