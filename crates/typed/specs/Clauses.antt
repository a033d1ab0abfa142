-- What the functions of this crate require and ensure, beyond the definitions; no theorem mentions it.
use Rattle.std.specs.Prelude.{◌≡◌, ℕ, ◌+◌, ◌*◌, ◌-◌, ◌≤◌, ◌<◌, ◌/◌, ◌%◌, suc, List, [], ◌∷◌, ◌++◌, length, take, drop, get_or, eqb, Option, Some, None}
use Rattle.std.specs.Prelude.{Result, Ok, Err, ⊤}
use Rattle.common.specs.Choice.{pick}
use Rattle.common.specs.Refusals.{number_of, refusal_of}
use Rattle.common.specs.declared.refusal.Refusal.{Refusal}
use Rattle.tree.specs.Bytes.{tag_of}
use Rattle.tree.specs.Tree.{Trees, none, across, down}
use Rattle.tree.specs.Accepted.{bytes_of*}
use Rattle.typed.specs.declared.ListFault.{ListFault}
use Rattle.typed.specs.declared.Typed.{Typed}
use Rattle.typed.specs.declared.line.Kind.{Kind}
use Rattle.typed.specs.declared.line.Kind.TheVariants.{Cell, Row, Column}
use Rattle.typed.specs.declared.line.NodeSpot.{NodeSpot}
use Rattle.typed.specs.declared.scan.ScanState.{ScanState}
use Rattle.typed.specs.declared.typed_text.Misread.{Misread}
use Rattle.typed.specs.Text.{Byte, Put, Escape, Wrong, text, typed_text, Text, wrong}
use Rattle.typed.specs.Line.{Item, cell, group, own_text, OneLine, skip, fault, node, is_row, is_column}
use Rattle.typed.specs.Scan.{TypedNode, TypedScan, stopped, found, place_fault, level_under}
use Rattle.typed.specs.Typed.{trees_at}

-- the tag of its element, and its own text
abbrev pub item_tag : Item → ℕ
item_tag (cell t) = 1
item_tag (group a) = tag_of a

abbrev pub kind_tag : Kind → ℕ
kind_tag Cell = 1
kind_tag Row = 2
kind_tag Column = 3

abbrev pub kind_of : Item → Kind
kind_of (cell t) = Cell
kind_of (group across) = Row
kind_of (group down) = Column

abbrev pub word_kind : List ℕ → Kind
word_kind s = pick (is_row s) Row (pick (is_column s) Column Cell)

abbrev pub misread : ℕ → ℕ → Misread
misread k c = record { refusal = refusal_of k; column = c }

abbrev pub level_line : ℕ → Kind → ℕ → ℕ → ℕ → Result NodeSpot Misread
level_line n kind start end len =
    pick (eqb (n % 2) 0) (Ok (record { kind = kind; level = n / 2; start = start; end = end; len = len })) (Err (misread 33 (n + 1)))

-- the text of the item is in x from `start` up to `end`
pub record TextAt (x : List ℕ) (item : Item) (kind : Kind) (start end len : ℕ) : Type 0 where
  pub kind_is : kind ≡ kind_of item
  pub len_is : len ≡ length (own_text item)
  pub on : start ≤ end
  pub within : end ≤ length x
  pub text_is : typed_text (take (end - start) (drop start x)) ≡ text (own_text item)

-- a node at level d is at s
pub record SpotAt (x : List ℕ) (d : ℕ) (item : Item) (s : NodeSpot) : Type 0 where
  pub level_is : s.level ≡ d
  pub behind : 2 * d ≤ s.start
  pub text_at : TextAt x item s.kind s.start s.end s.len

-- the code's value for a line that is not skipped, and for every line
abbrev pub SpotTold : List ℕ → OneLine → Result NodeSpot Misread → Type 0
SpotTold x skip r = ⊥
SpotTold x (fault k c) r = r ≡ Err (misread k c)
SpotTold x (node d item) (Ok s) = SpotAt x d item s
SpotTold x (node d item) (Err f) = ⊥

abbrev pub LineTold : List ℕ → OneLine → Result (Option NodeSpot) Misread → Type 0
LineTold x o (Ok None) = o ≡ skip
LineTold x o (Ok (Some s)) = SpotTold x o (Ok s)
LineTold x o (Err f) = SpotTold x o (Err f)

-- the answer to a fault's number
abbrev pub place_result : ℕ → Result ⊤ Refusal
place_result k = pick (eqb k 0) (Ok tt) (Err (refusal_of k))

-- a line after the nodes so far: its node may be a fault there
abbrev pub placed_line : ScanState → OneLine → OneLine
placed_line z skip = skip
placed_line z (fault k c) = fault k c
placed_line z (node d item) =
    let k = place_fault z d (length (own_text item)) in
    pick (eqb k 0) (node d item) (fault k (2 * d + 1))

-- the deepest level that may follow
abbrev pub deepest : Kind → ℕ → ℕ
deepest Cell d = d
deepest Row d = d + 1
deepest Column d = d + 1

abbrev pub scan_next : ScanState → NodeSpot → ScanState
scan_next z s = record { count = z.count + 1; may = deepest s.kind s.level; total = z.total + 3 + s.len }

abbrev pub moved : NodeSpot → ℕ → NodeSpot
moved s from = record s { start = from + s.start; end = from + s.end }

abbrev pub no_spot : NodeSpot
no_spot = record { kind = Cell; level = 0; start = 0; end = 0; len = 0 }

abbrev pub no_node : TypedNode
no_node = record { level = 0; item = cell [] }

-- the totals so far are small
pub record SmallState (z : ScanState) : Type 0 where
  pub count : z.count ≤ 512
  pub total : z.total ≤ 32768

-- the spots are the nodes, whose texts are in the typed list
pub record Spotted (text : List ℕ) (n : TypedNode) (s : NodeSpot) : Type 0 where
  pub level_is : s.level ≡ n.level
  pub text_at : TextAt text n.item s.kind s.start s.end s.len

abbrev pub SpotsHeld : List ℕ → List TypedNode → List NodeSpot → Type 0
SpotsHeld s ns spots = (i : ℕ) → i < length ns → Spotted s (get_or ns i no_node) (get_or spots i no_spot)

-- the bytes of the nodes' elements
unfoldable pub total_of : List TypedNode → ℕ
total_of [] = 0
total_of (n ∷ ns) = 3 + length (own_text n.item) + total_of ns

pub record NodesFound (text : List ℕ) (ns : List TypedNode) (spots : List NodeSpot) (z : ScanState) : Type 0 where
  pub count_is : z.count ≡ length ns
  pub total_is : z.total ≡ total_of ns
  pub held : SpotsHeld text ns spots

abbrev pub list_fault : ℕ → ℕ → ℕ → ListFault
list_fault k l c = record { refusal = refusal_of k; line = l; column = c }

abbrev pub ScanTold : List ℕ → TypedScan → List NodeSpot → Result ScanState ListFault → Type 0
ScanTold s (stopped k l c) spots r = r ≡ Err (list_fault k l c)
ScanTold s (found ns) spots (Ok z) = NodesFound s ns spots z
ScanTold s (found ns) spots (Err f) = ⊥

-- the public answer
abbrev pub answer_of : Result ℕ ListFault → Typed
answer_of (Ok n) = record { number = 0; count = n; line = 0; column = 0 }
answer_of (Err f) = record { number = number_of f.refusal; count = 0; line = f.line; column = f.column }

-- what a byte does, and what a text is, as the code answers it
abbrev pub put_of : Byte → Result (Option ℕ) Refusal
put_of (Put c) = Ok (Some c)
put_of Escape = Ok None
put_of (Wrong k) = Err (refusal_of k)

abbrev pub checked_text : Text → Result ℕ Misread
checked_text (wrong k i) = Err (misread k (i + 1))
checked_text (text t) = Ok (length t)

-- s is the typed form of a text, and there is room for it
pub record Good (s : List ℕ) (at room : ℕ) : Type 0 where
  pub of : List ℕ
  pub is : typed_text s ≡ text of
  pub fits : at + length of ≤ room

abbrev pub inside_of : Item → Trees → ℕ
inside_of item ks = length (own_text item) + length (bytes_of* ks)

unfoldable pub flat_of : List TypedNode → List ℕ
flat_of [] = []
flat_of (n ∷ ns) =
    let inside = inside_of n.item (get_or (trees_at ns) (suc n.level) none) in
    item_tag n.item ∷ (inside / 256) ∷ (inside % 256) ∷ (own_text n.item ++ flat_of ns)

-- the first node's level is at most m
abbrev pub Starts : ℕ → List TypedNode → Type 0
Starts m [] = Unit
Starts m (n ∷ ns) = n.level ≤ m

-- each node has a level that the one before allows
unfoldable pub Chained : List TypedNode → Type 0
Chained [] = Unit
Chained (n ∷ ns) = (n.level < 16) × Starts (level_under n.level n.item) ns × Chained ns

-- nodes that are ready to be written
pub record ReadyNodes (text : List ℕ) (spots : List NodeSpot) (total room : ℕ) (ns : List TypedNode) : Type 0 where
  pub count_is : length spots ≡ length ns
  pub few : length spots ≤ 512
  pub total_is : total ≡ total_of ns
  pub small : total ≤ 32768
  pub fits : total ≤ room
  pub chained : Chained ns
  pub held : SpotsHeld text ns spots

pub record SomeReady (text : List ℕ) (spots : List NodeSpot) (total room : ℕ) : Type 0 where
  pub of : List TypedNode
  pub is : ReadyNodes text spots total room of
