-- Every tree within the limits of 01 can be typed: its text is read as that tree.
use mathlib.Core.Path.{◌≡◌, refl, sym, ap, ◌∙◌}
use mathlib.Core.Logic.{◌≢◌}
use Prim.Native.Nat.{ℕ, zero, suc, ◌+◌, ◌*◌, ◌-◌, ◌≤◌, ◌<◌, ◌/◌, ◌%◌}
use native.Mathlib.Omega.{arith}
use native.Mathlib.Numerals.{add-one}
use mathlib.Core.Bool.{Bool, true, false}
use mathlib.Core.List.{List, [], ◌∷◌, ◌++◌, map, append_assoc, append-nil}
use lib.ListN.{length, get_or, drop, replicate, length-append, length-replicate}
use lib.Seq.{drop_at}
use lib.Dec.{eqb, ltb}
use borrow.Author.Tests.{eqb-true, ne_eqb, le-ltb, lt-leb, ltb-false}
use Rattle.common.specs.Choice.{pick, both}
use Rattle.common.specs.Every.{Every}
use Rattle.common.proofs.Every.{every_append, every_replicate}
use Rattle.tree.specs.Tree as tree
use Rattle.tree.specs.Tree.{Axis, across, down, Tree, Trees, none, more, nodes, nodes*}
use Rattle.tree.specs.Reading.{is_text, is_text_byte}
use Rattle.tree.specs.Accepted.{bytes_of, bytes_of*}
use Rattle.tree.specs.Promises.{Texts, Texts*, depth, depth*}
use Rattle.tree.proofs.Fronts.{nodes_low}
use Rattle.text.specs.Text.{lines, join_lines}
use Rattle.text.proofs.JoinedLines.{Free, NoFeed, lines_feeds}
use Rattle.typed.specs.declared.scan.ScanState.{ScanState}
use Rattle.typed.specs.Text.{Put, byte_of, text, putting, later_text, text_from, typed_text}
use Rattle.typed.specs.Line.{Item, axis_word, cell, group, own_text, node, spaces, same_bytes, level_of, plain_line, plain_of, one_line_of, without_return}
use Rattle.typed.specs.Scan.{TypedNode, TypedScan, found, adding, place_fault, next_of, scan_from, none_yet, scan_lines}
use Rattle.typed.specs.Clauses.{total_of}
use Rattle.typed.specs.Typed.{push, trees_at, first_of, root_of, typed_refusal, typed_accepted, outcome_of, typed_of}
use Rattle.typed.specs.Promises.{typed_nodes, typed_nodes*, escaped, typed_body, typed_line, type_of}
use Rattle.typed.proofs.Texts.{text_put, text_escape}
use Rattle.typed.proofs.Scanned.{scan_node, place_fits}
use Rattle.typed.proofs.Built.{none_replicate}
use Rattle.typed.proofs.Listing.{following_of}
use Rattle.typed.proofs.Answered.{typed_scan}
use Rattle.typed.proofs.AcceptedLists.{nodes_listed, LowNode}

-- ---- texts

text_first : (b : ℕ) (t : List ℕ) → is_text (b ∷ t) ≡ true → (is_text_byte b ≡ true) × (is_text t ≡ true)
unfolding is_text
text_first b t h = go (is_text_byte b) h
  where
    go : (p : Bool) → pick p (is_text t) false ≡ true → (p ≡ true) × (is_text t ≡ true)
    go true h = (refl, h)
    go false h = let z : ◌≡◌ {A = ℕ} 0 1 = cc in absurd (omega arith)

byte_low : (b : ℕ) → is_text_byte b ≡ true → eqb b 10 ≡ false → (ltb b 32 ≡ false) × (ltb 126 b ≡ false)
byte_low b h e = go (ltb b 32) (ltb 126 b) (rw e at h)
  where
    go : (p q : Bool) → pick p false (pick q false true) ≡ true → (p ≡ false) × (q ≡ false)
    go true q h = let z : ◌≡◌ {A = ℕ} 0 1 = cc in absurd (omega arith)
    go false true h = let z : ◌≡◌ {A = ℕ} 0 1 = cc in absurd (omega arith)
    go false false h = (refl, refl)

plain_put : (b : ℕ) → eqb b 92 ≡ false → ltb b 32 ≡ false → ltb 126 b ≡ false → byte_of false b ≡ Put b
unfolding byte_of
plain_put b y u v = rw (y, u, v)

-- what is typed for a text is read as that text
pub text_typed : (t : List ℕ) → is_text t ≡ true → typed_text (escaped t) ≡ text t
unfolding escaped text_from byte_of
text_typed [] h = refl
text_typed (b ∷ t) h = go (eqb b 10) (eqb b 92) refl refl (text_typed t (text_first b t h).1)
  where
    go : (p q : Bool) → eqb b 10 ≡ p → eqb b 92 ≡ q → typed_text (escaped t) ≡ text t
        → typed_text (pick p (92 ∷ 110 ∷ escaped t) (pick q (92 ∷ 92 ∷ escaped t) (b ∷ escaped t))) ≡ text (b ∷ t)
    go true q x y ih =
        let e = eqb-true b 10 x in
        text_escape false 92 (110 ∷ escaped t) refl ∙ ap later_text (text_put true 110 10 (escaped t) refl ∙ ap (putting 10) ih)
        ∙ ap (λ (c : ℕ). text (c ∷ t)) (sym e)
    go false true x y ih =
        let e = eqb-true b 92 y in
        text_escape false 92 (92 ∷ escaped t) refl ∙ ap later_text (text_put true 92 92 (escaped t) refl ∙ ap (putting 92) ih)
        ∙ ap (λ (c : ℕ). text (c ∷ t)) (sym e)
    go false false x y ih =
        let l = byte_low b (text_first b t h).0 x in
        text_put false b b (escaped t) (plain_put b y l.0 l.1) ∙ ap (putting b) ih

-- ---- bytes that are typed: none below a space, so no line feed and no carriage return

abbrev ShownByte : ℕ → Type 0
ShownByte b = 32 ≤ b

shown_escaped : (t : List ℕ) → is_text t ≡ true → Every ShownByte (escaped t)
unfolding escaped
shown_escaped [] h = tt
shown_escaped (b ∷ t) h = go (eqb b 10) (eqb b 92) refl (shown_escaped t (text_first b t h).1)
  where
    go : (p q : Bool) → eqb b 10 ≡ p → Every ShownByte (escaped t)
        → Every ShownByte (pick p (92 ∷ 110 ∷ escaped t) (pick q (92 ∷ 92 ∷ escaped t) (b ∷ escaped t)))
    go true q x k = (omega arith, (omega arith, k))
    go false true x k = (omega arith, (omega arith, k))
    go false false x k = (ltb-false b 32 (byte_low b (text_first b t h).0 x).0, k)

shown_word : (a : Axis) → Every ShownByte (axis_word a)
shown_word across = (omega arith, (omega arith, (omega arith, tt)))
shown_word down = (omega arith, (omega arith, (omega arith, (omega arith, (omega arith, (omega arith, tt))))))

shown_body : (item : Item) → is_text (own_text item) ≡ true → Every ShownByte (typed_body item)
shown_body (cell t) h = (omega arith, shown_escaped t h)
shown_body (group a) h = shown_word a

shown_line : (n : TypedNode) → is_text (own_text n.item) ≡ true → Every ShownByte (typed_line n)
unfolding typed_line
shown_line n h = every_append ShownByte (replicate (2 * n.level) 32) (typed_body n.item) (every_replicate ShownByte (2 * n.level) 32
    (omega arith)) (shown_body n.item h)

not_feed : (b : ℕ) → 32 ≤ b → b ≢ 10
not_feed b h e = omega arith

shown_free : (s : List ℕ) → Every ShownByte s → Free s
shown_free [] h = Free.none
shown_free (b ∷ s) h = Free.more (not_feed b h.0) (shown_free s h.1)

no_return : (s : List ℕ) → Every ShownByte s → (i : ℕ) → get_or s i 0 ≡ 13 → ⊥
no_return [] h i e = omega arith
no_return (b ∷ s) h zero e = omega (arith, h.0)
no_return (b ∷ s) h (suc i) e = no_return s h.1 i e

-- ---- a line that is typed is read as its node

spaces_typed : (k b : ℕ) (s : List ℕ) → (b ≡ 32 → ⊥) → spaces (replicate k 32 ++ (b ∷ s)) ≡ k
unfolding spaces
spaces_typed zero b s h = rw (ne_eqb b 32 h)
spaces_typed (suc k) b s h = ap suc (spaces_typed k b s h)

level_typed : (d : ℕ) (item : Item) → level_of (2 * d) item ≡ node d item
level_typed d item =
    let e : (2 * d) % 2 ≡ 0 = omega arith in
    let f : (2 * d) / 2 ≡ d = omega arith in
    rw (e, f)

after_spaces : (k : ℕ) (s : List ℕ) → drop k (replicate k 32 ++ s) ≡ s
after_spaces k s = drop_at (replicate k 32) s k (length-replicate k 32)

after_one : (k b : ℕ) (s : List ℕ) → drop (k + 1) (replicate k 32 ++ (b ∷ s)) ≡ s
after_one k b s = rw (add-one k) (go k)
  where
    go : (k : ℕ) → drop (suc k) (replicate k 32 ++ (b ∷ s)) ≡ s
    go zero = refl
    go (suc k) = go k

plain_typed : (d : ℕ) (item : Item) → is_text (own_text item) ≡ true → plain_of (replicate (2 * d) 32 ++ typed_body item) ≡ node d item
unfolding plain_line same_bytes
plain_typed d (cell t) h =
    rw (spaces_typed (2 * d) 39 (escaped t) (λ e. omega arith), after_spaces (2 * d) (39 ∷ escaped t), after_one (2 * d) 39 (escaped t), text_typed t h)
    (level_typed d (cell t))
plain_typed d (group across) h =
    rw (spaces_typed (2 * d) 114 (111 ∷ 119 ∷ []) (λ e. omega arith), after_spaces (2 * d) (axis_word across)) (level_typed d (group across))
plain_typed d (group down) h =
    rw (spaces_typed (2 * d) 99 (111 ∷ 108 ∷ 117 ∷ 109 ∷ 110 ∷ []) (λ e. omega arith), after_spaces (2 * d) (axis_word down)) (level_typed d (group down))

whole_line : (x : List ℕ) → Every ShownByte x → without_return x ≡ x
unfolding without_return
whole_line x h = rw (ne_eqb (get_or x (length x - 1) 0) 13 (no_return x h (length x - 1)))

pub line_typed : (n : TypedNode) → is_text (own_text n.item) ≡ true → one_line_of (typed_line n) ≡ node n.level n.item
unfolding one_line_of typed_line
line_typed n h = rw (whole_line (replicate (2 * n.level) 32 ++ typed_body n.item) (shown_line n h)) (plain_typed n.level n.item h)

-- ---- the lines of nodes whose levels are allowed are read as these nodes

unfoldable PlacedNodes : ScanState → List TypedNode → Type 0
PlacedNodes z [] = 0 < z.count
PlacedNodes z (n ∷ ns) =
    (is_text (own_text n.item) ≡ true) × (place_fault z n.level (length (own_text n.item)) ≡ 0) × PlacedNodes (next_of z n.level n.item) ns

scan_end : (l : ℕ) (z : ScanState) → 0 < z.count → scan_from l z [] ≡ found []
unfolding scan_from
scan_end l z h = rw (ne_eqb z.count 0 (λ e. omega arith))

scan_placed : (ns : List TypedNode) (l : ℕ) (z : ScanState) → PlacedNodes z ns → scan_from l z (map typed_line ns) ≡ found ns
unfolding PlacedNodes
scan_placed [] l z h = scan_end l z h
scan_placed (n ∷ ns) l z h =
    scan_node l z (typed_line n) (map typed_line ns) n.level n.item (line_typed n h.0) h.1
    ∙ ap (adding n) (scan_placed ns (suc l) (next_of z n.level n.item) h.2)

place_zero : (z : ScanState) (d n : ℕ) → (d ≡ 0 → z.count ≡ 0) → d ≤ z.may → d < 16 → z.count < 512 → z.total + 3 + n ≤ 32768 → place_fault z d n ≡ 0
unfolding place_fault
place_zero z d n root allowed shallow few short = go (eqb d 0) refl
  where
    rest : both (ltb 0 z.count) (eqb d 0) ≡ false → place_fault z d n ≡ 0
    rest h = rw (h, le-ltb _ _ allowed, lt-leb _ _ shallow, lt-leb _ _ few, le-ltb _ _ short)

    go : (b : Bool) → eqb d 0 ≡ b → place_fault z d n ≡ 0
    go true e = rest (rw (e, root (eqb-true d 0 e)))
    go false e = rest (rw e)

-- after a tree: its nodes and bytes are counted, and the next line may have its level
record After (z z' : ScanState) (d n k : ℕ) : Type 0 where
  count_is : z'.count ≡ z.count + n
  total_is : z'.total ≡ z.total + k
  allowed : d ≤ z'.may

-- room for a tree of n nodes and k bytes at level d, g levels deep
record TreeRoom (z : ScanState) (d n k g : ℕ) : Type 0 where
  root : d ≡ 0 → z.count ≡ 0
  allowed : d ≤ z.may
  shallow : d + g ≤ 16
  few : z.count + n ≤ 512
  short : z.total + k ≤ 32768

abbrev TreePlaced : Tree → Type 0
TreePlaced t = (d : ℕ) (z : ScanState) (ms : List TypedNode) → Texts t → TreeRoom z d (nodes t) (length (bytes_of t)) (depth t)
    → ((z' : ScanState) → After z z' d (nodes t) (length (bytes_of t)) → PlacedNodes z' ms) → PlacedNodes z (typed_nodes d t ++ ms)

abbrev TreesPlaced : Trees → Type 0
TreesPlaced ts = (d : ℕ) (z : ScanState) (ms : List TypedNode) → 0 < d → Texts* ts → TreeRoom z d (nodes* ts) (length (bytes_of* ts)) (depth* ts)
    → ((z' : ScanState) → After z z' d (nodes* ts) (length (bytes_of* ts)) → PlacedNodes z' ms) → PlacedNodes z (typed_nodes* d ts ++ ms)

cell_placed : (t : List ℕ) → TreePlaced (tree.cell t)
unfolding typed_nodes PlacedNodes Texts nodes depth bytes_of
cell_placed t d z ms x r k = (
  x,
  place_zero z d (length t) r.root r.allowed (omega (arith, r.shallow)) (omega (arith, r.few)) (omega (arith, r.short)),
  k (next_of z d (cell t)) (record { count_is = refl; total_is = omega arith; allowed = omega arith }),
)

group_placed : (a : Axis) (ts : Trees) → TreesPlaced ts → TreePlaced (tree.group a ts)
unfolding typed_nodes PlacedNodes Texts nodes depth bytes_of is_text
group_placed a ts ih d z ms x r k = (
  refl,
  place_zero z d 0 r.root r.allowed (omega (arith, r.shallow)) (omega (arith, r.few)) (omega (arith, r.short)),
  ih (suc d) (next_of z d (group a)) ms (omega arith) x
      (record {
        root = λ e. absurd (omega arith);
        allowed = omega arith;
        shallow = omega (arith, r.shallow);
        few = omega (arith, r.few);
        short = omega (arith, r.short);
      })
      (λ z' q. k z' (record { count_is = omega (arith, q.count_is); total_is = omega (arith, q.total_is); allowed = omega (arith, q.allowed) })),
)

none_placed : TreesPlaced none
unfolding typed_nodes nodes bytes_of
none_placed d z ms b x r k = k z (record { count_is = omega arith; total_is = omega arith; allowed = r.allowed })

more_placed : (t : Tree) (ts : Trees) → TreePlaced t → TreesPlaced ts → TreesPlaced (more t ts)
unfolding typed_nodes Texts nodes depth bytes_of
more_placed t ts ih₁ ih₂ d z ms b x r k =
    let e = length-append (bytes_of t) (bytes_of* ts) in
    rw (append_assoc (typed_nodes d t) (typed_nodes* d ts) ms)
    (ih₁ d z (typed_nodes* d ts ++ ms) x.0
    (record { root = r.root; allowed = r.allowed; shallow = omega (arith, r.shallow); few = omega (arith, r.few); short = omega (arith, r.short) })
    (λ z' q. ih₂ d z' ms b x.1
    (record {
      root = λ v. absurd (omega arith);
      allowed = q.allowed;
      shallow = omega (arith, r.shallow);
      few = omega (arith, r.few, q.count_is);
      short = omega (arith, r.short, q.total_is);
    })
    (λ z'' u. k z'' (record { count_is = omega (arith, q.count_is, u.count_is); total_is = omega (arith, q.total_is, u.total_is); allowed = u.allowed }))))

mutual
  tree_placed : (t : Tree) → TreePlaced t
  tree_placed (tree.cell t) = cell_placed t
  tree_placed (tree.group a ts) = group_placed a ts (trees_placed ts)

  trees_placed : (ts : Trees) → TreesPlaced ts
  trees_placed none = none_placed
  trees_placed (more t ts) = more_placed t ts (tree_placed t) (trees_placed ts)

-- ---- the tree of a tree's nodes is that tree

-- one tree more in front of those at level d
unfoldable add : ℕ → Tree → List Trees → List Trees
add d t [] = []
add zero t (q ∷ r) = more t q ∷ r
add (suc d) t (q ∷ r) = q ∷ add d t r

unfoldable add_all : ℕ → Trees → List Trees → List Trees
add_all d none p = p
add_all d (more t ts) p = add d t (add_all d ts p)

add_far : (d : ℕ) (t : Tree) (p : List Trees) (e : ℕ) → d < e → get_or (add d t p) e none ≡ get_or p e none
unfolding add
add_far d t [] e h = refl
add_far zero t (q ∷ r) zero h = absurd (omega arith)
add_far zero t (q ∷ r) (suc e) h = refl
add_far (suc d) t (q ∷ r) zero h = absurd (omega arith)
add_far (suc d) t (q ∷ r) (suc e) h = add_far d t r e (omega arith)

add_all_far : (d : ℕ) (ts : Trees) (p : List Trees) (e : ℕ) → d < e → get_or (add_all d ts p) e none ≡ get_or p e none
unfolding add_all
add_all_far d none p e h = refl
add_all_far d (more t ts) p e h = add_far d t (add_all d ts p) e h ∙ add_all_far d ts p e h

length_add : (d : ℕ) (t : Tree) (p : List Trees) → length (add d t p) ≡ length p
unfolding add
length_add d t [] = refl
length_add zero t (q ∷ r) = refl
length_add (suc d) t (q ∷ r) = ap suc (length_add d t r)

length_add_all : (d : ℕ) (ts : Trees) (p : List Trees) → length (add_all d ts p) ≡ length p
unfolding add_all
length_add_all d none p = refl
length_add_all d (more t ts) p = length_add d t (add_all d ts p) ∙ length_add_all d ts p

all_here : (ts : Trees) (r : List Trees) → add_all zero ts (none ∷ r) ≡ ts ∷ r
unfolding add add_all
all_here none r = refl
all_here (more t ts) r = ap (add zero t) (all_here ts r)

all_under : (d : ℕ) (ts : Trees) (q : Trees) (r : List Trees) → add_all (suc d) ts (q ∷ r) ≡ q ∷ add_all d ts r
unfolding add add_all
all_under d none q r = refl
all_under d (more t ts) q r = ap (add (suc d) t) (all_under d ts q r)

push_cell : (d : ℕ) (u : List ℕ) (p : List Trees) → suc d < length p → get_or p (suc d) none ≡ none → push d (cell u) p ≡ add d (tree.cell u) p
unfolding add push
push_cell d u [] h e = absurd (omega arith)
push_cell zero u (q ∷ []) h e = absurd (omega arith)
push_cell zero u (q ∷ k ∷ r) h e = rw e
push_cell (suc d) u (q ∷ r) h e = ap (λ (l : List Trees). q ∷ l) (push_cell d u r (omega arith) e)

push_group : (d : ℕ) (a : Axis) (ts : Trees) (p : List Trees) → suc d < length p → get_or p (suc d) none ≡ none
    → push d (group a) (add_all (suc d) ts p) ≡ add d (tree.group a ts) p
unfolding add push
push_group d a ts [] h e = absurd (omega arith)
push_group zero a ts (q ∷ []) h e = absurd (omega arith)
push_group zero a ts (q ∷ k ∷ r) h e = rw (all_under 0 ts q (k ∷ r), e, all_here ts r)
push_group (suc d) a ts (q ∷ r) h e = rw (all_under (suc d) ts q r) (ap (λ (l : List Trees). q ∷ l) (push_group d a ts r (omega arith) e))

abbrev TreeBuilt : Tree → Type 0
TreeBuilt t = (d : ℕ) (ms : List TypedNode) → d + depth t ≤ 16 → length (trees_at ms) ≡ 17 → ((e : ℕ) → d < e → get_or (trees_at ms) e none ≡ none)
    → trees_at (typed_nodes d t ++ ms) ≡ add d t (trees_at ms)

abbrev TreesBuilt : Trees → Type 0
TreesBuilt ts = (d : ℕ) (ms : List TypedNode) → d + depth* ts ≤ 16 → length (trees_at ms) ≡ 17 → ((e : ℕ) → d < e → get_or (trees_at ms) e none ≡ none)
    → trees_at (typed_nodes* d ts ++ ms) ≡ add_all d ts (trees_at ms)

cell_built : (u : List ℕ) → TreeBuilt (tree.cell u)
unfolding typed_nodes depth trees_at
cell_built u d ms b l f = push_cell d u (trees_at ms) (omega arith) (f (suc d) (omega arith))

group_built : (a : Axis) (ts : Trees) → TreesBuilt ts → TreeBuilt (tree.group a ts)
unfolding typed_nodes depth trees_at
group_built a ts ih d ms b l f =
    ap (push d (group a)) (ih (suc d) ms (omega arith) l (λ e h. f e (omega arith)))
    ∙ push_group d a ts (trees_at ms) (omega arith) (f (suc d) (omega arith))

none_built : TreesBuilt none
unfolding typed_nodes add_all
none_built d ms b l f = refl

more_built : (t : Tree) (ts : Trees) → TreeBuilt t → TreesBuilt ts → TreesBuilt (more t ts)
unfolding typed_nodes depth add_all
more_built t ts ih₁ ih₂ d ms b l f =
    let q = ih₂ d ms (omega arith) l f in
    ap trees_at (append_assoc (typed_nodes d t) (typed_nodes* d ts) ms)
    ∙ ih₁ d (typed_nodes* d ts ++ ms) (omega arith) (ap length q ∙ length_add_all d ts (trees_at ms) ∙ l)
    (λ e h. ap (λ (p : List Trees). get_or p e none) q ∙ add_all_far d ts (trees_at ms) e h ∙ f e h)
    ∙ ap (add d t) q

mutual
  tree_built : (t : Tree) → TreeBuilt t
  tree_built (tree.cell u) = cell_built u
  tree_built (tree.group a ts) = group_built a ts (trees_built ts)

  trees_built : (ts : Trees) → TreesBuilt ts
  trees_built none = none_built
  trees_built (more t ts) = more_built t ts (tree_built t) (trees_built ts)

pub root_typed : (t : Tree) → depth t ≤ 16 → root_of (typed_nodes 0 t) ≡ t
unfolding trees_at add
root_typed t h =
    ap (λ (ns : List TypedNode). root_of ns) (sym (append-nil (typed_nodes 0 t)))
    ∙ ap (λ (p : List Trees). first_of (get_or p 0 none)) (tree_built t 0 [] (omega arith) refl (λ e b. none_replicate 17 e))

-- ---- how long the text is

escaped_short : (t : List ℕ) → length (escaped t) ≤ 2 * length t
unfolding escaped
escaped_short [] = omega arith
escaped_short (b ∷ t) = go (eqb b 10) (eqb b 92) (escaped_short t)
  where
    go : (p q : Bool) → length (escaped t) ≤ 2 * length t
        → length (pick p (92 ∷ 110 ∷ escaped t) (pick q (92 ∷ 92 ∷ escaped t) (b ∷ escaped t))) ≤ 2 * suc (length t)
    go true q h = omega arith
    go false true h = omega arith
    go false false h = omega arith

body_short : (item : Item) → length (typed_body item) ≤ 6 + 2 * length (own_text item)
body_short (cell t) = omega (arith, escaped_short t)
body_short (group across) = omega arith
body_short (group down) = omega arith

line_short : (n : TypedNode) → n.level < 16 → length (typed_line n) ≤ 36 + 2 * length (own_text n.item)
unfolding typed_line
line_short n h = omega (
  arith,
  length-append (replicate (2 * n.level) 32) (typed_body n.item),
  length-replicate {A = ℕ} (2 * n.level) 32,
  body_short n.item,
)

feeds_short : (ns : List TypedNode) → Every LowNode ns → length (join_lines (map typed_line ns)) ≤ 2 * total_of ns + 31 * length ns
unfolding join_lines total_of
feeds_short [] h = omega arith
feeds_short (n ∷ []) h = omega (arith, line_short n h.0)
feeds_short (n ∷ m ∷ ns) h =
    omega (arith, line_short n h.0, length-append (typed_line n) (10 ∷ join_lines (map typed_line (m ∷ ns))), feeds_short (m ∷ ns) h.1)

-- ---- the theorem

placed_shallow : (ns : List TypedNode) (z : ScanState) → PlacedNodes z ns → Every LowNode ns
unfolding PlacedNodes
placed_shallow [] z h = tt
placed_shallow (n ∷ ns) z h = ((place_fits z n.level (length (own_text n.item)) h.1).shallow, placed_shallow ns (next_of z n.level n.item) h.2)

placed_free : (ns : List TypedNode) (z : ScanState) → PlacedNodes z ns → NoFeed (map typed_line ns)
unfolding PlacedNodes
placed_free [] z h = NoFeed.none
placed_free (n ∷ ns) z h = NoFeed.more (shown_free (typed_line n) (shown_line n h.0)) (placed_free ns (next_of z n.level n.item) h.2)

lines_typed : (ns : List TypedNode) → 0 < length ns → NoFeed (map typed_line ns) → lines (join_lines (map typed_line ns)) ≡ map typed_line ns
lines_typed [] h f = absurd (omega arith)
lines_typed (n ∷ ns) h f = lines_feeds f

module _ (t : Tree) (short : length (bytes_of t) ≤ 32768) (few : nodes t ≤ 512) (shallow : depth t ≤ 16) (texts : Texts t) where
  tree_some : 0 < nodes t
  tree_some = nodes_low t

  nodes_placed : PlacedNodes none_yet (typed_nodes 0 t)
  unfolding PlacedNodes
  nodes_placed = rw (append-nil (typed_nodes 0 t)) at
      (tree_placed t 0 none_yet [] texts
      (record { root = λ e. refl; allowed = omega arith; shallow = omega arith; few = omega arith; short = omega arith })
      (λ z' q. end z' (omega (arith, q.count_is, tree_some))))
    where
      end : (z : ScanState) → 0 < z.count → PlacedNodes z []
      end z h = h

  -- the text of a tree is read as its nodes
  pub scan_typed : scan_lines (type_of t) ≡ found (typed_nodes 0 t)
  unfolding type_of
  scan_typed =
      ap (scan_from 0 none_yet) (lines_typed (typed_nodes 0 t) (omega (arith, nodes_listed t 0, tree_some))
      (placed_free (typed_nodes 0 t) none_yet nodes_placed))
      ∙ scan_placed (typed_nodes 0 t) 0 none_yet nodes_placed

  text_fits : length (type_of t) ≤ 131072
  unfolding type_of
  text_fits =
      let i = following_of (type_of t) (typed_nodes 0 t) scan_typed in
      omega (arith, feeds_short (typed_nodes 0 t) (placed_shallow (typed_nodes 0 t) none_yet nodes_placed), i.short, i.few)

  -- Every tree within the limits of 01 can be typed: the reader gives exactly its bytes, or 8 where the output is too short for them.
  pub round_trip : (o : List ℕ) → typed_of (type_of t) o ≡ pick (ltb (length o) (length (bytes_of t))) (typed_refusal 8 0 0 o) (typed_accepted (bytes_of t) o)
  round_trip o =
      typed_scan (type_of t) o text_fits
      ∙ ap (λ (s : TypedScan). outcome_of s o) scan_typed
      ∙ ap (λ (u : Tree). pick (ltb (length o) (length (bytes_of u))) (typed_refusal 8 0 0 o) (typed_accepted (bytes_of u) o)) (root_typed t shallow)
