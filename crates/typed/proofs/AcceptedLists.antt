-- An accepted typed list is a tree that the tree reader accepts: its nodes with their levels are the lines.
use mathlib.Core.Path.{◌≡◌, refl, sym, ap, ◌∙◌}
use Prim.Native.Nat.{ℕ, zero, suc, ◌+◌, ◌≤◌, ◌<◌, ◌/◌, ◌%◌}
use native.Mathlib.Omega.{arith}
use native.Mathlib.Nat.{zero-add, add-zero}
use mathlib.Core.Bool.{Bool, true, false}
use mathlib.Core.List.{List, [], ◌∷◌, ◌++◌, append-nil}
use lib.ListN.{length, get_or, drop, replicate, length-append}
use lib.Dec.{eqb}
use borrow.Author.Tests.{eqb-true, eqb-false}
use Rattle.common.specs.Choice.{pick}
use Rattle.common.specs.Every.{Every}
use Rattle.common.proofs.Every.{every_front, every_back}
use Rattle.tree.specs.Tree as tree
use Rattle.tree.specs.Tree.{Axis, across, down, Tree, Trees, none, more, nodes, nodes*}
use Rattle.tree.specs.Reading.{is_text, one, read_tree}
use Rattle.tree.specs.Accepted.{bytes_of}
use Rattle.tree.specs.Promises.{Texts, Texts*, depth, depth*}
use Rattle.tree.proofs.Complete.{tree_bytes}
use Rattle.text.specs.Text.{lines}
use Rattle.typed.specs.declared.scan.ScanState.{ScanState}
use Rattle.typed.specs.Text.{Text, wrong, text, typed_text}
use Rattle.typed.specs.Line.{Item, cell, group, own_text, OneLine, skip, fault, node, is_row, is_column, level_of, cell_at, plain_line, one_line_of}
use Rattle.typed.specs.Line.{without_return, spaces}
use Rattle.typed.specs.Scan.{TypedNode, stopped, found, place_fault, next_of, scan_from, none_yet, scan_lines}
use Rattle.typed.specs.Clauses.{total_of, Chained}
use Rattle.typed.specs.Typed.{parent, push, trees_at, root_of}
use Rattle.typed.specs.Promises.{typed_nodes, typed_nodes*}
use Rattle.typed.proofs.Texts.{FairIs, texts_fair}
use Rattle.typed.proofs.Scanned.{scan_skip, scan_fault, scan_node, scan_refused}
use Rattle.typed.proofs.Built.{Suits, suits, far_none, none_replicate, levels_17, Rooted, one_root_of, root_found, flat_is, flat_of_length}
use Rattle.typed.proofs.Listing.{following_of, rooted, never, added}

-- ---- the nodes whose parent is still to come, the deepest level first

unfoldable nodes_below : ℕ → List Trees → List TypedNode
nodes_below d [] = []
nodes_below d (q ∷ r) = nodes_below (suc d) r ++ typed_nodes* d q

below_none : (d : ℕ) (r : List Trees) → ((e : ℕ) → get_or r e none ≡ none) → nodes_below d r ≡ []
unfolding nodes_below typed_nodes
below_none d [] h = refl
below_none d (q ∷ r) h = rw (below_none (suc d) r (λ e. h (suc e)), h 0) refl

parent_listed : (d : ℕ) (item : Item) (ks ts : Trees) → Suits item ks → typed_nodes d (parent item ks) ++ typed_nodes* d ts ≡ record { level = d; item = item }
    ∷ (typed_nodes* (suc d) ks ++ typed_nodes* d ts)
unfolding typed_nodes
parent_listed d (cell t) ks ts s = rw s refl
parent_listed d (group a) ks ts s = refl

below_push : (m d : ℕ) (item : Item) (p : List Trees) → suc d < length p → Suits item (get_or p (suc d) none) → ((e : ℕ) → suc d < e → get_or p e none ≡ none)
    → nodes_below m (push d item p) ≡ record { level = m + d; item = item } ∷ nodes_below m p
unfolding nodes_below push typed_nodes
below_push m zero item [] h s f = absurd (omega arith)
below_push m zero item (q ∷ []) h s f = absurd (omega arith)
below_push m zero item (q ∷ k ∷ r) h s f = rw (below_none (suc (suc m)) r (λ e. f (suc (suc e)) (omega arith)), add-zero m) (parent_listed m item k q s)
below_push m (suc d) item [] h s f = absurd (omega arith)
below_push m (suc d) item (q ∷ r) h s f =
    let e : suc m + d ≡ m + suc d = omega arith in
    ap (λ (l : List TypedNode). l ++ typed_nodes* m q) (below_push (suc m) d item r (omega arith) s (λ e b. f (suc e) (omega arith)))
    ∙ ap (λ (j : ℕ). record { level = j; item = item } ∷ (nodes_below (suc m) r ++ typed_nodes* m q)) e

nodes_below_lem : (ns : List TypedNode) → Chained ns → nodes_below 0 (trees_at ns) ≡ ns
unfolding trees_at Chained
nodes_below_lem [] c = below_none 0 (replicate 17 none) (none_replicate 17)
nodes_below_lem (n ∷ ns) c =
    below_push 0 n.level n.item (trees_at ns) (omega (arith, levels_17 ns c.2, c.0)) (suits n.level n.item ns c.2 c.1)
    (far_none n.level n.item ns c.2 c.1)
    ∙ ap (λ (j : ℕ). record { level = j; item = n.item } ∷ nodes_below 0 (trees_at ns)) (zero-add n.level)
    ∙ ap (λ (l : List TypedNode). n ∷ l) (nodes_below_lem ns c.2)

-- the lines of the tree are the lines that were typed
pub root_listed : (ns : List TypedNode) → Rooted ns → Chained ns → typed_nodes 0 (root_of ns) ≡ ns
unfolding nodes_below typed_nodes
root_listed ns q c =
    let a = one_root_of ns q c in
    ap (typed_nodes 0) (root_found ns a)
    ∙ sym (append-nil (typed_nodes 0 a.root))
    ∙ ap (λ (l : List TypedNode). l ++ (typed_nodes 0 a.root ++ [])) (sym (below_none 1 a.rest a.empty))
    ∙ ap (nodes_below 0) (sym a.is)
    ∙ nodes_below_lem ns c

-- ---- what the nodes show of the tree

mutual
  unfolding typed_nodes nodes

  pub nodes_listed : (t : Tree) (d : ℕ) → length (typed_nodes d t) ≡ nodes t
  nodes_listed (tree.cell t) = λ d. refl
  nodes_listed (tree.group a ts) = λ d. ap suc (nodes_listed* ts (suc d))

  nodes_listed* : (ts : Trees) (d : ℕ) → length (typed_nodes* d ts) ≡ nodes* ts
  nodes_listed* none = λ d. refl
  nodes_listed* (more t ts) = λ d. omega (arith, length-append (typed_nodes d t) (typed_nodes* d ts), nodes_listed t d, nodes_listed* ts d)

-- each level is below 16, each text has allowed bytes only
abbrev pub LowNode : TypedNode → Type 0
LowNode n = n.level < 16

abbrev FairNode : TypedNode → Type 0
FairNode n = is_text (own_text n.item) ≡ true

chained_low : (ns : List TypedNode) → Chained ns → Every LowNode ns
unfolding Chained
chained_low [] c = tt
chained_low (n ∷ ns) c = (c.0, chained_low ns c.2)

mutual
  unfolding typed_nodes depth

  depth_listed : (t : Tree) (d : ℕ) → Every LowNode (typed_nodes d t) → d + depth t ≤ 16
  depth_listed (tree.cell t) = λ d h. omega (arith, h.0)
  depth_listed (tree.group a ts) = λ d h. omega (arith, depth_listed* ts (suc d) (omega (arith, h.0)) h.1)

  depth_listed* : (ts : Trees) (d : ℕ) → d ≤ 16 → Every LowNode (typed_nodes* d ts) → d + depth* ts ≤ 16
  depth_listed* none = λ d b h. omega arith
  depth_listed* (more t ts) = λ d b h.
      omega (
        arith,
        depth_listed t d (every_front LowNode (typed_nodes d t) (typed_nodes* d ts) h),
        depth_listed* ts d b (every_back LowNode (typed_nodes d t) (typed_nodes* d ts) h),
      )

mutual
  unfolding typed_nodes Texts

  texts_listed : (t : Tree) (d : ℕ) → Every FairNode (typed_nodes d t) → Texts t
  texts_listed (tree.cell t) = λ d h. h.0
  texts_listed (tree.group a ts) = λ d h. texts_listed* ts (suc d) h.1

  texts_listed* : (ts : Trees) (d : ℕ) → Every FairNode (typed_nodes* d ts) → Texts* ts
  texts_listed* none = λ d h. tt
  texts_listed* (more t ts) = λ d h. (
    texts_listed t d (every_front FairNode (typed_nodes d t) (typed_nodes* d ts) h),
    texts_listed* ts d (every_back FairNode (typed_nodes d t) (typed_nodes* d ts) h),
  )

-- ---- the texts of a line

abbrev LineFair : OneLine → Type 0
LineFair skip = Unit
LineFair (fault k c) = Unit
LineFair (node d item) = is_text (own_text item) ≡ true

fair_pick : (b : Bool) (o p : OneLine) → LineFair o → LineFair p → LineFair (pick b o p)
fair_pick true o p h k = h
fair_pick false o p h k = k

level_fair : (n : ℕ) (item : Item) → is_text (own_text item) ≡ true → LineFair (level_of n item)
level_fair n item h = fair_pick (eqb (n % 2) 0) (node (n / 2) item) (fault 33 (n + 1)) h tt

cell_fair : (n start : ℕ) (t : Text) → FairIs t → LineFair (cell_at n start t)
cell_fair n start (wrong k i) h = tt
cell_fair n start (text t) h = level_fair n (cell t) h

group_fair : (n : ℕ) (a : Axis) → LineFair (level_of n (group a))
unfolding is_text
group_fair n a = level_fair n (group a) refl

plain_fair : (x : List ℕ) (n : ℕ) (y : List ℕ) → LineFair (plain_line x n y)
unfolding plain_line
plain_fair x n [] = tt
plain_fair x n (b ∷ s) =
    fair_pick (eqb b 35) skip _ tt
    (fair_pick (is_row (b ∷ s)) _ _ (group_fair n across)
    (fair_pick (is_column (b ∷ s)) _ _ (group_fair n down)
    (fair_pick (eqb b 39) _ _ (cell_fair n (n + 1) (typed_text (drop (n + 1) x)) (texts_fair false (drop (n + 1) x)))
    (cell_fair n n (typed_text (drop n x)) (texts_fair false (drop n x))))))

line_fair : (x : List ℕ) (d : ℕ) (item : Item) → one_line_of x ≡ node d item → is_text (own_text item) ≡ true
unfolding one_line_of
line_fair x d item h = rw h at (plain_fair (without_return x) (spaces (without_return x)) (drop (spaces (without_return x)) (without_return x)))

abbrev FairClaim : List (List ℕ) → Type 0
FairClaim xs = (l : ℕ) (z : ScanState) (ns : List TypedNode) → scan_from l z xs ≡ found ns → Every FairNode ns

fair_end : FairClaim []
unfolding scan_from
fair_end l z ns e = go (eqb z.count 0) e
  where
    go : (c : Bool) → pick c (stopped 39 l 1) (found []) ≡ found ns → Every FairNode ns
    go true e = absurd (never 39 l 1 ns e)
    go false e = let z₀ : ns ≡ [] = cc in rw z₀ tt

fair_more : (x : List ℕ) (xs : List (List ℕ)) → FairClaim xs → FairClaim (x ∷ xs)
fair_more x xs ih l z ns e = go (one_line_of x) refl
  where
    at_node : (d : ℕ) (item : Item) → one_line_of x ≡ node d item → (c : Bool) → eqb (place_fault z d (length (own_text item))) 0 ≡ c → Every FairNode ns
    at_node d item q true c =
        let p = eqb-true (place_fault z d (length (own_text item))) 0 c in
        let w = added (record { level = d; item = item }) (scan_from (suc l) (next_of z d item) xs) ns (sym (scan_node l z x xs d item q p) ∙ e) in
        rw w.whole (line_fair x d item q, ih (suc l) (next_of z d item) w.rest w.is)
    at_node d item q false c = absurd (never _ _ _ ns (sym (scan_refused l z x xs d item q (eqb-false (place_fault z d (length (own_text item))) 0 c)) ∙ e))

    go : (o : OneLine) → one_line_of x ≡ o → Every FairNode ns
    go skip q = ih (suc l) z ns (sym (scan_skip l z x xs q) ∙ e)
    go (fault k c) q = absurd (never k (suc l) c ns (sym (scan_fault l z x xs k c q) ∙ e))
    go (node d item) q = at_node d item q (eqb (place_fault z d (length (own_text item))) 0) refl

fair_lines : (xs : List (List ℕ)) → FairClaim xs
fair_lines [] = fair_end
fair_lines (x ∷ xs) = fair_more x xs (fair_lines xs)

-- ---- the theorems

-- The nodes of an accepted typed list are those of one tree, in node order with their levels, and the tree reader accepts its bytes as that tree.
pub record Meant (ns : List TypedNode) : Type 0 where
  pub lines_are : typed_nodes 0 (root_of ns) ≡ ns
  pub read : read_tree (bytes_of (root_of ns)) ≡ one (root_of ns) (length (bytes_of (root_of ns))) (length ns)

pub typed_meant : (t : List ℕ) (ns : List TypedNode) → scan_lines t ≡ found ns → Meant ns
typed_meant t ns e =
    let i = following_of t ns e in
    let q = rooted ns i in
    let r = root_listed ns q i.chained in
    let f = fair_lines (lines t) 0 none_yet ns e in
    let long : length (bytes_of (root_of ns)) ≡ total_of ns = ap length (sym (flat_is ns q i.chained)) ∙ flat_of_length ns in
    let few : nodes (root_of ns) ≡ length ns = sym (nodes_listed (root_of ns) 0) ∙ ap length r in
    record {
      lines_are = r;
      read =
          tree_bytes (root_of ns) (omega (arith, i.short)) (omega (arith, i.few))
          (omega (arith, depth_listed (root_of ns) 0 (rw r (chained_low ns i.chained)))) (texts_listed (root_of ns) 0 (rw r f))
          ∙ ap (λ (k : ℕ). one (root_of ns) (length (bytes_of (root_of ns))) k) few;
    }
