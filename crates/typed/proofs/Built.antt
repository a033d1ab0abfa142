-- The trees that the nodes make, level by level, and their bytes.
use mathlib.Core.Path.{◌≡◌, refl, sym, ap, ◌∙◌}
use Prim.Native.Nat.{ℕ, zero, suc, ◌+◌, ◌≤◌, ◌<◌, ◌/◌, ◌%◌}
use native.Mathlib.Omega.{arith}
use native.Mathlib.Nat.{zero-add}
use mathlib.Core.List.{List, [], ◌∷◌, ◌++◌, map, append_assoc, append-nil}
use lib.ListN.{length, get_or, set, replicate, length-append}
use Rattle.common.specs.Every.{Every}
use Rattle.common.specs.Sums.{total}
use Rattle.common.proofs.Either.{either}
use Rattle.tree.specs.Tree.{Tree, Trees, none, more}
use Rattle.tree.specs.Accepted.{bytes_of, bytes_of*}
use Rattle.typed.specs.Line.{Item, cell, group, own_text}
use Rattle.typed.specs.Clauses.{item_tag, total_of, inside_of, flat_of, Starts, Chained}
use Rattle.typed.specs.Scan.{TypedNode, level_under}
use Rattle.typed.specs.Typed.{parent, push, trees_at, first_of, root_of}

-- ---- a node in front

-- a Cell has no children
abbrev pub Suits : Item → Trees → Type 0
Suits (cell t) ks = ks ≡ none
Suits (group a) ks = Unit

length_push : (d : ℕ) (item : Item) (p : List Trees) → suc d < length p → length (push d item p) ≡ length p
unfolding push
length_push zero item [] h = absurd (omega arith)
length_push zero item (q ∷ []) h = absurd (omega arith)
length_push zero item (q ∷ k ∷ r) h = refl
length_push (suc d) item [] h = absurd (omega arith)
length_push (suc d) item (q ∷ r) h = ap suc (length_push d item r (omega arith))

push_next : (d : ℕ) (item : Item) (p : List Trees) → get_or (push d item p) (suc d) none ≡ none
unfolding push
push_next zero item [] = refl
push_next zero item (q ∷ []) = refl
push_next zero item (q ∷ k ∷ r) = refl
push_next (suc d) item [] = refl
push_next (suc d) item (q ∷ r) = push_next d item r

push_far : (d : ℕ) (item : Item) (p : List Trees) (e : ℕ) → suc d < e → get_or (push d item p) e none ≡ get_or p e none
unfolding push
push_far zero item p zero h = absurd (omega arith)
push_far zero item p (suc zero) h = absurd (omega arith)
push_far zero item [] (suc (suc e)) h = refl
push_far zero item (q ∷ []) (suc (suc e)) h = refl
push_far zero item (q ∷ k ∷ r) (suc (suc e)) h = refl
push_far (suc d) item p zero h = absurd (omega arith)
push_far (suc d) item [] (suc e) h = refl
push_far (suc d) item (q ∷ r) (suc e) h = push_far d item r e (omega arith)

pub none_replicate : (n e : ℕ) → get_or (replicate n none) e none ≡ none
none_replicate zero e = refl
none_replicate (suc n) zero = refl
none_replicate (suc n) (suc e) = none_replicate n e

under_low : (d : ℕ) (item : Item) → level_under d item ≤ d + 1
under_low d (cell t) = omega arith
under_low d (group a) = omega arith

-- no trees are left below the level of the first node
none_below : (ns : List TypedNode) (m : ℕ) → Chained ns → Starts m ns → (e : ℕ) → m < e → get_or (trees_at ns) e none ≡ none
unfolding trees_at Chained
none_below [] m c s e h = none_replicate 17 e
none_below (n ∷ ns) m c s e h =
    either e (suc n.level)
    (λ a. let q : e ≡ suc n.level = omega arith in rw q (push_next n.level n.item (trees_at ns)))
    (λ a. push_far n.level n.item (trees_at ns) e a
    ∙ none_below ns (level_under n.level n.item) c.2 c.1 e (omega (arith, under_low n.level n.item)))

-- the trees left for a node are allowed as its children
pub suits : (d : ℕ) (item : Item) (ns : List TypedNode) → Chained ns → Starts (level_under d item) ns → Suits item (get_or (trees_at ns) (suc d) none)
suits d (cell t) ns c s = none_below ns d c s (suc d) (omega arith)
suits d (group a) ns c s = tt

pub far_none : (d : ℕ) (item : Item) (ns : List TypedNode) → Chained ns → Starts (level_under d item) ns → (e : ℕ) → suc d < e
    → get_or (trees_at ns) e none ≡ none
far_none d item ns c s e h = none_below ns (level_under d item) c s e (omega (arith, under_low d item))

pub levels_17 : (ns : List TypedNode) → Chained ns → length (trees_at ns) ≡ 17
unfolding trees_at Chained
levels_17 [] c = refl
levels_17 (n ∷ ns) c = length_push n.level n.item (trees_at ns) (omega (arith, levels_17 ns c.2)) ∙ levels_17 ns c.2

-- ---- sizes

abbrev pub trees_size : Trees → ℕ
trees_size ts = length (bytes_of* ts)

size_none : trees_size none ≡ 0
unfolding bytes_of
size_none = refl

size_parent : (item : Item) (ks ts : Trees) → Suits item ks → trees_size (more (parent item ks) ts) ≡ trees_size ts + 3 + inside_of item ks
unfolding bytes_of
size_parent (cell t) ks ts s = let z : trees_size ks ≡ 0 = ap trees_size s ∙ size_none in omega (arith, length-append t (bytes_of* ts))
size_parent (group a) ks ts s = omega (arith, length-append (bytes_of* ks) (bytes_of* ts))

pub sizes_push : (d : ℕ) (item : Item) (p : List Trees) → suc d < length p → Suits item (get_or p (suc d) none)
    → map trees_size (push d item p) ≡ set (set (map trees_size p) d (get_or (map trees_size p) d 0 + 3 + inside_of item (get_or p (suc d) none))) (suc d) 0
unfolding push
sizes_push zero item [] h s = absurd (omega arith)
sizes_push zero item (q ∷ []) h s = absurd (omega arith)
sizes_push zero item (q ∷ k ∷ r) h s = rw (size_parent item k q s, size_none)
sizes_push (suc d) item [] h s = absurd (omega arith)
sizes_push (suc d) item (q ∷ r) h s = ap (λ (l : List ℕ). trees_size q ∷ l) (sizes_push d item r (omega arith) s)

-- the bytes at all levels together
sum_push : (d : ℕ) (item : Item) (p : List Trees) → suc d < length p → Suits item (get_or p (suc d) none)
    → total (map trees_size (push d item p)) ≡ total (map trees_size p) + 3 + length (own_text item)
unfolding push total
sum_push zero item [] h s = absurd (omega arith)
sum_push zero item (q ∷ []) h s = absurd (omega arith)
sum_push zero item (q ∷ k ∷ r) h s = omega (arith, size_parent item k q s, size_none)
sum_push (suc d) item [] h s = absurd (omega arith)
sum_push (suc d) item (q ∷ r) h s = omega (arith, sum_push d item r (omega arith) s)

sum_none : (n : ℕ) → total (map trees_size (replicate n none)) ≡ 0
unfolding total
sum_none zero = refl
sum_none (suc n) = omega (arith, size_none, sum_none n)

sum_is : (ns : List TypedNode) → Chained ns → total (map trees_size (trees_at ns)) ≡ total_of ns
unfolding trees_at Chained total_of
sum_is [] c = sum_none 17
sum_is (n ∷ ns) c = omega (
  arith,
  sum_push n.level n.item (trees_at ns) (omega (arith, levels_17 ns c.2)) (suits n.level n.item ns c.2 c.1),
  sum_is ns c.2,
)

part_of_sum : (p : List Trees) (e : ℕ) → trees_size (get_or p e none) ≤ total (map trees_size p)
unfolding total
part_of_sum [] e = omega (arith, size_none)
part_of_sum (q ∷ p) zero = omega arith
part_of_sum (q ∷ p) (suc e) = omega (arith, part_of_sum p e)

pub trees_size_low : (ns : List TypedNode) → Chained ns → (e : ℕ) → trees_size (get_or (trees_at ns) e none) ≤ total_of ns
trees_size_low ns c e = omega (arith, part_of_sum (trees_at ns) e, sum_is ns c)

pub size_at : (p : List Trees) (e : ℕ) → get_or (map trees_size p) e 0 ≡ trees_size (get_or p e none)
size_at [] e = sym size_none
size_at (q ∷ p) zero = refl
size_at (q ∷ p) (suc e) = size_at p e

-- ---- bytes: the trees left, the deepest level first

unfoldable deep : List Trees → List ℕ
deep [] = []
deep (q ∷ r) = deep r ++ bytes_of* q

abbrev item_front : Item → Trees → List ℕ
item_front item ks = item_tag item ∷ (inside_of item ks / 256) ∷ (inside_of item ks % 256) ∷ own_text item

deep_none : (r : List Trees) → ((e : ℕ) → get_or r e none ≡ none) → deep r ≡ []
unfolding deep bytes_of
deep_none [] h = refl
deep_none (q ∷ r) h = rw (deep_none r (λ e. h (suc e)), h 0) refl

front_bytes : (item : Item) (ks ts : Trees) → Suits item ks → bytes_of (parent item ks) ++ bytes_of* ts ≡ item_front item ks ++ (bytes_of* ks ++ bytes_of* ts)
unfolding bytes_of
front_bytes (cell t) ks ts s = let z : length t + 0 ≡ length t = omega arith in rw (s, z) refl
front_bytes (group a) ks ts s = rw (zero-add (length (bytes_of* ks))) refl

deep_push : (d : ℕ) (item : Item) (p : List Trees) → suc d < length p → Suits item (get_or p (suc d) none) → ((e : ℕ) → suc d < e → get_or p e none ≡ none)
    → deep (push d item p) ≡ item_front item (get_or p (suc d) none) ++ deep p
unfolding deep push bytes_of
deep_push zero item [] h s f = absurd (omega arith)
deep_push zero item (q ∷ []) h s f = absurd (omega arith)
deep_push zero item (q ∷ k ∷ r) h s f = rw (deep_none r (λ e. f (suc (suc e)) (omega arith))) (front_bytes item k q s)
deep_push (suc d) item [] h s f = absurd (omega arith)
deep_push (suc d) item (q ∷ r) h s f =
    ap (λ (l : List ℕ). l ++ bytes_of* q) (deep_push d item r (omega arith) s (λ e b. f (suc e) (omega arith)))
    ∙ append_assoc (item_front item (get_or r (suc d) none)) (deep r) (bytes_of* q)

flat_deep : (ns : List TypedNode) → Chained ns → flat_of ns ≡ deep (trees_at ns)
unfolding flat_of trees_at Chained
flat_deep [] c = sym (deep_none (replicate 17 none) (none_replicate 17))
flat_deep (n ∷ ns) c =
    ap (λ (l : List ℕ). item_front n.item (get_or (trees_at ns) (suc n.level) none) ++ l) (flat_deep ns c.2)
    ∙ sym (deep_push n.level n.item (trees_at ns) (omega (arith, levels_17 ns c.2)) (suits n.level n.item ns c.2 c.1)
    (far_none n.level n.item ns c.2 c.1))

pub flat_of_length : (ns : List TypedNode) → length (flat_of ns) ≡ total_of ns
unfolding flat_of total_of
flat_of_length [] = refl
flat_of_length (n ∷ ns) = omega (arith, length-append (own_text n.item) (flat_of ns), flat_of_length ns)

-- ---- one root

-- every level is below the root's
abbrev pub Deeper : List TypedNode → Type 0
Deeper ns = Every (λ n. 0 < n.level) ns

push_root : (d : ℕ) (item : Item) (p : List Trees) → 0 < d → get_or (push d item p) 0 none ≡ get_or p 0 none
unfolding push
push_root zero item p h = absurd (omega arith)
push_root (suc d) item [] h = refl
push_root (suc d) item (q ∷ r) h = refl

no_root : (ns : List TypedNode) → Deeper ns → get_or (trees_at ns) 0 none ≡ none
unfolding trees_at
no_root [] d = refl
no_root (n ∷ ns) d = push_root n.level n.item (trees_at ns) d.0 ∙ no_root ns d.1

-- one node at level 0, and it is the first
pub record Rooted (ns : List TypedNode) : Type 0 where
  pub first : TypedNode
  pub others : List TypedNode
  pub are : ns ≡ first ∷ others
  pub at_root : first.level ≡ 0
  pub deeper : Deeper others

pub record OneRoot (p : List Trees) : Type 0 where
  pub root : Tree
  pub rest : List Trees
  pub is : p ≡ more root none ∷ rest
  pub empty : (e : ℕ) → get_or rest e none ≡ none

one_root : (item : Item) (p : List Trees) → suc zero < length p → get_or p 0 none ≡ none → ((e : ℕ) → suc zero < e → get_or p e none ≡ none)
    → OneRoot (push zero item p)
unfolding push
one_root item [] h z f = absurd (omega arith)
one_root item (q ∷ []) h z f = absurd (omega arith)
one_root item (q ∷ k ∷ r) h z f = record { root = parent item k; rest = none ∷ r; is = ap (λ (ts : Trees). more (parent item k) ts ∷ none ∷ r) z; empty = go }
  where
    go : (e : ℕ) → get_or (none ∷ r) e none ≡ none
    go zero = refl
    go (suc e) = f (suc (suc e)) (omega arith)

pub one_root_of : (ns : List TypedNode) → Rooted ns → Chained ns → OneRoot (trees_at ns)
unfolding trees_at Chained
one_root_of ns q c =
    let d : Chained (q.first ∷ q.others) = rw q.are at c in
    rw (q.are, q.at_root)
    (one_root q.first.item (trees_at q.others) (omega (arith, levels_17 q.others d.2)) (no_root q.others q.deeper)
    (λ e h. far_none q.first.level q.first.item q.others d.2 d.1 e (omega (arith, q.at_root))))

pub root_found : (ns : List TypedNode) (a : OneRoot (trees_at ns)) → root_of ns ≡ a.root
root_found ns a = ap (λ (p : List Trees). first_of (get_or p 0 none)) a.is

pub flat_is : (ns : List TypedNode) → Rooted ns → Chained ns → flat_of ns ≡ bytes_of (root_of ns)
unfolding deep bytes_of
flat_is ns q c =
    let a = one_root_of ns q c in
    flat_deep ns c ∙ ap deep a.is ∙ ap (λ (l : List ℕ). l ++ (bytes_of a.root ++ [])) (deep_none a.rest a.empty) ∙ append-nil (bytes_of a.root)
    ∙ ap bytes_of (sym (root_found ns a))
