-- The lines of a typed list, one after the other.
use mathlib.Core.Path.{◌≡◌, refl, sym, ap, ◌∙◌}
use Prim.Native.Nat.{ℕ, suc, ◌+◌, ◌*◌, ◌-◌, ◌≤◌, ◌<◌}
use native.Mathlib.Omega.{arith}
use native.Mathlib.Numerals.{add-one}
use mathlib.Core.Bool.{Bool, true, false}
use mathlib.Core.List.{List, [], ◌∷◌, ◌++◌, append_assoc, append-nil}
use lib.ListN.{length, take, drop, set, length-append, length-set, length-take, length-drop, get_or-append}
use lib.Seq.{get_or-set_same, get_or-set_other, get_or-append_seam, length-take-le}
use lib.Dec.{eqb, ltb, leb}
use borrow.Author.Tests.{eq-eqb, ne_eqb, eqb-true, eqb-false, ltb-false, leb-false}
use Rattle.std.specs.Prelude.{Option, Some, None, Result, Ok, Err, is_ok, ⊤}
use Rattle.common.specs.Choice.{pick, both}
use Rattle.common.specs.Refusals.{refusal_of}
use Rattle.common.specs.declared.refusal.Refusal.{Refusal}
use Rattle.common.proofs.Either.{either}
use Rattle.tree.specs.Tree.{across, down}
use Rattle.text.specs.Clauses.{first_feed}
use Rattle.text.proofs.Lines.{lines_from, rest_none, rest_next, line_from, line_in}
use Rattle.typed.specs.declared.ListFault.{ListFault}
use Rattle.typed.specs.declared.line.NodeSpot.{NodeSpot}
use Rattle.typed.specs.declared.scan.ScanState.{ScanState}
use Rattle.typed.specs.declared.typed_text.Misread.{Misread}
use Rattle.typed.specs.Line.{Item, cell, group, own_text, OneLine, skip, fault, node, one_line_of}
use Rattle.typed.specs.Clauses.{kind_of, misread, TextAt, SpotTold, LineTold, place_result, placed_line, deepest, scan_next, moved, no_spot, no_node}
use Rattle.typed.specs.Clauses.{Spotted, SpotsHeld, total_of, list_fault, ScanTold}
use Rattle.typed.specs.Scan.{TypedNode, TypedScan, stopped, found, adding, place_fault, level_under, next_of, scan_from, none_yet, scan_lines}
use Rattle.typed.proofs.Texts.{text_short}
use Rattle.typed.proofs.OneLine.{text_in}

-- the line that starts at `from` and ends at e
pub line_long : (t : List ℕ) (from : ℕ) (h : from ≤ length t) (e : ℕ) → e ≡ from + first_feed (drop from t) → length (take (e - from) (drop from t)) ≡ e - from
line_long t from h e is = length-take-le (e - from) (drop from t) (omega (arith, line_in t from h e is, length-drop from t))

-- ---- one line more

module _ (l : ℕ) (z : ScanState) (x : List ℕ) (xs : List (List ℕ)) where
  pub scan_skip : one_line_of x ≡ skip → scan_from l z (x ∷ xs) ≡ scan_from (suc l) z xs
  unfolding scan_from
  scan_skip h = rw (h, scan_from)

  pub scan_fault : (k c : ℕ) → one_line_of x ≡ fault k c → scan_from l z (x ∷ xs) ≡ stopped k (suc l) c
  unfolding scan_from
  scan_fault k c h = rw (h, scan_from)

  pub scan_node : (d : ℕ) (item : Item) → one_line_of x ≡ node d item → place_fault z d (length (own_text item)) ≡ 0
      → scan_from l z (x ∷ xs) ≡ adding (record { level = d; item = item }) (scan_from (suc l) (next_of z d item) xs)
  unfolding scan_from
  scan_node d item h k = rw (h, eq-eqb _ 0 k, scan_from)

  pub scan_refused : (d : ℕ) (item : Item) → one_line_of x ≡ node d item → (place_fault z d (length (own_text item)) ≡ 0 → ⊥)
      → scan_from l z (x ∷ xs) ≡ stopped (place_fault z d (length (own_text item))) (suc l) (2 * d + 1)
  unfolding scan_from
  scan_refused d item h k = rw (h, ne_eqb _ 0 k, scan_from)

-- a line as it is after the nodes so far
record Fits (z : ScanState) (x : List ℕ) (d : ℕ) (item : Item) : Type 0 where
  is : one_line_of x ≡ node d item
  good : place_fault z d (length (own_text item)) ≡ 0

abbrev LineAs : ℕ → ScanState → List ℕ → List (List ℕ) → OneLine → Type 0
LineAs l z x xs skip = scan_from l z (x ∷ xs) ≡ scan_from (suc l) z xs
LineAs l z x xs (fault k c) = scan_from l z (x ∷ xs) ≡ stopped k (suc l) c
LineAs l z x xs (node d item) = Fits z x d item

line_as : (l : ℕ) (z : ScanState) (x : List ℕ) (xs : List (List ℕ)) → LineAs l z x xs (placed_line z (one_line_of x))
line_as l z x xs = go (one_line_of x) refl
  where
    at_node : (d : ℕ) (item : Item) → one_line_of x ≡ node d item → (b : Bool) → eqb (place_fault z d (length (own_text item))) 0 ≡ b
        → LineAs l z x xs (pick b (node d item) (fault (place_fault z d (length (own_text item))) (2 * d + 1)))
    at_node d item q true e = record { is = q; good = eqb-true _ 0 e }
    at_node d item q false e = scan_refused l z x xs d item q (eqb-false _ 0 e)

    go : (o : OneLine) → one_line_of x ≡ o → LineAs l z x xs (placed_line z o)
    go skip q = scan_skip l z x xs q
    go (fault k c) q = scan_fault l z x xs k c q
    go (node d item) q = at_node d item q (eqb (place_fault z d (length (own_text item))) 0) refl

-- ---- the nodes so far

abbrev nodes_before : List TypedNode → TypedScan → TypedScan
nodes_before ns (stopped k l c) = stopped k l c
nodes_before ns (found ms) = found (ns ++ ms)

before_none : (s : TypedScan) → nodes_before [] s ≡ s
before_none (stopped k l c) = refl
before_none (found ms) = refl

before_more : (ns : List TypedNode) (n : TypedNode) (s : TypedScan) → nodes_before ns (adding n s) ≡ nodes_before (ns ++ (n ∷ [])) s
before_more ns n (stopped k l c) = refl
before_more ns n (found ms) = ap found (sym (append_assoc ns (n ∷ []) ms))

total_more : (ns : List TypedNode) (n : TypedNode) → total_of (ns ++ (n ∷ [])) ≡ total_of ns + 3 + length (own_text n.item)
unfolding total_of
total_more [] n = omega arith
total_more (m ∷ ns) n = omega (arith, total_more ns n)

held_none : (t : List ℕ) (spots : List NodeSpot) → SpotsHeld t [] spots
held_none t spots i h = absurd (omega arith)

held_more : (t : List ℕ) (ns : List TypedNode) (spots : List NodeSpot) (n : TypedNode) (s : NodeSpot) → length ns < length spots → SpotsHeld t ns spots
    → Spotted t n s → SpotsHeld t (ns ++ (n ∷ [])) (set spots (length ns) s)
held_more t ns spots n s h k q i b =
    let few : length (ns ++ (n ∷ [])) ≡ length ns + 1 = length-append ns (n ∷ []) in
    either (length ns) i
    (λ a.
    let e : i ≡ length ns = omega arith in
    rw (e, get_or-append_seam ns n [] no_node, get_or-set_same spots (length ns) s no_spot h) q)
    (λ a. rw (get_or-append ns (n ∷ []) no_node i a, get_or-set_other spots (length ns) i s no_spot (λ e. omega arith)) (k i a))

pub record Reading (t : List ℕ) (spots : List NodeSpot) (z : ScanState) (l from : ℕ) : Type 0 where
  pub within : from ≤ length t + 1
  pub few : l ≤ from
  pub count : z.count ≤ 512
  pub total : z.total ≤ 32768
  pub long : length spots ≡ 512
  pub done : List TypedNode
  pub count_is : z.count ≡ length done
  pub total_is : z.total ≡ total_of done
  pub held : SpotsHeld t done spots
  pub all : scan_lines t ≡ nodes_before done (scan_from l z (lines_from from t))

pub reading_none : (t : List ℕ) (spots : List NodeSpot) → length spots ≡ 512 → Reading t spots none_yet 0 0
unfolding lines_from total_of
reading_none t spots e = record {
  within = omega arith;
  few = omega arith;
  count = omega arith;
  total = omega arith;
  long = e;
  done = [];
  count_is = refl;
  total_is = refl;
  held = held_none t spots;
  all = sym (before_none (scan_lines t));
}

deepest_is : (d : ℕ) (item : Item) → deepest (kind_of item) d ≡ level_under d item
deepest_is d (cell t) = refl
deepest_is d (group across) = refl
deepest_is d (group down) = refl

-- what a node whose fault is 0 has shown
pub record NodeFits (z : ScanState) (d n : ℕ) : Type 0 where
  pub root : d ≡ 0 → z.count ≡ 0
  pub allowed : d ≤ z.may
  pub shallow : d < 16
  pub few : z.count < 512
  pub short : z.total + 3 + n ≤ 32768

passed_test : (b : Bool) (k n : ℕ) → (k ≡ 0 → ⊥) → pick b k n ≡ 0 → (b ≡ false) × (n ≡ 0)
passed_test true k n h e = absurd (h e)
passed_test false k n h e = (refl, e)

not_root : (z : ScanState) (d : ℕ) → both (ltb 0 z.count) (eqb d 0) ≡ false → d ≡ 0 → z.count ≡ 0
not_root z d h e = omega (arith, ltb-false 0 z.count (rw (eq-eqb d 0 e) at h))

pub place_fits : (z : ScanState) (d n : ℕ) → place_fault z d n ≡ 0 → NodeFits z d n
unfolding place_fault
place_fits z d n h =
    let p₁ = passed_test (both (ltb 0 z.count) (eqb d 0)) 34 _ (λ e. omega arith) h in
    let p₂ = passed_test (ltb z.may d) 35 _ (λ e. omega arith) p₁.1 in
    let p₃ = passed_test (leb 16 d) 36 _ (λ e. omega arith) p₂.1 in
    let p₄ = passed_test (leb 512 z.count) 37 _ (λ e. omega arith) p₃.1 in
    let p₅ = passed_test (ltb 32768 (z.total + 3 + n)) 38 0 (λ e. omega arith) p₄.1 in
    record {
      root = not_root z d p₁.0;
      allowed = ltb-false z.may d p₂.0;
      shallow = leb-false 16 d p₃.0;
      few = leb-false 512 z.count p₄.0;
      short = ltb-false 32768 (z.total + 3 + n) p₅.0;
    }

-- ---- a line's answer, after the nodes so far

placed_ok : (k : ℕ) → ◌≡◌ {A = Result ⊤ Refusal} (Ok tt) (place_result k) → k ≡ 0
placed_ok k q = go (eqb k 0) refl q
  where
    go : (b : Bool) → eqb k 0 ≡ b → ◌≡◌ {A = Result ⊤ Refusal} (Ok tt) (pick b (Ok tt) (Err (refusal_of k))) → k ≡ 0
    go true e q = eqb-true k 0 e
    go false e q = cc

record Refused (k : ℕ) (f : Refusal) : Type 0 where
  bad : k ≡ 0 → ⊥
  refusal_is : f ≡ refusal_of k

placed_err : (k : ℕ) (f : Refusal) → ◌≡◌ {A = Result ⊤ Refusal} (Err f) (place_result k) → Refused k f
placed_err k f q = go (eqb k 0) refl q
  where
    go : (b : Bool) → eqb k 0 ≡ b → ◌≡◌ {A = Result ⊤ Refusal} (Err f) (pick b (Ok tt) (Err (refusal_of k))) → Refused k f
    go true e q = cc
    go false e q = record { bad = eqb-false k 0 e; refusal_is = cc }

pub record SpotSmall (x : List ℕ) (s : NodeSpot) : Type 0 where
  pub level : s.level ≤ length x
  pub len : s.len ≤ length x
  pub start : s.start ≤ length x
  pub end : s.end ≤ length x

pub spot_small : (x : List ℕ) (o : OneLine) (s : NodeSpot) → SpotTold x o (Ok s) → SpotSmall x s
spot_small x skip s k = absurd k
spot_small x (fault j c) s k = cc
spot_small x (node d item) s k =
    let a = k.text_at in
    let b = text_short (take (s.end - s.start) (drop s.start x)) (own_text item) a.text_is in
    let f : length (take (s.end - s.start) (drop s.start x)) ≤ length x =
    omega (arith, length-take (s.end - s.start) (drop s.start x), length-drop s.start x) in
    record {
      level = omega (arith, k.level_is, k.behind, a.on, a.within);
      len = omega (arith, a.len_is);
      start = omega (arith, a.on, a.within);
      end = a.within;
    }

module _ (z : ScanState) (x : List ℕ) where
  module _ (s : NodeSpot) (told : LineTold x (one_line_of x) (Ok (Some s))) where
    pub node_fits : ◌≡◌ {A = Result ⊤ Refusal} (Ok tt) (place_result (place_fault z s.level s.len)) → LineTold x (placed_line z (one_line_of x)) (Ok (Some s))
    node_fits q = go (one_line_of x) told
      where
        go : (o : OneLine) → SpotTold x o (Ok s) → SpotTold x (placed_line z o) (Ok s)
        go skip k = k
        go (fault j c) k = k
        go (node d item) k =
            let g : place_fault z d (length (own_text item)) ≡ 0 = rw (k.level_is, k.text_at.len_is) at (placed_ok _ q) in
            rw (eq-eqb _ 0 g) k

    pub node_refused : (f : Refusal) → ◌≡◌ {A = Result ⊤ Refusal} (Err f) (place_result (place_fault z s.level s.len))
        → LineTold x (placed_line z (one_line_of x)) (Err (record { refusal = f; column = 2 * s.level + 1 }))
    node_refused f q = go (one_line_of x) told
      where
        go : (o : OneLine) → SpotTold x o (Ok s) → SpotTold x (placed_line z o) (Err (record { refusal = f; column = 2 * s.level + 1 }))
        go skip k = absurd k
        go (fault j c) k = cc
        go (node d item) k =
            let r : Refused (place_fault z d (length (own_text item))) f = rw (k.level_is, k.text_at.len_is) at (placed_err _ f q) in
            rw (ne_eqb _ 0 r.bad, r.refusal_is, k.level_is) refl

-- the answer where a line is at fault
abbrev pub stop_of : ℕ → Result (Option NodeSpot) Misread → Result ScanState ListFault
stop_of l (Ok o) = Ok none_yet
stop_of l (Err f) = Err (record { refusal = f.refusal; line = l; column = f.column })

-- ---- one line more, in the text

module _ (t : List ℕ) (small : length t ≤ 131072) (spots : List NodeSpot) (z : ScanState) (l from : ℕ) (R : Reading t spots z l from) (h : from ≤ length t)
    (e : ℕ) (is : e ≡ from + first_feed (drop from t)) where
  abbrev x : List ℕ
  x = take (e - from) (drop from t)

  pub line_small : length x ≤ 131072
  line_small = omega (arith, line_long t from h e is, line_in t from h e is)

  here : scan_from l z (lines_from from t) ≡ scan_from l z (x ∷ lines_from (e + 1) t)
  here = ap (scan_from l z) (rest_next t from h e is)

  pub reading_stop : (r : Result (Option NodeSpot) Misread) → LineTold x (placed_line z (one_line_of x)) r → is_ok r ≡ false
      → (spots' : List NodeSpot) → ScanTold t (scan_lines t) spots' (stop_of (l + 1) r)
  reading_stop (Ok o) told w spots' = cc
  reading_stop (Err f) told w spots' = go (placed_line z (one_line_of x)) (line_as l z x (lines_from (e + 1) t)) told
    where
      go : (o : OneLine) → LineAs l z x (lines_from (e + 1) t) o → SpotTold x o (Err f) → ScanTold t (scan_lines t) spots' (stop_of (l + 1) (Err f))
      go skip q k = absurd k
      go (fault j c) q k =
          let w : f ≡ misread j c = cc in
          rw (R.all, here, q, w, add-one l) refl
      go (node d item) q k = absurd k

  reading_skip : LineTold x (placed_line z (one_line_of x)) (Ok None) → Reading t spots z (l + 1) (e + 1)
  reading_skip told = record {
    within = omega (arith, line_in t from h e is);
    few = omega (arith, R.few, line_from t from h e is);
    count = R.count;
    total = R.total;
    long = R.long;
    done = R.done;
    count_is = R.count_is;
    total_is = R.total_is;
    held = R.held;
    all = R.all ∙ ap (nodes_before R.done)
        (here ∙ rw told at (line_as l z x (lines_from (e + 1) t)) ∙ ap (λ (m : ℕ). scan_from m z (lines_from (e + 1) t)) (sym (add-one l)));
  }

  module _ (s : NodeSpot) (told : LineTold x (placed_line z (one_line_of x)) (Ok (Some s))) where
    reading_node : Reading t (set spots z.count (moved s from)) (scan_next z s) (l + 1) (e + 1)
    reading_node = go (placed_line z (one_line_of x)) (line_as l z x (lines_from (e + 1) t)) told
      where
        go : (o : OneLine) → LineAs l z x (lines_from (e + 1) t) o → SpotTold x o (Ok s)
            → Reading t (set spots z.count (moved s from)) (scan_next z s) (l + 1) (e + 1)
        go skip q u = absurd u
        go (fault j c) q u = cc
        go (node d item) q u =
            let a = u.text_at in
            let f = place_fits z d (length (own_text item)) q.good in
            let n : TypedNode = record { level = d; item = item } in
            let w : scan_next z s ≡ next_of z d item = rw (u.level_is, a.kind_is, deepest_is d item, a.len_is) in
            let i : TextAt t item s.kind (from + s.start) (from + s.end) s.len =
            text_in t item from (e - from) s.kind s.start s.end s.len (omega (arith, line_in t from h e is, line_from t from h e is)) a in
            record {
              within = omega (arith, line_in t from h e is);
              few = omega (arith, R.few, line_from t from h e is);
              count = omega (arith, f.few);
              total = omega (arith, f.short, a.len_is);
              long = length-set spots z.count (moved s from) ∙ R.long;
              done = R.done ++ (n ∷ []);
              count_is = omega (arith, R.count_is, length-append R.done (n ∷ []));
              total_is = omega (arith, R.total_is, total_more R.done n, a.len_is);
              held = rw R.count_is
                  (held_more t R.done spots n (moved s from) (omega (arith, f.few, R.count_is, R.long)) R.held
                  (record { level_is = u.level_is; text_at = i }));
              all =
                  R.all
                  ∙ ap (nodes_before R.done) (here ∙ scan_node l z x (lines_from (e + 1) t) d item q.is q.good)
                  ∙ before_more R.done n (scan_from (suc l) (next_of z d item) (lines_from (e + 1) t))
                  ∙ ap (λ (m : ℕ). nodes_before (R.done ++ (n ∷ [])) (scan_from m (next_of z d item) (lines_from (e + 1) t))) (sym (add-one l))
                  ∙ ap (λ (y : ScanState). nodes_before (R.done ++ (n ∷ [])) (scan_from (l + 1) y (lines_from (e + 1) t))) (sym w);
            }

    pub reading_room : z.count < 512
    reading_room = let q = reading_node in omega (arith, q.count)

    -- in the code's terms, after the store
    pub reading_next : (spots' : List NodeSpot) (z' : ScanState) (s' : NodeSpot) → spots' ≡ set spots z.count s' → s' ≡ moved s from → z' ≡ scan_next z s
        → Reading t spots' z' (l + 1) (e + 1)
    reading_next spots' z' s' a b d = rw (a, b, d) reading_node

  pub reading_same : (spots' : List NodeSpot) (z' : ScanState) → spots' ≡ spots → z' ≡ z → LineTold x (placed_line z (one_line_of x)) (Ok None)
      → Reading t spots' z' (l + 1) (e + 1)
  reading_same spots' z' a b told = rw (a, b) (reading_skip told)

module _ (t : List ℕ) (spots : List NodeSpot) (z : ScanState) (l from : ℕ) (R : Reading t spots z l from) (h : length t < from) where
  at_end : scan_lines t ≡ nodes_before R.done (pick (eqb z.count 0) (stopped 39 l 1) (found []))
  unfolding scan_from
  at_end = R.all ∙ (rw (rest_none t from h))

  pub reading_empty : z.count ≡ 0 → ScanTold t (scan_lines t) spots (Err (list_fault 39 l 1))
  reading_empty c = rw (at_end, eq-eqb z.count 0 c) refl

  pub reading_all : (z.count ≡ 0 → ⊥) → ScanTold t (scan_lines t) spots (Ok z)
  reading_all c = rw (at_end, ne_eqb z.count 0 c, append-nil R.done) (record { count_is = R.count_is; total_is = R.total_is; held = R.held })
