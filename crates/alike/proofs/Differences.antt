-- Two contents of one shape differ only inside those of their parts that differ.
use mathlib.Core.Path.{◌≡◌, refl, sym, ap, ◌∙◌}
use Prim.Native.Nat.{ℕ, zero, suc, ◌+◌, ◌-◌, ◌*◌, ◌≤◌, ◌<◌}
use native.Mathlib.Omega.{arith}
use mathlib.Core.List.{List, [], ◌∷◌, ◌++◌}
use lib.ListN.{length, get_or, get_or-append, get_or-eq_default}
use lib.Seq.{get_or-append-add}
use Rattle.common.proofs.Either.{either}
use Rattle.common.proofs.Every.{every_at}
use Rattle.text.specs.Text.{join_lines}
use Rattle.block.specs.Content.{side_by_side}
use Rattle.block.specs.Promises.{byte_at}
use Rattle.block.proofs.Dimensions.{Dims, dims_paired, byte_left, byte_right, byte_above, byte_below}
use Rattle.paint.proofs.Feeds.{feeds_at}

-- ---- one line

-- after an equal front, before an equal back
pub record MiddlePart (n : ℕ) (l m : List ℕ) (i : ℕ) : Type 0 where
  pub at : ℕ
  pub is : i ≡ n + at
  pub within : at < length l
  pub differ : get_or l at 0 ≡ get_or m at 0 → ⊥

module _ (a l m b : List ℕ) (same : length l ≡ length m) where
  part_at : (x : List ℕ) (i : ℕ) → i < length x → get_or (a ++ (x ++ b)) (length a + i) 0 ≡ get_or x i 0
  part_at x i h = get_or-append-add a (x ++ b) i 0 ∙ get_or-append x b 0 i h

  behind : (x : List ℕ) (i : ℕ) → get_or (a ++ (x ++ b)) (length a + (length x + i)) 0 ≡ get_or b i 0
  behind x i = get_or-append-add a (x ++ b) (length x + i) 0 ∙ get_or-append-add x b i 0

  pub part_found : (i : ℕ) → (get_or (a ++ (l ++ b)) i 0 ≡ get_or (a ++ (m ++ b)) i 0 → ⊥) → MiddlePart (length a) l m i
  part_found i h =
      either (length a) i
      (λ p.
      either (length a + length l) i
      (λ q.
      let e : i ≡ length a + (length l + (i - length a - length l)) = omega arith in
      let d : i ≡ length a + (length m + (i - length a - length l)) = omega arith in
      let u : get_or (a ++ (l ++ b)) i 0 ≡ get_or b (i - length a - length l) 0 = ap (λ k. get_or (a ++ (l ++ b)) k 0) e ∙ behind l (i - length a - length l) in
      let v : get_or (a ++ (m ++ b)) i 0 ≡ get_or b (i - length a - length l) 0 = ap (λ k. get_or (a ++ (m ++ b)) k 0) d ∙ behind m (i - length a - length l) in
      absurd (h (u ∙ sym v)))
      (λ q.
      let e : i ≡ length a + (i - length a) = omega arith in
      let u : get_or (a ++ (l ++ b)) i 0 ≡ get_or l (i - length a) 0 = ap (λ k. get_or (a ++ (l ++ b)) k 0) e ∙ part_at l (i - length a) (omega arith) in
      let v : get_or (a ++ (m ++ b)) i 0 ≡ get_or m (i - length a) 0 = ap (λ k. get_or (a ++ (m ++ b)) k 0) e ∙ part_at m (i - length a) (omega arith) in
      record { at = i - length a; is = e; within = omega arith; differ = λ w. h (u ∙ w ∙ sym v) }))
      (λ p. absurd (h (get_or-append a (l ++ b) 0 i p ∙ sym (get_or-append a (m ++ b) 0 i p))))

  pub part_shown : (i : ℕ) → MiddlePart (length a) l m i → get_or (a ++ (l ++ b)) i 0 ≡ get_or (a ++ (m ++ b)) i 0 → ⊥
  part_shown i p e =
      let u : get_or (a ++ (l ++ b)) i 0 ≡ get_or l p.at 0 = ap (λ k. get_or (a ++ (l ++ b)) k 0) p.is ∙ part_at l p.at p.within in
      let v : get_or (a ++ (m ++ b)) i 0 ≡ get_or m p.at 0 = ap (λ k. get_or (a ++ (m ++ b)) k 0) p.is ∙ part_at m p.at (omega (arith, p.within)) in
      p.differ (sym u ∙ e ∙ v)

-- ---- contents

abbrev pub Differ : List (List ℕ) → List (List ℕ) → ℕ → ℕ → Type 0
Differ x y i j = byte_at x i j ≡ byte_at y i j → ⊥

-- line i, column j is n lines below and m columns past a place where u and v differ
pub record DifferingPlace (n m : ℕ) (u v : List (List ℕ)) (i j : ℕ) : Type 0 where
  pub line : ℕ
  pub column : ℕ
  pub line_is : i ≡ n + line
  pub column_is : j ≡ m + column
  pub differ : Differ u v line column

-- x and y differ there and nowhere else
pub record Apart (x y : List (List ℕ)) (n m : ℕ) (u v : List (List ℕ)) : Type 0 where
  pub found : (i j : ℕ) → Differ x y i j → DifferingPlace n m u v i j
  pub shown : (i j : ℕ) → DifferingPlace n m u v i j → Differ x y i j

pub apart_through : {x y u v a b : List (List ℕ)} {n m k l : ℕ} → Apart x y n m u v → Apart u v k l a b → Apart x y (n + k) (m + l) a b
apart_through {n = n} {m} {k} {l} p q = record {
  found = λ i j h.
      let c = p.found i j h in
      let d = q.found c.line c.column c.differ in
      record {
        line = d.line;
        column = d.column;
        line_is = omega (arith, c.line_is, d.line_is);
        column_is = omega (arith, c.column_is, d.column_is);
        differ = d.differ;
      };
  shown = λ i j c.
      p.shown i j (record {
        line = k + c.line;
        column = l + c.column;
        line_is = omega (arith, c.line_is);
        column_is = omega (arith, c.column_is);
        differ = q.shown (k + c.line) (l + c.column) (record { line = c.line; column = c.column; line_is = refl; column_is = refl; differ = c.differ });
      });
}

pub apart_move : {x y u v : List (List ℕ)} {n m k l : ℕ} → Apart x y n m u v → n ≡ k → m ≡ l → Apart x y k l u v
apart_move p e d = rw (← e, ← d) p

-- past its lines or columns a content has 0
past_line : {x : List (List ℕ)} {h w : ℕ} → Dims x h w → (i j : ℕ) → h ≤ i → byte_at x i j ≡ 0
unfolding byte_at
past_line {x} d i j p = ap (λ l. get_or l j 0) (get_or-eq_default x [] (omega (arith, d.lines)))

past_column : {x : List (List ℕ)} {h w : ℕ} → Dims x h w → (i j : ℕ) → i < h → w ≤ j → byte_at x i j ≡ 0
unfolding byte_at
past_column {x} {h} {w} d i j p q = let e : length (get_or x i []) ≡ w = every_at (λ l. length l ≡ w) x [] i d.columns (omega (arith, d.lines)) in
    get_or-eq_default (get_or x i []) 0 (omega arith)

module _ {x y : List (List ℕ)} {h w : ℕ} (c : Dims x h w) (d : Dims y h w) where
  pub differ_line : (i j : ℕ) → Differ x y i j → i < h
  differ_line i j n = either h i (λ p. absurd (n (past_line c i j p ∙ sym (past_line d i j p)))) (λ p. p)

  pub differ_column : (i j : ℕ) → Differ x y i j → j < w
  differ_column i j n = let p = differ_line i j n in either w j (λ q. absurd (n (past_column c i j p q ∙ sym (past_column d i j p q)))) (λ q. q)

-- the same lines above
pub apart_under : (a : List (List ℕ)) {k : ℕ} (u v : List (List ℕ)) → length a ≡ k → Apart (a ++ u) (a ++ v) k 0 u v
unfolding byte_at
apart_under a {k} u v c = record {
  found = λ i j n.
      either k i
      (λ p. let q : i ≡ k + (i - k) = omega arith in
      record { line = i - k; column = j; line_is = q; column_is = omega arith; differ = λ r. n (below u i j (i - k) q ∙ r ∙ sym (below v i j (i - k) q)) })
      (λ p. absurd (n (above u i j (omega arith) ∙ sym (above v i j (omega arith)))));
  shown = λ i j p r.
      let q : j ≡ p.column = omega (arith, p.column_is) in
      let m : byte_at (a ++ u) i p.column ≡ byte_at (a ++ v) i p.column = rw q at r in
      p.differ (sym (below u i p.column p.line p.line_is) ∙ m ∙ below v i p.column p.line p.line_is);
}
  where
    below : (z : List (List ℕ)) (i j o : ℕ) → i ≡ k + o → byte_at (a ++ z) i j ≡ byte_at z o j
    below z i j o e = let q : i ≡ length a + o = omega arith in ap (λ m. get_or (get_or (a ++ z) m []) j 0) q
        ∙ ap (λ l. get_or l j 0) (get_or-append-add a z o [])

    above : (z : List (List ℕ)) (i j : ℕ) → i < length a → byte_at (a ++ z) i j ≡ byte_at a i j
    above z i j h = ap (λ l. get_or l j 0) (get_or-append a z [] i h)

-- the same lines below
pub apart_over : {u v : List (List ℕ)} {h w : ℕ} (a : List (List ℕ)) → Dims u h w → Dims v h w → Apart (u ++ a) (v ++ a) 0 0 u v
apart_over {u} {v} {h} a d e = record {
  found = λ i j n.
      either h i
      (λ p.
      let q : i ≡ h + (i - h) = omega arith in
      absurd (n (ap (λ o. byte_at (u ++ a) o j) q ∙ byte_below a (i - h) j d ∙ sym (ap (λ o. byte_at (v ++ a) o j) q ∙ byte_below a (i - h) j e))))
      (λ p. record {
        line = i;
        column = j;
        line_is = omega arith;
        column_is = omega arith;
        differ = λ r. n (byte_above a i j d p ∙ r ∙ sym (byte_above a i j e p));
      });
  shown = λ i j p r.
      let o : i ≡ p.line = omega (arith, p.line_is) in
      let q : j ≡ p.column = omega (arith, p.column_is) in
      let l = differ_line d e p.line p.column p.differ in
      let m : byte_at (u ++ a) p.line p.column ≡ byte_at (v ++ a) p.line p.column = rw (o, q) at r in
      p.differ (sym (byte_above a p.line p.column d l) ∙ m ∙ byte_above a p.line p.column e l);
}

-- the same columns before
pub apart_right : {a u v : List (List ℕ)} {h w b : ℕ} → Dims a h w → Dims u h b → Dims v h b → Apart (side_by_side a u) (side_by_side a v) 0 w u v
apart_right {a} {u} {v} {h} {w} c d e = record {
  found = λ i j n.
      let l = differ_line (dims_paired c d) (dims_paired c e) i j n in
      either w j
      (λ p.
      let q : j ≡ w + (j - w) = omega arith in
      record {
        line = i;
        column = j - w;
        line_is = omega arith;
        column_is = q;
        differ = λ r. n (ap (λ o. byte_at (side_by_side a u) i o) q ∙ byte_right u i (j - w) c l ∙ r
            ∙ sym (ap (λ o. byte_at (side_by_side a v) i o) q ∙ byte_right v i (j - w) c l));
      })
      (λ p. absurd (n (byte_left u i j c l p ∙ sym (byte_left v i j c l p))));
  shown = λ i j p r.
      let o : i ≡ p.line = omega (arith, p.line_is) in
      let l = differ_line d e p.line p.column p.differ in
      let m : byte_at (side_by_side a u) p.line (w + p.column) ≡ byte_at (side_by_side a v) p.line (w + p.column) = rw (o, p.column_is) at r in
      p.differ (sym (byte_right u p.line p.column c l) ∙ m ∙ byte_right v p.line p.column c l);
}

-- the same columns behind
pub apart_left : {u v a : List (List ℕ)} {h w b : ℕ} → Dims u h w → Dims v h w → Dims a h b → Apart (side_by_side u a) (side_by_side v a) 0 0 u v
apart_left {u} {v} {a} {h} {w} d e c = record {
  found = λ i j n.
      let l = differ_line (dims_paired d c) (dims_paired e c) i j n in
      either w j
      (λ p.
      let q : j ≡ w + (j - w) = omega arith in
      absurd (n (ap (λ o. byte_at (side_by_side u a) i o) q ∙ byte_right a i (j - w) d l
      ∙ sym (ap (λ o. byte_at (side_by_side v a) i o) q ∙ byte_right a i (j - w) e l))))
      (λ p. record {
        line = i;
        column = j;
        line_is = omega arith;
        column_is = omega arith;
        differ = λ r. n (byte_left a i j d l p ∙ r ∙ sym (byte_left a i j e l p));
      });
  shown = λ i j p r.
      let o : i ≡ p.line = omega (arith, p.line_is) in
      let q : j ≡ p.column = omega (arith, p.column_is) in
      let l = differ_line d e p.line p.column p.differ in
      let k = differ_column d e p.line p.column p.differ in
      let m : byte_at (side_by_side u a) p.line p.column ≡ byte_at (side_by_side v a) p.line p.column = rw (o, q) at r in
      p.differ (sym (byte_left a p.line p.column d l k) ∙ m ∙ byte_left a p.line p.column e l k);
}

-- ---- joined by 0A

pub record Joined (w : ℕ) (x y : List (List ℕ)) (i : ℕ) : Type 0 where
  pub line : ℕ
  pub column : ℕ
  pub is : i ≡ line * (w + 1) + column
  pub differ : Differ x y line column

pub joined_shown : {x y : List (List ℕ)} {h w : ℕ} → Dims x h w → Dims y h w → (i : ℕ) → Joined w x y i
    → get_or (join_lines x) i 0 ≡ get_or (join_lines y) i 0 → ⊥
joined_shown {x} {y} {h} {w} c d i p e =
    let l = differ_line c d p.line p.column p.differ in
    let k = differ_column c d p.line p.column p.differ in
    let m : get_or (join_lines x) (p.line * (w + 1) + p.column) 0 ≡ get_or (join_lines y) (p.line * (w + 1) + p.column) 0 = rw p.is at e in
    p.differ (sym (feeds_at x c p.line p.column l k) ∙ m ∙ feeds_at y d p.line p.column l k)

joined_next : (w : ℕ) {x y : List (List ℕ)} (l m : List ℕ) (i k : ℕ) → i ≡ w + suc k → Joined w x y k → Joined w (l ∷ x) (m ∷ y) i
unfolding byte_at
joined_next w l m i k e r = record { line = suc r.line; column = r.column; is = omega (arith, r.is); differ = r.differ }

pub joined_found : (x y : List (List ℕ)) {h w : ℕ} → Dims x h w → Dims y h w → (i : ℕ) → (get_or (join_lines x) i 0 ≡ get_or (join_lines y) i 0 → ⊥)
    → Joined w x y i
unfolding join_lines byte_at
joined_found [] [] c d i n = absurd (n refl)
joined_found [] (m ∷ y) c d i n = absurd (omega (arith, c.lines, d.lines))
joined_found (l ∷ x) [] c d i n = absurd (omega (arith, c.lines, d.lines))
joined_found (l ∷ []) (m ∷ []) c d i n = record { line = 0; column = i; is = omega arith; differ = n }
joined_found (l ∷ []) (m ∷ b ∷ y) c d i n = absurd (omega (arith, c.lines, d.lines))
joined_found (l ∷ a ∷ x) (m ∷ []) c d i n = absurd (omega (arith, c.lines, d.lines))
joined_found (l ∷ a ∷ x) (m ∷ b ∷ y) {w = w} c d i n =
    either w i
    (λ p. later (i - w) (omega arith)
    (λ k h. joined_found (a ∷ x) (b ∷ y) (record { lines = refl; columns = c.columns.1 })
    (record { lines = omega (arith, c.lines, d.lines); columns = d.columns.1 }) k h))
    (λ p.
    record {
      line = 0;
      column = i;
      is = omega arith;
      differ = λ e. n (get_or-append l (10 ∷ join_lines (a ∷ x)) 0 i (omega (arith, c.columns.0)) ∙ e
          ∙ sym (get_or-append m (10 ∷ join_lines (b ∷ y)) 0 i (omega (arith, d.columns.0))));
    })
  where
    at : (z : List ℕ) (u : List (List ℕ)) → length z ≡ w → (k : ℕ) → i ≡ w + k → get_or (z ++ (10 ∷ join_lines u)) i 0 ≡ get_or (10 ∷ join_lines u) k 0
    at z u e k h = let q : i ≡ length z + k = omega arith in rw q (get_or-append-add z (10 ∷ join_lines u) k 0)

    later : (k : ℕ) → i ≡ w + k → ((k : ℕ) → (get_or (join_lines (a ∷ x)) k 0 ≡ get_or (join_lines (b ∷ y)) k 0 → ⊥) → Joined w (a ∷ x) (b ∷ y) k)
        → Joined w (l ∷ a ∷ x) (m ∷ b ∷ y) i
    later zero h r = absurd (n (at l (a ∷ x) c.columns.0 0 h ∙ sym (at m (b ∷ y) d.columns.0 0 h)))
    later (suc k) h r = joined_next w l m i k h (r k (λ e. n (at l (a ∷ x) c.columns.0 (suc k) h ∙ e ∙ sym (at m (b ∷ y) d.columns.0 (suc k) h))))
