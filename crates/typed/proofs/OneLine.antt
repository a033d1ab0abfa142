-- One line as it is read.
use mathlib.Core.Path.{◌≡◌, refl, sym, ap, ◌∙◌}
use Prim.Native.Nat.{ℕ, zero, suc, ◌+◌, ◌*◌, ◌-◌, ◌≤◌, ◌<◌, ◌/◌, ◌%◌}
use native.Mathlib.Omega.{arith}
use native.Mathlib.Nat.{zero-add}
use mathlib.Core.Bool.{Bool, true, false, cond, ◌&&◌}
use mathlib.Core.List.{List, [], ◌∷◌}
use lib.ListN.{length, get_or, take, drop, length-drop, length-take, drop_of_length-le}
use lib.Seq.{drop-cons, take-nil, take-take, drop-drop, length-take-le}
use lib.Dec.{eqb}
use borrow.Author.Tests.{eq-eqb, ne_eqb, eqb-true}
use borrow.Author.Rules.{part_to_end}
use lib.Pointwise.{pointwise}
use denote.Ref.{Bor}
use Rattle.std.specs.List.{prefix_len}
use Rattle.std.specs.Option.{MatchOption, unwrap_or}
use Rattle.std.specs.Prelude.{Option, Some, None, Result, Ok, Err}
use Rattle.common.specs.Choice.{pick, both}
use Rattle.tree.specs.Tree.{Axis, across, down}
use Rattle.typed.specs.Text.{Text, wrong, text, text_from, typed_text}
use Rattle.typed.specs.Line.{Item, cell, group, OneLine, skip, fault, node, without_return, spaces, same_bytes, is_row, is_column, level_of, cell_at, cell_line}
use Rattle.typed.specs.Line.{plain_line, plain_of, one_line_of}
use Rattle.typed.specs.Clauses.{word_kind, kind_of, misread, level_line, TextAt, SpotTold, LineTold, checked_text}
use Rattle.typed.specs.declared.typed_text.Misread.{Misread}
use Rattle.typed.specs.declared.line.Kind.{Kind}
use Rattle.typed.specs.declared.line.Kind.TheVariants.{Cell, Row, Column}
use Rattle.typed.specs.declared.line.NodeSpot.{NodeSpot}
use Rattle.typed.proofs.Texts.{text_fault}

-- ---- the spaces at the front

pub spaces_is : (s : List ℕ) → prefix_len (λ b. eqb b 32) s ≡ spaces s
unfolding spaces
spaces_is [] = refl
spaces_is (b ∷ s) = go (eqb b 32) (spaces_is s)
  where
    go : (p : Bool) → prefix_len (λ b. eqb b 32) s ≡ spaces s → cond p (1 + prefix_len (λ b. eqb b 32) s) 0 ≡ pick p (suc (spaces s)) 0
    go true e = omega arith
    go false e = refl

pub spaces_within : (s : List ℕ) → spaces s ≤ length s
unfolding spaces
spaces_within [] = omega arith
spaces_within (b ∷ s) = go (eqb b 32) (spaces_within s)
  where
    go : (p : Bool) → spaces s ≤ length s → pick p (suc (spaces s)) 0 ≤ suc (length s)
    go true h = omega arith
    go false h = omega arith

-- ---- a carriage return at the end

last_is : (x : List ℕ) → pointwise eqb (drop (length x - 1) x) (13 ∷ []) ≡ eqb (get_or x (length x - 1) 0) 13
last_is [] = refl
last_is (b ∷ x) = let e : length (b ∷ x) - 1 ≡ length x = omega arith in
    rw (e, drop-cons (b ∷ x) (length x) 0 (omega arith), drop_of_length-le (b ∷ x) {i = suc (length x)} (omega arith)) (go (eqb _ 13))
  where
    go : (p : Bool) → (p && true) ≡ p
    go true = refl
    go false = refl

pub trimmed_is : (x : Bor (List ℕ)) (r : Option (Bor (List ℕ)))
    → MatchOption r (pointwise eqb (drop (length x.now - 1) x.now) (13 ∷ []) ≡ false)
    (λ y. (pointwise eqb (drop (length x.now - 1) x.now) (13 ∷ []) ≡ true) × (y.now ≡ take (length x.now - 1) x.now) × (length y.now + 1 ≡ length x.now))
    → (unwrap_or r x).now ≡ without_return x.now
unfolding without_return
trimmed_is x None h = rw (sym (last_is x.now) ∙ h)
trimmed_is x (Some y) h = rw (sym (last_is x.now) ∙ h.0) h.1

pub trimmed_within : (x : List ℕ) → length (without_return x) ≤ length x
unfolding without_return
trimmed_within x = go (eqb (get_or x (length x - 1) 0) 13)
  where
    go : (c : Bool) → length (pick c (take (length x - 1) x) x) ≤ length x
    go true = rw length-take (omega arith)
    go false = omega arith

-- ---- words

same_is : (s t : List ℕ) → pointwise eqb s t ≡ same_bytes s t
unfolding same_bytes
same_is [] [] = refl
same_is [] (b ∷ t) = refl
same_is (a ∷ s) [] = refl
same_is (a ∷ s) (b ∷ t) = rw (same_is s t) (go (eqb a b) (same_bytes s t))
  where
    go : (p q : Bool) → (p && q) ≡ both q p
    go true q = refl
    go false q = refl

module _ (s w : List ℕ) where
  pub word_row : w ≡ 114 ∷ 111 ∷ 119 ∷ [] → true ≡ pointwise eqb s w → Row ≡ word_kind s
  word_row e h =
      let q : is_row s ≡ true = sym (same_is s (114 ∷ 111 ∷ 119 ∷ [])) ∙ ap (pointwise eqb s) (sym e) ∙ sym h in
      rw q refl

  module _ (v : List ℕ) (e : w ≡ 114 ∷ 111 ∷ 119 ∷ []) (f : v ≡ 99 ∷ 111 ∷ 108 ∷ 117 ∷ 109 ∷ 110 ∷ []) (h : false ≡ pointwise eqb s w) where
    no_row : is_row s ≡ false
    no_row = sym (same_is s (114 ∷ 111 ∷ 119 ∷ [])) ∙ ap (pointwise eqb s) (sym e) ∙ sym h

    column_is : is_column s ≡ pointwise eqb s v
    column_is = sym (same_is s (99 ∷ 111 ∷ 108 ∷ 117 ∷ 109 ∷ 110 ∷ [])) ∙ ap (pointwise eqb s) (sym f)

    pub word_column : true ≡ pointwise eqb s v → Column ≡ word_kind s
    word_column k = rw (no_row, column_is, sym k) refl

    pub word_cell : false ≡ pointwise eqb s v → Cell ≡ word_kind s
    word_cell k = rw (no_row, column_is, sym k) refl

-- ---- levels

level_told : (x : List ℕ) (item : Item) (n : ℕ) (kind : Kind) (start end len : ℕ) → n ≤ start → TextAt x item kind start end len
    → SpotTold x (level_of n item) (level_line n kind start end len)
level_told x item n kind start end len a t = go (eqb (n % 2) 0) refl
  where
    go : (b : Bool) → eqb (n % 2) 0 ≡ b
        → SpotTold x (pick b (node (n / 2) item) (fault 33 (n + 1)))
        (pick b (Ok (record { kind = kind; level = n / 2; start = start; end = end; len = len })) (Err (misread 33 (n + 1))))
    go true b = let z = eqb-true (n % 2) 0 b in record { level_is = refl; behind = omega arith; text_at = t }
    go false b = refl

-- ---- a Cell

module _ (x : List ℕ) (n start : ℕ) (a : n ≤ start) (h : start ≤ length x) where
  to_end : typed_text (take (length x - start) (drop start x)) ≡ typed_text (drop start x)
  to_end = ap typed_text (part_to_end x start)

  pub cell_wrong : (f : Misread) → Err f ≡ checked_text (typed_text (take (length x - start) (drop start x)))
      → SpotTold x (cell_line n start x) (Err (record { refusal = f.refusal; column = start + f.column }))
  cell_wrong f q = go (typed_text (drop start x)) (q ∙ ap checked_text to_end)
    where
      go : (t : Text) → Err f ≡ checked_text t → SpotTold x (cell_at n start t) (Err (record { refusal = f.refusal; column = start + f.column }))
      go (wrong j i) e =
          let z : f ≡ misread j (i + 1) = cc in
          let w : start + (i + 1) ≡ start + i + 1 = omega arith in
          rw (z, w) refl
      go (text u) e = cc

  pub cell_right : (len : ℕ) → Ok len ≡ checked_text (typed_text (take (length x - start) (drop start x)))
      → SpotTold x (cell_line n start x) (level_line n Cell start (length x) len)
  cell_right len q = go (typed_text (drop start x)) refl (q ∙ ap checked_text to_end)
    where
      go : (t : Text) → typed_text (drop start x) ≡ t → Ok len ≡ checked_text t → SpotTold x (cell_at n start t) (level_line n Cell start (length x) len)
      go (wrong j i) d e = cc
      go (text u) d e =
          level_told x (cell u) n Cell start (length x) len a
          (record { kind_is = refl; len_is = cc; on = h; within = omega arith; text_is = to_end ∙ d })

  pub cell_small : (f : Misread) → Err f ≡ checked_text (typed_text (take (length x - start) (drop start x))) → start + f.column ≤ length x + 1
  cell_small f q = go (typed_text (drop start x)) refl (q ∙ ap checked_text to_end)
    where
      go : (t : Text) → typed_text (drop start x) ≡ t → Err f ≡ checked_text t → start + f.column ≤ length x + 1
      go (wrong j i) d e =
          let z : f ≡ misread j (i + 1) = cc in
          omega (arith, (text_fault (drop start x) j i d).within, length-drop start x, ap (λ (y : Misread). y.column) z)
      go (text u) d e = cc

-- ---- what follows the spaces

empty_text : (x : List ℕ) (a : Axis) (n : ℕ) → n ≤ length x → TextAt x (group a) (kind_of (group a)) n n 0
unfolding text_from
empty_text x a n h = let z : n - n ≡ 0 = omega arith in record { kind_is = refl; len_is = refl; on = omega arith; within = h; text_is = rw z refl }

module _ (x : List ℕ) (n : ℕ) where
  pub plain_none : length x ≤ n → plain_line x n (drop n x) ≡ skip
  unfolding plain_line
  plain_none h = rw (drop_of_length-le x {i = n} h)

  pub plain_comment : get_or x n 0 ≡ 35 → n < length x → plain_line x n (drop n x) ≡ skip
  unfolding plain_line
  plain_comment c h = rw (drop-cons x n 0 h, eq-eqb _ 35 c)

  module _ (h : n < length x) (c : get_or x n 0 ≡ 35 → ⊥) where
    -- the line by the word that it names
    abbrev by_kind : Bool → Bool → Bool → OneLine
    by_kind r s q = pick r (level_of n (group across)) (pick s (level_of n (group down)) (pick q (cell_line n (n + 1) x) (cell_line n n x)))

    plain_by : (y : List ℕ) → y ≡ get_or x n 0 ∷ drop (suc n) x → plain_line x n y ≡ by_kind (is_row y) (is_column y) (eqb (get_or x n 0) 39)
    unfolding plain_line
    plain_by y e = rw (e, ne_eqb _ 35 c)

    plain_is : plain_line x n (drop n x) ≡ by_kind (is_row (drop n x)) (is_column (drop n x)) (eqb (get_or x n 0) 39)
    plain_is = plain_by (drop n x) (drop-cons x n 0 h)

    module _ (k : Kind) (e : k ≡ word_kind (take (length x - n) (drop n x))) where
      word_is : k ≡ pick (is_row (drop n x)) Row (pick (is_column (drop n x)) Column Cell)
      word_is = e ∙ ap word_kind (part_to_end x n)

      pub plain_group : (k ≡ Cell → ⊥) → SpotTold x (plain_line x n (drop n x)) (level_line n k n n 0)
      plain_group z = rw plain_is (go (is_row (drop n x)) (is_column (drop n x)) word_is)
        where
          go : (r s : Bool) → k ≡ pick r Row (pick s Column Cell) → SpotTold x (by_kind r s (eqb (get_or x n 0) 39)) (level_line n k n n 0)
          go true s v = rw v (level_told x (group across) n Row n n 0 (omega arith) (empty_text x across n (omega arith)))
          go false true v = rw v (level_told x (group down) n Column n n 0 (omega arith) (empty_text x down n (omega arith)))
          go false false v = absurd (z v)

      module _ (z : k ≡ Cell) (r : Result NodeSpot Misread) where
        pub plain_cell : SpotTold x (pick (eqb (get_or x n 0) 39) (cell_line n (n + 1) x) (cell_line n n x)) r → SpotTold x (plain_line x n (drop n x)) r
        plain_cell t = rw plain_is (go (is_row (drop n x)) (is_column (drop n x)) word_is)
          where
            go : (p s : Bool) → k ≡ pick p Row (pick s Column Cell) → SpotTold x (by_kind p s (eqb (get_or x n 0) 39)) r
            go true s v = cc
            go false true v = cc
            go false false v = t

        pub plain_quoted : get_or x n 0 ≡ 39 → SpotTold x (cell_line n (n + 1) x) r → SpotTold x (plain_line x n (drop n x)) r
        plain_quoted b t = plain_cell (rw (eq-eqb _ 39 b) t)

        pub plain_bare : (get_or x n 0 ≡ 39 → ⊥) → SpotTold x (cell_line n n x) r → SpotTold x (plain_line x n (drop n x)) r
        plain_bare b t = plain_cell (rw (ne_eqb _ 39 b) t)

-- ---- a text that is in a part of a list is in the list

take_drop_take : (n a m : ℕ) (t : List ℕ) → a + n ≤ m → take n (drop a (take m t)) ≡ take n (drop a t)
take_drop_take n a m [] h = rw (take-nil m) refl
take_drop_take n zero m (b ∷ t) h = take-take n m (b ∷ t) (omega arith)
take_drop_take n (suc a) zero (b ∷ t) h = absurd (omega arith)
take_drop_take n (suc a) (suc m) (b ∷ t) h = take_drop_take n a m t (omega arith)

pub text_in : (t : List ℕ) (item : Item) (from m : ℕ) (kind : Kind) (start end len : ℕ) → from + m ≤ length t
    → TextAt (take m (drop from t)) item kind start end len → TextAt t item kind (from + start) (from + end) len
text_in t item from m kind start end len h k =
    let l : length (take m (drop from t)) ≡ m = length-take-le m (drop from t) (rw length-drop (omega arith)) in
    let w : end ≤ m = omega (arith, k.within) in
    let d : from + end - (from + start) ≡ end - start = omega (arith, k.on) in
    record {
      kind_is = k.kind_is;
      len_is = k.len_is;
      on = omega (arith, k.on);
      within = omega arith;
      text_is = ap typed_text (rw (d, ← drop-drop start from t) (sym (take_drop_take (end - start) start m (drop from t) (omega (arith, k.on))))) ∙ k.text_is;
    }

-- what is told of a line without its carriage return, of the line
front_told : (x : List ℕ) (m : ℕ) (o : OneLine) (r : Result NodeSpot Misread) → m ≤ length x → SpotTold (take m x) o r → SpotTold x o r
front_told x m skip r h t = t
front_told x m (fault k c) r h t = t
front_told x m (node d item) (Err f) h t = t
front_told x m (node d item) (Ok s) h t = record {
  level_is = t.level_is;
  behind = t.behind;
  text_at = rw (zero-add s.start, zero-add s.end) at (text_in x item 0 m s.kind s.start s.end s.len (omega arith) t.text_at);
}

without_told : (x : List ℕ) (o : OneLine) (r : Result NodeSpot Misread) → SpotTold (without_return x) o r → SpotTold x o r
unfolding without_return
without_told x o r t = go (eqb (get_or x (length x - 1) 0) 13) t
  where
    go : (b : Bool) → SpotTold (pick b (take (length x - 1) x) x) o r → SpotTold x o r
    go true t = front_told x (length x - 1) o r (omega arith) t
    go false t = t

pub line_told : (x : List ℕ) (r : Result (Option NodeSpot) Misread) → LineTold (without_return x) (plain_of (without_return x)) r
    → LineTold x (one_line_of x) r
unfolding one_line_of
line_told x (Ok None) t = t
line_told x (Ok (Some s)) t = without_told x (plain_of (without_return x)) (Ok s) t
line_told x (Err f) t = without_told x (plain_of (without_return x)) (Err f) t

pub part_short : (s : List ℕ) (a : ℕ) → length (take (length s - a) (drop a s)) ≤ length s
part_short s a = rw (part_to_end s a, length-drop) (omega arith)

-- ---- where a line's fault is

-- fault k at column c of a line of n bytes without its carriage return: at a byte, or 32 at the end
pub record LineFaultAt (n k c : ℕ) : Type 0 where
  pub low : 31 ≤ k
  pub high : k ≤ 38
  pub from_1 : 1 ≤ c
  pub within : c ≤ n + 1
  pub on_byte : (k ≡ 32 → ⊥) → c ≤ n

-- a node begins at a byte
abbrev pub LineIn : ℕ → OneLine → Type 0
LineIn n skip = Unit
LineIn n (fault k c) = LineFaultAt n k c
LineIn n (node d item) = 2 * d < n

in_pick : (n : ℕ) (b : Bool) (o p : OneLine) → LineIn n o → LineIn n p → LineIn n (pick b o p)
in_pick n true o p h k = h
in_pick n false o p h k = k

level_in : (m n : ℕ) (item : Item) → n < m → LineIn m (level_of n item)
level_in m n item h =
    in_pick m (eqb (n % 2) 0) (node (n / 2) item) (fault 33 (n + 1)) (omega arith)
    (record { low = omega arith; high = omega arith; from_1 = omega arith; within = omega arith; on_byte = λ e. omega arith })

cell_in : (n start : ℕ) (x : List ℕ) → n < length x → start ≤ length x → LineIn (length x) (cell_line n start x)
cell_in n start x h l = go (typed_text (drop start x)) refl
  where
    go : (t : Text) → typed_text (drop start x) ≡ t → LineIn (length x) (cell_at n start t)
    go (wrong k i) e =
        let w = text_fault (drop start x) k i e in
        let d = length-drop start x in
        record {
          low = w.low;
          high = omega (arith, w.high);
          from_1 = omega arith;
          within = omega (arith, w.within);
          on_byte = λ z. omega (arith, w.on_byte z);
        }
    go (text t) e = level_in (length x) n (cell t) h

plain_in : (x : List ℕ) (n : ℕ) (y : List ℕ) → length y ≡ length x - n → LineIn (length x) (plain_line x n y)
unfolding plain_line
plain_in x n [] h = tt
plain_in x n (b ∷ s) h =
    in_pick (length x) (eqb b 35) skip _ tt
    (in_pick (length x) (is_row (b ∷ s)) _ _ (level_in (length x) n (group across) (omega arith))
    (in_pick (length x) (is_column (b ∷ s)) _ _ (level_in (length x) n (group down) (omega arith))
    (in_pick (length x) (eqb b 39) _ _ (cell_in n (n + 1) x (omega arith) (omega arith)) (cell_in n n x (omega arith) (omega arith)))))

pub line_in_bytes : (x : List ℕ) → LineIn (length (without_return x)) (one_line_of x)
unfolding one_line_of
line_in_bytes x =
    let y = without_return x in
    plain_in y (spaces y) (drop (spaces y) y) (length-drop (spaces y) y)
