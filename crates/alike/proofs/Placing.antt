-- The sheets, and the blocks, of a tree with its texts' bytes replaced in two ways differ exactly where the layout puts the texts (`SheetPlace`, `BlockPlace`).
use mathlib.Core.Path.{◌≡◌, refl, sym, ap, ◌∙◌}
use mathlib.Core.Logic.{◌≢◌}
use Prim.Native.Nat.{ℕ, ◌+◌, ◌-◌, ◌*◌, ◌<◌}
use native.Mathlib.Omega.{arith}
use mathlib.Core.Bool.{Bool, true, false}
use mathlib.Core.Option.{Option, some, none}
use mathlib.Core.List.{List, [], ◌∷◌, map}
use lib.ListN.{get_or, get_elem?}
use lib.Dec.{eqb, ltb}
use borrow.Author.Tests.{ltb-false}
use Rattle.common.specs.Choice.{pick}
use Rattle.common.proofs.Elems.{elem_map, elem_unmap}
use Rattle.common.proofs.Every.{every_elem}
use Rattle.settings.specs.declared.Settings.{Settings}
use Rattle.settings.specs.declared.Margin.{Margin}
use Rattle.tree.specs.Tree.{Tree}
use Rattle.text.specs.Text.{join_lines}
use Rattle.sizes.specs.Sizes.{leaf_size}
use Rattle.sizes.specs.Clauses.{Fits}
use Rattle.blank.specs.Alike.{recast}
use Rattle.block.specs.Block.{block}
use Rattle.block.specs.Promises.{byte_at}
use Rattle.block.proofs.Dimensions.{Dims}
use Rattle.block.proofs.Dims.{block_dims}
use Rattle.layout.specs.Walk.{Placed, leaf_of, walk, root, leaves, inside_w, inside_h}
use Rattle.layout.specs.Promises.{height_at, width_at}
use Rattle.layout.proofs.Fit.{LeafFits, leaves_fit}
use Rattle.frame.specs.Frame.{W, H}
use Rattle.leaf.specs.Answers.{leaf_numbered}
use Rattle.leaf.proofs.LeafNumbers.{leaf_found, found_leaf}
use Rattle.sheet.specs.Sheet.{margined, sheet_lines, sheet}
use Rattle.sheet.specs.Promises.{edged_at}
use Rattle.sheet.proofs.Margins.{margined_dims, margined_at, margined_byte}
use Rattle.sheet.proofs.Content.{sheet_dims, sheet_shows}
use Rattle.sheet.proofs.Tiling.{Covers, tiling}
use Rattle.alike.specs.Own.{found_bytes, leaf_bytes}
use Rattle.alike.specs.Layout.{TextPlace, SheetPlace, BlockPlace}
use Rattle.alike.proofs.ReplacedBytes.{natural_recast, leaf_size_recast}
use Rattle.alike.proofs.Blocks.{with_text}
use Rattle.alike.proofs.Walks.{placed, leaves_cast}
use Rattle.alike.proofs.Differences.{Differ, differ_line, differ_column, DifferingPlace, joined_found, joined_shown}
use Rattle.alike.proofs.TextPlaces.{text_found, text_shown}

-- ---- the margin around two contents

module _ (m : Margin) {x y : List (List ℕ)} {h w : ℕ} (c : Dims x h w) (d : Dims y h w) where
  margin_found : (i j : ℕ) → Differ (margined m w x) (margined m w y) i j → DifferingPlace m.top m.left x y i j
  unfolding edged_at
  margin_found i j n =
      let p = differ_line (margined_dims m c) (margined_dims m d) i j n in
      let q = differ_column (margined_dims m c) (margined_dims m d) i j n in
      go (ltb j m.left) (ltb j (m.left + w)) (ltb i m.top) (ltb i (m.top + h)) refl refl refl refl
      (λ e. n (margined_byte m c i j p q ∙ e ∙ sym (margined_byte m d i j p q)))
    where
      go : (a b e f : Bool) → ltb j m.left ≡ a → ltb j (m.left + w) ≡ b → ltb i m.top ≡ e → ltb i (m.top + h) ≡ f
          → (pick a (get_or m.fills 0 0)
          (pick b (pick e (get_or m.fills 2 0) (pick f (byte_at x (i - m.top) (j - m.left)) (get_or m.fills 3 0))) (get_or m.fills 1 0))
          ≡ pick a (get_or m.fills 0 0)
          (pick b (pick e (get_or m.fills 2 0) (pick f (byte_at y (i - m.top) (j - m.left)) (get_or m.fills 3 0))) (get_or m.fills 1 0)) → ⊥)
          → DifferingPlace m.top m.left x y i j
      go true b e f ae be ee fe r = absurd (r refl)
      go false false e f ae be ee fe r = absurd (r refl)
      go false true true f ae be ee fe r = absurd (r refl)
      go false true false false ae be ee fe r = absurd (r refl)
      go false true false true ae be ee fe r =
          record {
            line = i - m.top;
            column = j - m.left;
            line_is = omega (arith, ltb-false i m.top ee);
            column_is = omega (arith, ltb-false j m.left ae);
            differ = r;
          }

  margin_shown : (i j : ℕ) → DifferingPlace m.top m.left x y i j → Differ (margined m w x) (margined m w y) i j
  margin_shown i j p r =
      let k = differ_line c d p.line p.column p.differ in
      let l = differ_column c d p.line p.column p.differ in
      let e : byte_at (margined m w x) (m.top + p.line) (m.left + p.column) ≡ byte_at (margined m w y) (m.top + p.line) (m.left + p.column) =
      rw (p.line_is, p.column_is) at r in
      p.differ (sym (margined_at m c p.line p.column k l) ∙ e ∙ margined_at m d p.line p.column k l)

-- ---- one way of replacing the bytes

module _ (s : Settings) (t : Tree) (h : ℕ → ℕ) (keep : (b : ℕ) → eqb (h b) 10 ≡ eqb b 10) where
  abbrev content : List (List ℕ)
  content = (walk s (recast h t) (root s (recast h t))).content

  cast_leaves : leaves s (recast h t) ≡ map (placed h) (leaves s t)
  cast_leaves = leaves_cast h keep (λ a b. Unit {0}) s (record { marks = λ i. tt; fills = λ i. tt; edges = λ i. tt; space = tt; feed = tt }) (λ b. tt) t

  cast_wide : inside_w s (recast h t) ≡ inside_w s t
  unfolding inside_w
  cast_wide = rw (natural_recast h keep s t)

  cast_tall : inside_h s (recast h t) ≡ inside_h s t
  unfolding inside_h
  cast_tall = rw (natural_recast h keep s t)

  content_dims : Dims content (inside_h s t) (inside_w s t)
  content_dims = rw (cast_wide, cast_tall) at (sheet_dims s (recast h t))

  cast_lines : sheet_lines s (recast h t) ≡ margined s.margin (inside_w s t) content
  unfolding sheet_lines
  cast_lines = rw cast_wide

  cast_dims : Dims (margined s.margin (inside_w s t) content) (H s t) (W s t)
  unfolding H W
  cast_dims = margined_dims s.margin content_dims

  cast_sheet : sheet s (recast h t) ≡ join_lines (margined s.margin (inside_w s t) content)
  unfolding sheet
  cast_sheet = ap join_lines cast_lines

  cast_elem : (i : ℕ) (x : Placed) → get_elem? (leaves s t) i ≡ some x → get_elem? (leaves s (recast h t)) i ≡ some (placed h x)
  cast_elem i x e = rw cast_leaves (elem_map (placed h) (leaves s t) i x e)

  module _ (n : ℕ) (x : Placed) (is : get_elem? (leaves s t) n ≡ some x) where
    cast_fits : Fits (leaf_size s (map h x.text)) x.at.size
    cast_fits = rw (leaf_size_recast h keep s x.text) (every_elem (LeafFits s) (leaves s t) n x (leaves_fit s t) is)

    cast_block : Dims (block s (with_text (map h) (leaf_of x))) (height_at s x.at) (width_at s x.at)
    cast_block = block_dims s (with_text (map h) (leaf_of x)) cast_fits

    cast_shows : (i j : ℕ) → i < height_at s x.at → j < width_at s x.at
        → byte_at content (x.at.line + i) (x.at.column + j) ≡ byte_at (block s (with_text (map h) (leaf_of x))) i j
    cast_shows i j p q = sheet_shows s (recast h t) n (placed h x) (cast_elem n x is) i j p q

-- ---- two ways

-- line l, column k of the content is in the text of a leaf
record ContentPlace (s : Settings) (t : Tree) (l k : ℕ) : Type 0 where
  index : ℕ
  leaf : Placed
  stands : get_elem? (leaves s t) index ≡ some leaf
  line : ℕ
  column : ℕ
  text : TextPlace s leaf.text leaf.at.size line column
  line_is : l ≡ leaf.at.line + line
  column_is : k ≡ leaf.at.column + column

module _ (s : Settings) (t : Tree) (f g : ℕ → ℕ) (keep : (b : ℕ) → eqb (f b) 10 ≡ eqb b 10) (keep' : (b : ℕ) → eqb (g b) 10 ≡ eqb b 10)
    (two : (b : ℕ) → b ≢ 10 → f b ≢ g b) where
  -- the contents
  abbrev one : List (List ℕ)
  one = content s t f keep

  abbrev other : List (List ℕ)
  other = content s t g keep'

  leaf_fits : (n : ℕ) (x : Placed) → get_elem? (leaves s t) n ≡ some x → Fits (leaf_size s x.text) x.at.size
  leaf_fits n x is = every_elem (LeafFits s) (leaves s t) n x (leaves_fit s t) is

  module _ (n : ℕ) (x : Placed) (is : get_elem? (leaves s t) n ≡ some x) (l k : ℕ) (d : Differ one other l k) where
    in_block : (i j : ℕ) → l ≡ x.at.line + i → k ≡ x.at.column + j → i < height_at s x.at → j < width_at s x.at → ContentPlace s t l k
    in_block i j li kj p q =
        let u : byte_at one l k ≡ byte_at (block s (with_text (map f) (leaf_of x))) i j = rw (li, kj) (cast_shows s t f keep n x is i j p q) in
        let v : byte_at other l k ≡ byte_at (block s (with_text (map g) (leaf_of x))) i j = rw (li, kj) (cast_shows s t g keep' n x is i j p q) in
        record {
          index = n;
          leaf = x;
          stands = is;
          line = i;
          column = j;
          text = text_found s f g keep keep' two (leaf_of x) (leaf_fits n x is) i j (λ e. d (u ∙ e ∙ sym v));
          line_is = li;
          column_is = kj;
        }

    in_leaf : Covers s x l k → ContentPlace s t l k
    in_leaf c =
        in_block (l - x.at.line) (k - x.at.column) (omega (arith, c.from_line)) (omega (arith, c.from_column)) (omega (arith, c.from_line, c.to_line))
        (omega (arith, c.from_column, c.to_column))

  content_found : (l k : ℕ) → Differ one other l k → ContentPlace s t l k
  content_found l k n =
      let p = differ_line (content_dims s t f keep) (content_dims s t g keep') l k n in
      let q = differ_column (content_dims s t f keep) (content_dims s t g keep') l k n in
      let o = tiling s (recast f t) l k (rw (cast_tall s t f keep) p) (rw (cast_wide s t f keep) q) in
      elem_unmap (placed f) (leaves s t) o.index o.leaf (rw (cast_leaves s t f keep) at o.stands)
      (λ x e d. in_leaf o.index x e l k n (covered x o.leaf d o.covered))
    where
      covered : (x y : Placed) → placed f x ≡ y → Covers s y l k → Covers s x l k
      covered x y e c = let z : y.at ≡ x.at = sym (ap (λ (v : Placed). v.at) e) in
          record {
            from_line = rw z at c.from_line;
            to_line = rw z at c.to_line;
            from_column = rw z at c.from_column;
            to_column = rw z at c.to_column;
          }

  content_shown : (l k : ℕ) → ContentPlace s t l k → Differ one other l k
  content_shown l k c e =
      let x = c.leaf in
      let d = text_shown s f g keep keep' two (leaf_of x) (leaf_fits c.index x c.stands) c.line c.column c.text in
      let p = differ_line (cast_block s t f keep c.index x c.stands) (cast_block s t g keep' c.index x c.stands) c.line c.column d in
      let q = differ_column (cast_block s t f keep c.index x c.stands) (cast_block s t g keep' c.index x c.stands) c.line c.column d in
      let r : byte_at one (x.at.line + c.line) (x.at.column + c.column) ≡ byte_at other (x.at.line + c.line) (x.at.column + c.column) =
      rw (c.line_is, c.column_is) at e in
      d (sym (cast_shows s t f keep c.index x c.stands c.line c.column p q) ∙ r
      ∙ cast_shows s t g keep' c.index x c.stands c.line c.column p q)

  -- ---- the sheets

  in_sheet : {l k : ℕ} → ContentPlace s t l k → (i : ℕ) → i ≡ (s.margin.top + l) * (W s t + 1) + (s.margin.left + k) → SheetPlace s t i
  in_sheet c i e = record {
    node = c.leaf.at.node;
    leaf = c.leaf;
    named = leaf_found s t (record { index = c.index; stands = c.stands; number = refl });
    line = c.line;
    column = c.column;
    text = c.text;
    place = rw (← c.line_is, ← c.column_is) e;
  }

  pub sheet_found : (i : ℕ) → (get_or (sheet s (recast f t)) i 0 ≡ get_or (sheet s (recast g t)) i 0 → ⊥) → SheetPlace s t i
  sheet_found i n =
      let j = joined_found _ _ (cast_dims s t f keep) (cast_dims s t g keep') i (rw (cast_sheet s t f keep, cast_sheet s t g keep') at n) in
      let m = margin_found s.margin (content_dims s t f keep) (content_dims s t g keep') j.line j.column j.differ in
      in_sheet (content_found m.line m.column m.differ) i (rw (← m.line_is, ← m.column_is) j.is)

  pub sheet_shown : (i : ℕ) → SheetPlace s t i → get_or (sheet s (recast f t)) i 0 ≡ get_or (sheet s (recast g t)) i 0 → ⊥
  sheet_shown i p e =
      let a = found_leaf s t p.node p.leaf p.named in
      let l = p.leaf.at.line + p.line in
      let k = p.leaf.at.column + p.column in
      let c = content_shown l k
      (record {
        index = a.index;
        leaf = p.leaf;
        stands = a.stands;
        line = p.line;
        column = p.column;
        text = p.text;
        line_is = refl;
        column_is = refl;
      }) in
      let m = margin_shown s.margin (content_dims s t f keep) (content_dims s t g keep') (s.margin.top + l) (s.margin.left + k)
      (record { line = l; column = k; line_is = refl; column_is = refl; differ = c }) in
      joined_shown (cast_dims s t f keep) (cast_dims s t g keep') i (record
      { line = s.margin.top + l; column = s.margin.left + k; is = p.place; differ = m }) (rw (cast_sheet s t f keep, cast_sheet s t g keep') at e)

-- ---- the block of one leaf

abbrev cast_found : (ℕ → ℕ) → Option Placed → Option Placed
cast_found h none = none
cast_found h (some x) = some (placed h x)

cast_numbered : (h : ℕ → ℕ) (n : ℕ) (ls : List Placed) → leaf_numbered n (map (placed h) ls) ≡ cast_found h (leaf_numbered n ls)
unfolding leaf_numbered
cast_numbered h n [] = refl
cast_numbered h n (l ∷ ls) = rw (cast_numbered h n ls) (go (eqb l.at.node n) (leaf_numbered n ls))
  where
    go : (c : Bool) (y : Option Placed) → pick c (some (placed h l)) (cast_found h y) ≡ cast_found h (pick c (some l) y)
    go true y = refl
    go false y = refl

module _ (s : Settings) (t : Tree) (h : ℕ → ℕ) (keep : (b : ℕ) → eqb (h b) 10 ≡ eqb b 10) (n : ℕ) where
  cast_bytes : (y : Option Placed) → leaf_numbered n (leaves s t) ≡ y → leaf_bytes s (recast h t) n ≡ found_bytes s (cast_found h y)
  unfolding leaf_bytes
  cast_bytes y e = rw (cast_leaves s t h keep, cast_numbered h n (leaves s t), e)

module _ (s : Settings) (t : Tree) (f g : ℕ → ℕ) (keep : (b : ℕ) → eqb (f b) 10 ≡ eqb b 10) (keep' : (b : ℕ) → eqb (g b) 10 ≡ eqb b 10)
    (two : (b : ℕ) → b ≢ 10 → f b ≢ g b) (n : ℕ) where
  pub leaf_apart : (i : ℕ) → (get_or (leaf_bytes s (recast f t) n) i 0 ≡ get_or (leaf_bytes s (recast g t) n) i 0 → ⊥) → BlockPlace s t n i
  leaf_apart i d = go (leaf_numbered n (leaves s t)) refl
    where
      go : (y : Option Placed) → leaf_numbered n (leaves s t) ≡ y → BlockPlace s t n i
      go none e = absurd (d (rw (cast_bytes s t f keep n none e, cast_bytes s t g keep' n none e)))
      go (some x) e =
          let a = found_leaf s t n x e in
          let j = joined_found _ _ (cast_block s t f keep a.index x a.stands) (cast_block s t g keep' a.index x a.stands) i
          (rw (cast_bytes s t f keep n (some x) e, cast_bytes s t g keep' n (some x) e) at d) in
          record {
            leaf = x;
            named = e;
            line = j.line;
            column = j.column;
            text = text_found s f g keep keep' two (leaf_of x) (leaf_fits s t f g keep keep' two a.index x a.stands) j.line j.column j.differ;
            place = j.is;
          }

  pub leaf_shown : (i : ℕ) → BlockPlace s t n i → get_or (leaf_bytes s (recast f t) n) i 0 ≡ get_or (leaf_bytes s (recast g t) n) i 0 → ⊥
  leaf_shown i p e =
      let x = p.leaf in
      let a = found_leaf s t n x p.named in
      let d = text_shown s f g keep keep' two (leaf_of x) (leaf_fits s t f g keep keep' two a.index x a.stands) p.line p.column p.text in
      joined_shown (cast_block s t f keep a.index x a.stands) (cast_block s t g keep' a.index x a.stands) i (record
      { line = p.line; column = p.column; is = p.place; differ = d })
      (rw (cast_bytes s t f keep n (some x) p.named, cast_bytes s t g keep' n (some x) p.named) at e)
