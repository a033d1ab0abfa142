-- The block from its parts: the room of each, and that together they are the block.
use mathlib.Core.Path.{◌≡◌, refl, sym, ap, ◌∙◌}
use Prim.Native.Nat.{ℕ, ◌+◌, ◌*◌, ◌≤◌}
use native.Mathlib.Omega.{arith}
use mathlib.Core.Bool.{Bool, true, false}
use mathlib.Core.List.{List, [], ◌∷◌, ◌++◌, append-nil}
use lib.ListN.{length, get_or}
use lib.Seq.{sets}
use Rattle.common.specs.Choice.{pick}
use Rattle.settings.specs.declared.Settings.{Settings}
use Rattle.splits.specs.Splits.{named}
use Rattle.sizes.specs.declared.Size.{Size}
use Rattle.sizes.specs.Sizes.{leaf_size}
use Rattle.sizes.specs.Clauses.{Fits}
use Rattle.block.specs.declared.Flags.{Flags}
use Rattle.paint.specs.declared.borders.Borders.{Borders}
use Rattle.block.specs.Block.{Leaf, body, top_line, middle, bottom_line, block, block_height, block_width}
use Rattle.common.specs.Writing.{Wrote}
use Rattle.paint.specs.Clauses.{pasted, Room, leaf_with, Paintable, space_lines, borders_of, top_of, left_of, right_of, bottom_of, columns_in, Lined, begun_of}
use Rattle.paint.specs.Clauses.{BodyBegins, Rest, ended_of, middle_of}
use Rattle.paint.specs.declared.Begun.{Begun}
use Rattle.block.proofs.Dimensions.{dims_paired}
use Rattle.block.proofs.Dims.{body_dims, left_dims, edges_dims, middle_dims}
use Rattle.paint.proofs.Pasted.{pasted_beside}
use Rattle.paint.proofs.Cases.{tall_is, wide_is, block_lined, bare_tall, bare_wide, block_bare}
use Rattle.paint.proofs.LinesLeft.{then_pasted, pasted_first}
use Rattle.paint.proofs.Corners.{top_is, middle_is, bottom_is}
use Rattle.paint.proofs.Places.{paintable_fits}

-- ---- what the marks require

-- the marks before the body: the top line, the left marks
module _ {b : Borders} {z : Size} {h v : List ℕ} {base stride len : ℕ} (k : Lined b z h v base stride len) where
  -- those after it
  pub rest_room : (p : Begun) → p.at ≡ base + (stride + 1) → p.next ≡ base + stride + z.height * stride → {len' : ℕ} → len' ≡ len → Rest b z p stride len'
  rest_room p e n {len' = len'} l = record {
    fits = omega (arith, k.room.small, k.apart);
    side = record { fits = omega (arith, k.room.fits); small = omega (arith, k.room.small) };
    below = bottom b.bottom refl;
  }
    where
      bottom : (c : Bool) → b.bottom ≡ c → c ≡ true → p.next + columns_in b z ≤ len'
      bottom true q y =
          let r : Room base stride (1 + (z.height + 1)) (columns_in b z) len = rw q at k.room in
          omega (arith, r.fits)
      bottom false q y = let w : ◌≡◌ {A = ℕ} 0 1 = cc in absurd (omega arith)

-- ---- the steps' cases

module _ (lines : Bool) (b : Borders) (z : Size) (h v : List ℕ) (base stride : ℕ) where
  pub begun_lined : lines ≡ true → (next : ℕ) (o o₁ o₂ : List ℕ) → o₁ ≡ sets o base (top_of b z.width h)
      → Wrote next (base + stride + z.height * stride) o₂
      (pasted (pasted o₁ (base + stride) stride (left_of b z.height v)) (base + stride + 1) stride (space_lines z.height z.width))
      → BodyBegins lines b z h v base stride (record { at = base + stride + 1; next = next }) o o₂
  unfolding begun_of
  begun_lined l next o o₁ o₂ e w = rw l (record { at_is = omega arith; next_is = λ y. w.end_is; out_is = w.out_is ∙ rw e })

  pub begun_bare : lines ≡ false → (o o₁ :
      List ℕ) → o₁ ≡ pasted o base stride (space_lines z.height z.width) → BodyBegins lines b z h v base stride (record { at = base; next = base }) o o₁
  unfolding begun_of
  begun_bare l o o₁ e = rw l (record { at_is = omega arith; next_is = λ y. let w : ◌≡◌ {A = ℕ} 0 1 = cc in absurd (omega arith); out_is = e })

module _ (lines : Bool) (b : Borders) (z : Size) (stride : ℕ) (p : Begun) (o : List ℕ) where
  pub ended_closed : lines ≡ true → b.bottom ≡ true → (o₁ o₂ : List ℕ) → o₁ ≡ pasted o (p.at + z.width) stride (right_of b z.height)
      → o₂ ≡ sets o₁ p.next (bottom_of b z.width) → o₂ ≡ ended_of lines b z stride p o
  unfolding ended_of
  ended_closed l e o₁ o₂ r q = q ∙ rw (l, e, r)

  pub ended_open : lines ≡ true → b.bottom ≡ false → (o₁ : List ℕ) → o₁ ≡ pasted o (p.at + z.width) stride (right_of b z.height)
      → o₁ ≡ ended_of lines b z stride p o
  unfolding ended_of
  ended_open l e o₁ r = r ∙ rw (l, e)

  pub ended_bare : lines ≡ false → o ≡ ended_of lines b z stride p o
  unfolding ended_of
  ended_bare l = rw l

-- ---- the parts

-- left marks, body and right marks, side by side
middle_painted : (s : Settings) (t : List ℕ) (z : Size) (b : Borders) (ps : List ℕ) → Fits (leaf_size s t) z → (o o₂ o₃ : List ℕ) (at stride : ℕ)
    → columns_in b z ≤ stride
    → o₂ ≡ pasted (pasted o at stride (left_of b z.height ps)) (at + 1) stride (body s t z)
    → o₃ ≡ pasted o₂ (at + 1 + z.width) stride (right_of b z.height)
    → o₃ ≡ pasted o at stride (middle_of s t z b ps)
unfolding middle_of left_of right_of
middle_painted s t z b ps fits o o₂ o₃ at stride h e₂ e₃ =
    let left = left_dims 1 (named z.height ps) (get_or b.marks 13 0) (get_or b.marks 2 0) z.height in
    let text = body_dims s t z fits in
    let right = edges_dims z.height 1 b.right (get_or b.marks 3 0) in
    e₃ ∙ rw e₂ (pasted_beside (pasted o at stride (left_of b z.height ps)) (at + 1) stride text right (omega arith)
    ∙ pasted_beside o at stride left (dims_paired text right) h)

pub body_apart : {s : Settings} {t : List ℕ} {n z : Size} {f : Flags} {h v : List ℕ} {base stride len : ℕ} → Paintable s t n z f h v base stride len
    → z.width ≤ stride
unfolding block_width
body_apart k = omega (arith, k.apart)

module _ {s : Settings} {t : List ℕ} {n z : Size} {f : Flags} {h v : List ℕ} {base stride len : ℕ} (k : Paintable s t n z f h v base stride len) (b : Borders)
    (is : b ≡ borders_of s f) (long : length s.marks ≡ 15) where
  right_is : b.right ≡ f.last_col
  unfolding borders_of
  right_is = ap (λ (x : Borders). x.right) is

  bottom_is_last : b.bottom ≡ f.last_row
  unfolding borders_of
  bottom_is_last = ap (λ (x : Borders). x.bottom) is

  abbrev leaf : Leaf
  leaf = leaf_with t z f h v

  -- with lines the marks fit
  pub lined : s.lines ≡ true → Lined b z h v base stride len
  lined l =
      let w : block_width s z f ≡ columns_in b z = rw right_is (omega (arith, wide_is s l z f)) in
      let a : block_height s z f ≡ 1 + (z.height + pick b.bottom 1 0) = rw bottom_is_last (omega (arith, tall_is s l z f)) in
      record {
        width_small = k.width_small;
        height_small = k.height_small;
        few_horizontal = k.few_horizontal;
        few_vertical = k.few_vertical;
        apart = rw (← w) k.apart;
        room = rw (← w, ← a) k.room;
      }

  -- the body fits with lines and without
  pub bare_room : s.lines ≡ false → Room base stride z.height z.width len
  bare_room l = rw (bare_tall s l z f, bare_wide s l z f) at k.room

  pub body_room : (lines : Bool) → s.lines ≡ lines → (at : ℕ) → at ≡ base + pick lines (stride + 1) 0 → {len' : ℕ} → len' ≡ len
      → Room at stride z.height z.width len'
  body_room true l at e q = let r = (lined l).room in record { fits = omega (arith, r.fits); small = omega (arith, r.small) }
  body_room false l at e q =
      let r = bare_room l in
      record { fits = omega (arith, r.fits); small = omega (arith, r.small) }

  pub after_room : (lines : Bool) → s.lines ≡ lines → (p : Begun) (o o₁ : List ℕ) → BodyBegins lines b z h v base stride p o o₁ → lines ≡ true → {len' : ℕ}
      → len' ≡ len → Rest b z p stride len'
  after_room true l p o o₁ g y q = rest_room (lined l) p g.at_is (g.next_is refl) q
  after_room false l p o o₁ g y q = let w : ◌≡◌ {A = ℕ} 0 1 = cc in absurd (omega arith)

  -- ---- together they are the block

  module _ (l : s.lines ≡ true) (o o₂ : List ℕ) (p : Begun) where
    whole : (last : Bool) → b.bottom ≡ last
        → pasted o base stride (block s leaf) ≡ pasted o base stride (top_line s leaf ∷ (middle s leaf ++ pick last (bottom_line s leaf ∷ []) []))
    whole last e = ap (pasted o base stride) (block_lined s leaf l
        ∙ ap (λ (x : Bool). top_line s leaf ∷ (middle s leaf ++ pick x (bottom_line s leaf ∷ []) [])) (sym bottom_is_last ∙ e))

    middles : o₂ ≡ pasted (sets o base (top_of b z.width h)) (base + stride) stride (middle_of s t z b v)
        → o₂ ≡ pasted (sets o base (top_line s leaf)) (base + stride) stride (middle s leaf)
    middles e = e ∙ rw (is, top_is s leaf l long, middle_is s leaf l long)

    closed : (last : Bool) → b.bottom ≡ last → p.next ≡ base + stride + z.height * stride
        → o₂ ≡ pasted (sets o base (top_of b z.width h)) (base + stride) stride (middle_of s t z b v)
        → pick last (sets o₂ p.next (bottom_of b z.width)) o₂ ≡ pasted o base stride (block s leaf)
    unfolding pasted
    closed true e q m =
        let w : Wrote p.next (base + stride + z.height * stride) o₂ (pasted (sets o base (top_line s leaf)) (base + stride) stride (middle s leaf)) =
        record { end_is = q; out_is = middles m } in
        let d : sets o₂ p.next (bottom_of b z.width) ≡ sets o₂ p.next (bottom_line s leaf) = rw (is, bottom_is s leaf l long) in
        then_pasted (middle s leaf) (bottom_line s leaf ∷ []) (sets o base (top_line s leaf)) o₂ _ (base + stride) p.next stride z.height
        (middle_dims s leaf (paintable_fits k)).lines w d
        ∙ pasted_first (top_line s leaf) (middle s leaf ++ (bottom_line s leaf ∷ [])) o _ base stride refl
        ∙ sym (whole true e)
    closed false e q m = middles m ∙ pasted_first (top_line s leaf) (middle s leaf) o _ base stride refl ∙ sym (whole false e ∙ rw append-nil)

  pub block_painted : (lines : Bool) → s.lines ≡ lines → (p : Begun) (o o₁ o₂ o₃ : List ℕ) → BodyBegins lines b z h v base stride p o o₁
      → o₂ ≡ pasted (begun_of lines b z h v base stride o) p.at stride (body s t z) → o₃ ≡ ended_of lines b z stride p o₂
      → o₃ ≡ pasted o base stride (block s leaf)
  unfolding begun_of ended_of
  block_painted true l p o o₁ o₂ o₃ g e₂ e₃ =
      let a : p.at ≡ base + stride + 1 = omega (arith, g.at_is) in
      let m = middle_painted s t z b v (paintable_fits k) (sets o base (top_of b z.width h)) o₂
      (pasted o₂ (base + stride + 1 + z.width) stride (right_of b z.height)) (base + stride) stride (lined l).apart (e₂ ∙ rw a) refl in
      e₃ ∙ rw a (closed l o _ p b.bottom refl (g.next_is refl) m)
  block_painted false l p o o₁ o₂ o₃ g e₂ e₃ =
      let a : p.at ≡ base = omega (arith, g.at_is) in
      e₃ ∙ e₂ ∙ rw a (ap (pasted o base stride) (sym (block_bare s l leaf (paintable_fits k))))
