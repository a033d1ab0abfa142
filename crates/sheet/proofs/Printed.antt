-- What the sheet printer answers, from the plan and the walk.
use mathlib.Core.Path.{◌≡◌, refl, sym, ◌∙◌}
use Prim.Native.Nat.{ℕ, suc, ◌+◌, ◌-◌, ◌*◌, ◌≤◌}
use native.Mathlib.Omega.{arith}
use native.Mathlib.Nat.{mul-le-mul, mul-le-mul_right}
use mathlib.Core.Bool.{false}
use mathlib.Core.List.{List, [], ◌∷◌, ◌++◌}
use lib.ListN.{length, take, drop}
use lib.Dec.{ltb}
use borrow.Author.Tests.{ltb-false}
use Rattle.common.specs.Choice.{pick}
use Rattle.settings.specs.declared.Settings.{Settings}
use Rattle.tree.specs.Tree.{Tree}
use Rattle.sizes.specs.declared.Measured.{Measured}
use Rattle.sizes.specs.Input.{input_of}
use Rattle.sizes.specs.declared.Size.{Size}
use Rattle.sizes.specs.Clauses.{measured_of, natural_at}
use Rattle.paint.specs.Clauses.{Room, pasted, fed}
use Rattle.paint.proofs.Room.{room_feeds}
use Rattle.common.specs.Every.{Every}
use Rattle.common.specs.Outcome.{Outcome}
use Rattle.common.proofs.Every.{every_map, every_and}
use Rattle.frame.specs.declared.Written.{Written}
use Rattle.frame.specs.declared.Frame.{Frame}
use Rattle.layout.specs.Walk.{Placed, leaves, inside_w, inside_h}
use Rattle.frame.specs.Frame.{W, H, too_large}
use Rattle.frame.specs.Clauses.{frame_of, large_of}
use Rattle.frame.specs.Printer.{no_print}
use Rattle.frame.proofs.Printers.{PrinterAnswers}
use Rattle.frame.proofs.Sheets.{sheet_frame, large_no}
use Rattle.entries.specs.Clauses.{Listing, Asks, PaintsAll, paint_all, painted}
use Rattle.layout.proofs.Laid.{root_laid}
use Rattle.layout.specs.Promises.{height_at, width_at}
use Rattle.layout.proofs.Fit.{LeafFits, leaves_fit}
use Rattle.layout.proofs.Inside.{Inside, laid_inside}
use Rattle.sizes.proofs.Heights.{natural_height}
use Rattle.sizes.proofs.MeasuredInput.{refuses}
use Rattle.walk.proofs.Inputs.{Taken, call_takes, call_large, call_frame, call_stride, FitsSheet}
use Rattle.sheet.specs.Sheet.{sheet}
use Rattle.sheet.specs.Answers.{sheet_of}
use Rattle.sheet.specs.Clauses.{frame_refusal, left_side, top_side, inside_at, Framed, before_of, after_of}
use Rattle.sheet.proofs.Bytes.{sheet_length}
use Rattle.sheet.proofs.Painted.{painted_all, sheet_painted}
use Rattle.sheet.proofs.Refusals.{planned_no, planned_yes}

-- ---- the leaves are painted one after the other

paint_painted : (s : Settings) (stride : ℕ) (o : List ℕ) (ls : List Placed) → paint_all s stride o ls ≡ painted_all s stride ls o
unfolding painted_all
paint_painted s stride o [] = refl
paint_painted s stride o (l ∷ ls) = paint_painted s stride (painted s stride o l) ls

-- ---- each block is within the sheet's bytes

-- where a rectangle fits, each block inside it does
room_inside : {s : Settings} {l k h w : ℕ} {f : Placed} (stride len : ℕ) → Inside s l k h w f → Room (l * stride + k) stride h w len
    → Room (f.at.line * stride + f.at.column) stride (height_at s f.at) (width_at s f.at) len
room_inside {s} {l} {k} {h} {w} {f} stride len i r =
    let m = mul-le-mul_right stride i.below in
    record { fits = omega (arith, r.fits, i.right); small = omega (arith, r.small, i.right) }

wide_within : (s : Settings) (t : Tree) → s.margin.left + inside_w s t + s.margin.right ≤ W s t + 1
unfolding W
wide_within s t = omega arith

sheet_room : (w h len : ℕ) → w ≤ 400 → h ≤ 160 → (w + 1) * h - 1 ≤ len → Room 0 (w + 1) h w len
sheet_room w h len p q r = let m : (w + 1) * h ≤ 401 * 160 = mul-le-mul {n₂ = 401} {m₂ = 160} (omega arith) q in
    record { fits = omega arith; small = omega arith }

-- the rectangle inside starts within the bytes, and fits those from its start on
inside_in : (l t k b r w stride len : ℕ) → Room 0 stride (t + suc k + b) (l + w + r) len → l + t * stride ≤ len
inside_in l t k b r w stride len x = omega (arith, x.fits)

inside_room : (l t k b r w stride len : ℕ) → l + w + r ≤ stride → Room 0 stride (t + suc k + b) (l + w + r) len
    → Room (0 * stride + 0) stride (suc k) w (len - (l + t * stride))
inside_room l t k b r w stride len a x =
    let h = inside_in l t k b r w stride len x in
    record { fits = omega (arith, x.fits); small = omega (arith, x.small) }

module _ (s : Settings) (t : Tree) (len : ℕ) (large : too_large s t ≡ false) (enough : (W s t + 1) * H s t - 1 ≤ len) where
  whole_room : Room 0 (W s t + 1) (s.margin.top + inside_h s t + s.margin.bottom) (s.margin.left + inside_w s t + s.margin.right) len
  unfolding too_large W H
  whole_room = let n = large_no (W s t) (H s t) large in sheet_room (W s t) (H s t) len n.0 n.1 enough

  pub sheet_ends : Room (W s t) (W s t + 1) (H s t - 1) 1 len
  unfolding W H too_large
  sheet_ends = let n = large_no (W s t) (H s t) large in room_feeds (omega (arith, n.0)) whole_room

  some_inside : inside_h s t ≡ suc (inside_h s t - 1)
  unfolding inside_h
  some_inside = omega (arith, natural_height s t)

  pub start_in : inside_at s.margin (W s t + 1) ≤ len
  start_in = inside_in s.margin.left s.margin.top (inside_h s t - 1) s.margin.bottom s.margin.right (inside_w s t) (W s t + 1) len
      (rw (← some_inside) whole_room)

  part_room : Room (0 * (W s t + 1) + 0) (W s t + 1) (inside_h s t) (inside_w s t) (len - inside_at s.margin (W s t + 1))
  part_room =
      rw some_inside (inside_room s.margin.left s.margin.top (inside_h s t - 1) s.margin.bottom s.margin.right (inside_w s t) (W s t + 1) len
      (wide_within s t) (rw (← some_inside) whole_room))

  leaves_ask : Every (Asks s (W s t + 1) (len - inside_at s.margin (W s t + 1))) (leaves s t)
  leaves_ask =
      every_map (λ l. LeafFits s l × Inside s 0 0 (inside_h s t) (inside_w s t) l) (Asks s (W s t + 1) (len - inside_at s.margin (W s t + 1)))
      (λ l x. record {
        fits = x.0;
        apart = omega (arith, x.1.right, wide_within s t);
        room = room_inside (W s t + 1) (len - inside_at s.margin (W s t + 1)) x.1 part_room;
      })
      (leaves s t)
      (every_and (LeafFits s) (Inside s 0 0 (inside_h s t) (inside_w s t)) (leaves s t) (leaves_fit s t) (laid_inside (root_laid s t)))

-- ---- in the printer's terms: m is what was measured, f the frame

pub sheet_refused : (bs ts o : List ℕ) (m : Measured) → m ≡ measured_of (input_of bs ts) → (m.number ≡ 0 → ⊥)
    → sheet_of (input_of bs ts) o ≡ no_print m.number o
unfolding sheet_of
sheet_refused bs ts o m e h = rw (refuses bs ts m e h)

module _ {bs ts : List ℕ} {m : Measured} {sizes : List ℕ} (k : Taken bs ts m sizes) where
  abbrev s : Settings
  s = m.settings

  abbrev t : Tree
  t = k.tree

  module _ {z : Size} (ze : z ≡ natural_at sizes 0) {f : Frame} (fe : f ≡ frame_of s z) where
    -- the frame is the sheet's
    frame_of_lem : f ≡ sheet_frame s t
    frame_of_lem = call_frame k ze fe

    pub stride_is : f.stride ≡ W s t + 1
    stride_is = call_stride k ze fe

    columns_is : f.columns ≡ W s t
    unfolding W
    columns_is = rw frame_of_lem

    lines_is : f.lines ≡ H s t
    unfolding H
    lines_is = rw frame_of_lem

    wide_is : f.wide ≡ inside_w s t
    wide_is = rw frame_of_lem

    tall_is : f.tall ≡ inside_h s t
    tall_is = rw frame_of_lem

    bytes_is : f.bytes ≡ (W s t + 1) * H s t - 1
    unfolding W H
    bytes_is = rw frame_of_lem

    large_of_lem : large_of f ≡ too_large s t
    large_of_lem = call_large k ze fe

    module _ (o : List ℕ) where
      -- the answer for a sheet that fits
      abbrev whole : Outcome Written (List ℕ)
      whole = record { answer = record { number = 0; count = f.bytes }; memory = sheet s t ++ drop f.bytes o }

      known : length (sheet s t) ≡ f.bytes
      known = sheet_length s t ∙ sym bytes_is

      -- the definition's tests are the printer's
      sheet_is : sheet_of (input_of bs ts) o ≡ pick (large_of f) (no_print 6 o) (pick (ltb (length o) f.bytes) (no_print 8 o) whole)
      unfolding sheet_of
      sheet_is = rw (k.input, large_of_lem, known)

      pub sheet_no : (n : ℕ) → n ≡ frame_refusal f (length o) → (n ≡ 0 → ⊥) → sheet_of (input_of bs ts) o ≡ no_print n o
      unfolding frame_refusal
      sheet_no n e h = sheet_is ∙ planned_no (large_of f) (ltb (length o) f.bytes) o n whole e h

      module _ (none : frame_refusal f (length o) ≡ 0) where
        passed : (large_of f ≡ false) × (ltb (length o) f.bytes ≡ false)
        unfolding frame_refusal
        passed = planned_yes (large_of f) (ltb (length o) f.bytes) none

        within : f.bytes ≤ length o
        within = ltb-false (length o) f.bytes passed.1

        pub large : too_large s t ≡ false
        large = sym large_of_lem ∙ passed.0

        abbrev pub sheet_fitting : FitsSheet bs ts m sizes f.stride
        sheet_fitting = record { took = k; large = large; stride_is = stride_is }

        enough : (W s t + 1) * H s t - 1 ≤ length o
        enough = omega (arith, within, bytes_is)

        pub framed : {len : ℕ} → len ≡ length o → Framed s.margin f len
        framed le =
            let l = large_no f.columns f.lines passed.0 in
            rw (frame_of_lem, le) (record {
              lines_is = refl;
              columns_is = refl;
              apart = omega arith;
              room = rw frame_of_lem at (sheet_room f.columns f.lines (length o) l.0 l.1 (rw frame_of_lem (rw frame_of_lem at within)));
            })

        pub sheet_fits : Room f.columns (f.columns + 1) (f.lines - 1) 1 (length o)
        sheet_fits = rw (columns_is, lines_is) (sheet_ends s t (length o) large enough)

        module _ {base : ℕ} (be : base ≡ inside_at s.margin f.stride) where
          base_is : base ≡ inside_at s.margin (W s t + 1)
          base_is = be ∙ rw stride_is

          pub base_in : base ≤ length o
          base_in = rw base_is (start_in s t (length o) large enough)

          module _ {len : ℕ} (le : len ≡ length o - base) where
            pub leaves_asked : Every (Asks s f.stride len) (leaves s t)
            leaves_asked = rw (stride_is, le, base_is) (leaves_ask s t (length o) large enough)

            -- the leaves can be painted
            unfoldable pub sheet_paints : (list es : List ℕ) → Listing s f.stride ts list (leaves s t) es → PaintsAll ts list es s f.stride len
            sheet_paints list es g = record { leaves = leaves s t; listing = g; short = omega (arith, (call_takes k).got.short); asks = leaves_asked }

            -- a 0A behind each line but the last, the margin before the leaves, the leaves in the bytes from `base` on, the margin after them
            sheet_shown : (o₁ o₂ part q o₃ o₄ : List ℕ) → o₁ ≡ fed f.columns f.lines o
                → o₂ ≡ before_of s.margin f o₁ → length o₂ ≡ length o → part ≡ drop base o₂ → q ≡ paint_all s f.stride part (leaves s t)
                → o₃ ≡ take base o₂ ++ q → o₄ ≡ after_of s.margin f o₃ → o₄ ≡ sheet s t ++ drop f.bytes o
            sheet_shown o₁ o₂ part q o₃ o₄ e₁ e₂ l₂ ep eq e₃ e₄ =
                let z₂ : o₂ ≡ pasted (pasted (fed (W s t) (H s t) o) 0 (W s t + 1) (left_side s.margin (H s t))) s.margin.left (W s t + 1)
                (top_side s.margin (inside_w s t)) =
                e₂ ∙ rw (e₁, lines_is, wide_is, stride_is, columns_is) in
                let zq : q ≡ painted_all s (W s t + 1) (leaves s t) (drop (inside_at s.margin (W s t + 1)) o₂) = eq
                ∙ paint_painted s f.stride part (leaves s t) ∙ rw (ep, base_is, stride_is) in
                let z₃ : o₃ ≡ take (inside_at s.margin (W s t + 1)) o₂ ++ painted_all s (W s t + 1) (leaves s t) (drop (inside_at s.margin (W s t + 1)) o₂) =
                e₃ ∙ rw (zq, base_is) in
                let i : inside_at s.margin (W s t + 1) ≤ length o₂ = rw l₂ (start_in s t (length o) large enough) in
                e₄ ∙ rw (lines_is, wide_is, tall_is, stride_is, ← known) (sheet_painted s t o o₂ o₃ (omega (arith, within, known)) z₂ i z₃)

            pub sheet_answers : (o₁ o₂ part q o₃ o₄ list es : List ℕ) (g : Listing s f.stride ts list (leaves s t) es)
                → o₁ ≡ fed f.columns f.lines o
                → o₂ ≡ before_of s.margin f o₁ → length o₂ ≡ length o → part ≡ drop base o₂ → q ≡ paint_all s f.stride part (sheet_paints list es g).leaves
                → o₃ ≡ take base o₂ ++ q → o₄ ≡ after_of s.margin f o₃
                → PrinterAnswers (record { number = 0; count = f.bytes }) o₄ (sheet_of (input_of bs ts) o)
            unfolding sheet_paints
            sheet_answers o₁ o₂ part q o₃ o₄ list es g e₁ e₂ l₂ ep eq e₃ e₄ =
                let e : sheet_of (input_of bs ts) o ≡ whole = sheet_is ∙ rw (passed.0, passed.1) in
                (rw e, sheet_shown o₁ o₂ part q o₃ o₄ e₁ e₂ l₂ ep eq e₃ e₄ ∙ rw e)

-- ---- no more bytes are written than were lent
