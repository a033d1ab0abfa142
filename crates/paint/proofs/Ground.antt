-- A body's spaces and padding, and the text over them.
use mathlib.Core.Path.{◌≡◌, refl, sym, ap, ◌∙◌}
use Prim.Native.Nat.{ℕ, suc, ◌+◌, ◌-◌, ◌*◌, ◌≤◌, ◌<◌}
use native.Mathlib.Omega.{arith}
use mathlib.Core.List.{List, [], ◌∷◌, ◌++◌, map, append_assoc}
use lib.ListN.{length, drop, get_or, replicate, length-append, length-replicate, replicate-append-replicate}
use lib.Seq.{sets, length-sets}
use Rattle.common.proofs.Either.{either}
use Rattle.common.proofs.Stores.{sets_within}
use Rattle.settings.specs.declared.Settings.{Settings}
use Rattle.text.specs.Clauses.{first_feed}
use Rattle.text.specs.Text.{lines, text_height}
use Rattle.text.proofs.Lines.{lines_from, rest_none, rest_next, line_in}
use Rattle.text.proofs.Measured.{lines_height}
use Rattle.sizes.specs.declared.Size.{Size}
use Rattle.block.specs.Block.{indent, text_line, body}
use Rattle.block.proofs.Dimensions.{Dims, paired_same, dims_append, dims_lines, dims_replicate}
use Rattle.paint.specs.declared.body.BodyRows.{BodyRows}
use Rattle.paint.specs.Clauses.{pasted, Room, space_lines, clear, ground, ground_lines, Blank, Turned, LaidOver}
use Rattle.paint.proofs.Pasted.{pasted_append, sets_pasted, pasted_beside, pasted_over}
use Rattle.paint.proofs.Room.{room_head, room_tail}
use Rattle.paint.proofs.BodyRows.{BodyFits}

-- ---- the ground

-- lines from their left padding, spaces and right padding
pub sides_painted : (s : Settings) (inner n : ℕ) (o o₁ o₂ o₃ : List ℕ) (at stride : ℕ) → s.left + inner + s.right ≤ stride
    → o₁ ≡ pasted o at stride (replicate n (replicate s.left (get_or s.fills 0 0)))
    → o₂ ≡ pasted o₁ (at + s.left) stride (replicate n (replicate inner 32))
    → o₃ ≡ pasted o₂ (at + s.left + inner) stride (replicate n (replicate s.right (get_or s.fills 1 0)))
    → o₃ ≡ pasted o at stride (replicate n (clear s inner))
unfolding clear
sides_painted s inner n o o₁ o₂ o₃ at stride h e₁ e₂ e₃ =
    let l : List ℕ = replicate s.left (get_or s.fills 0 0) in
    let m : List ℕ = replicate inner 32 in
    let r : List ℕ = replicate s.right (get_or s.fills 1 0) in
    let p : at + s.left + inner ≡ at + (s.left + inner) = omega arith in
    let both : o₂ ≡ pasted o at stride (replicate n (l ++ m)) = e₂
    ∙ rw e₁ (pasted_beside o at stride (dims_replicate n s.left (get_or s.fills 0 0)) (dims_replicate n inner 32) (omega arith)
    ∙ rw (paired_same n l m)) in
    e₃ ∙ rw (both, p) (pasted_beside o at stride (dims_lines n (l ++ m) (s.left + inner) (simp (length-append, length-replicate))) (dims_replicate n s.right
    (get_or s.fills 1 0)) h
    ∙ rw (paired_same n (l ++ m) r, append_assoc l m r))

-- where every padding is of spaces, all lines are
ground_blank : (s : Settings) (k : BodyRows) (n w h : ℕ) → Blank s.fills → s.left + k.inner + s.right ≡ w → ground_lines s k n ≡ h
    → replicate h (replicate w 32) ≡ ground s k n w
unfolding ground clear
ground_blank s k n w h b wide tall =
    let c : ◌≡◌ {A = List ℕ} (replicate s.left 32 ++ (replicate k.inner 32 ++ replicate s.right 32)) (replicate w 32)
    = rw (replicate-append-replicate {A = ℕ} k.inner s.right 32, replicate-append-replicate {A = ℕ} s.left (k.inner + s.right) 32)
    (let e : s.left + (k.inner + s.right) ≡ w = omega arith in rw e) in
    rw (b.left_is, b.right_is, b.top_is, b.bottom_is, c, ← tall) (sym (simp replicate-append-replicate))

ground_dims : (s : Settings) (k : BodyRows) (n w : ℕ) → s.left + k.inner + s.right ≡ w → Dims (ground s k n w) (ground_lines s k n) w
unfolding ground clear
ground_dims s k n w e =
    dims_append (dims_append (dims_replicate k.above w 32) (dims_replicate s.top w _))
    (dims_append (dims_lines n _ w (simp (length-append, length-replicate) (omega arith)))
    (dims_append (dims_replicate s.bottom w _) (dims_replicate k.below w 32)))

-- over spaces the ground is already there, or it is painted
pub turned_blank : (s : Settings) (k : BodyRows) (n w h at stride : ℕ) (o : List ℕ) → Blank s.fills → s.left + k.inner + s.right ≡ w
    → ground_lines s k n ≡ h → Turned (space_lines h w) (ground s k n w) at stride o o
turned_blank s k n w h at stride o blank wide tall = record { done = λ b e. e ∙ ap (pasted b at stride) (ground_blank s k n w h blank wide tall) }

pub turned_padded : (s : Settings) (k : BodyRows) (n w h at stride : ℕ) (o o' : List ℕ) → s.left + k.inner + s.right ≡ w → ground_lines s k n ≡ h → w ≤ stride
    → o' ≡ pasted o at stride (ground s k n w)
    → Turned (space_lines h w) (ground s k n w) at stride o o'
turned_padded s k n w h at stride o o' wide tall apart p =
    record { done = λ b e. p ∙ rw e (pasted_over b at stride (dims_replicate h w 32) (rw tall at (ground_dims s k n w wide)) apart) }

-- ---- the lines of the text still to come, from a place on

pub more_from : (t : List ℕ) (from more : ℕ) → length (lines_from from t) ≡ more → 0 < more → from ≤ length t
more_from t from more e h = either (suc (length t)) from (λ k. let z = rw (rest_none t from k) at e in absurd (omega (arith, z))) (λ k. omega arith)

-- the last one ends with the text
pub last_end : (t : List ℕ) (from : ℕ) → from ≤ length t → length (lines_from from t) ≡ 1 → (e : ℕ) → e ≡ from + first_feed (drop from t) → e ≡ length t
last_end t from h one e is = either (length t) e
    (λ k. omega (arith, line_in t from h e is))
    (λ k. let z = rw (rest_next t from h e is, rest_next t (e + 1) (omega arith) _ refl) at one in absurd (omega (arith, z)))

-- ---- the text over it

pub over_none : (g : List ℕ) (f : List ℕ → List ℕ) (at stride : ℕ) (o : List ℕ) → LaidOver g f [] at stride o o
over_none g f at stride o = record { done = λ b y e. e }

-- the line l, stored at p, makes a line g its own
pub over_step : (g : List ℕ) (f : List ℕ → List ℕ) (l : List ℕ) (ls : List (List ℕ)) (at p stride : ℕ) (o o' : List ℕ) → p + length l ≤ at + stride
    → ((b : List ℕ) → sets (sets b at g) p l ≡ sets b at (f l)) → LaidOver g f ls (at + stride) stride (sets o p l) o' → LaidOver g f (l ∷ ls) at stride o o'
unfolding pasted
over_step g f l ls at p stride o o' h own k = record {
  done = λ b y e. k.done (sets b at (f l)) y (rw (e, sets_pasted (replicate (length ls) g ++ y) l (sets b at g) p (at + stride) stride h, own b));
}

-- of the lines ls, those still to come are rs, from p on; the others are written
pub record Still (g : List ℕ) (f : List ℕ → List ℕ) (ls rs : List (List ℕ)) (at p stride w : ℕ) (o₀ o : List ℕ) : Type 0 where
  pub room : Room p stride (length rs) w (length o₀)
  pub long : length o ≡ length o₀
  pub all : (e : List ℕ) → LaidOver g f rs p stride o e → LaidOver g f ls at stride o₀ e

pub still_start : (g : List ℕ) (f : List ℕ → List ℕ) (ls : List (List ℕ)) (at stride w n : ℕ) (o : List ℕ) → length ls ≡ n → Room at stride n w (length o)
    → Still g f ls ls at at stride w o o
still_start g f ls at stride w n o e r = record { room = rw e r; long = refl; all = λ e k. k }

module _ {g : List ℕ} {f : List ℕ → List ℕ} {ls : List (List ℕ)} {at p stride w : ℕ} {o₀ o : List ℕ} where
  pub still_done : (rs : List (List ℕ)) → length rs ≡ 0 → Still g f ls rs at p stride w o₀ o → LaidOver g f ls at stride o₀ o
  still_done [] e k = k.all o (over_none g f p stride o)
  still_done (l ∷ rs) e k = absurd (omega arith)

  module _ {l : List ℕ} {rs : List (List ℕ)} (k : Still g f ls (l ∷ rs) at p stride w o₀ o) where
    pub still_room : p + w ≤ length o
    still_room = omega (arith, room_head k.room, k.long)

    pub still_step : (q : ℕ) → q + length l ≤ p + stride → ((b : List ℕ) → sets (sets b p g) q l ≡ sets b p (f l))
        → Still g f ls rs at (p + stride) stride w o₀ (sets o q l)
    still_step q h own =
        record { room = room_tail k.room; long = length-sets o q l ∙ k.long; all = λ e v. k.all e (over_step g f l rs p q stride o e h own v) }

pub line_over : (s : Settings) (inner widest : ℕ) (l b : List ℕ) (at : ℕ) → indent s inner widest l + length l ≤ inner
    → sets (sets b at (clear s inner)) (at + (s.left + indent s inner widest l)) l ≡ sets b at (text_line s inner widest l)
unfolding clear text_line
line_over s inner widest l b at h =
    let i = indent s inner widest l in
    let n = inner - length l - i in
    let x : List ℕ = replicate s.left (get_or s.fills 0 0) in
    let y : List ℕ = replicate s.right (get_or s.fills 1 0) in
    let c : ◌≡◌ {A = List ℕ} (replicate inner 32) (replicate i 32 ++ (replicate (length l) 32 ++ replicate n 32))
    = sym (rw (replicate-append-replicate {A = ℕ} (length l) n 32, replicate-append-replicate {A = ℕ} i (length l + n) 32)
    (let e : i + (length l + n) ≡ inner = omega arith in rw e)) in
    rw (c, append_assoc (replicate i 32) (replicate (length l) 32 ++ replicate n 32) y, append_assoc (replicate (length l) 32) (replicate n 32) y)
    (rw (← append_assoc x (replicate i 32) (replicate (length l) 32 ++ (replicate n 32 ++ y)))
    (sets_within (x ++ replicate i 32) (replicate (length l) 32) l (replicate n 32 ++ y) b at (at + (s.left + i)) (length-replicate (length l) 32)
    (simp (length-append, length-replicate))
    ∙ rw (append_assoc x (replicate i 32) (l ++ (replicate n 32 ++ y)))))

pub body_over : (s : Settings) (t : List ℕ) (z : Size) (k : BodyRows) → BodyFits s t z k → (o o₁ o₂ : List ℕ) (at stride : ℕ)
    → o₁ ≡ pasted o at stride (ground s k (text_height t) z.width)
    → LaidOver (clear s k.inner) (text_line s k.inner k.widest) (lines t) (at + (k.above + s.top) * stride) stride o₁ o₂
    → o₂ ≡ pasted o at stride (body s t z)
unfolding ground
body_over s t z k h o o₁ o₂ at stride e w =
    let x = replicate k.above (replicate z.width 32) ++ replicate s.top (replicate z.width (get_or s.fills 2 0)) in
    let y = replicate s.bottom (replicate z.width (get_or s.fills 3 0)) ++ replicate k.below (replicate z.width 32) in
    let n : length x ≡ k.above + s.top = simp (length-append, length-replicate) in
    rw (h.body_is, pasted_append x (map (text_line s k.inner k.widest) (lines t) ++ y) o at stride, n)
    (w.done (pasted o at stride x) y (e ∙ rw (pasted_append x (replicate (text_height t) (clear s k.inner) ++ y) o at stride, n, lines_height t)))
