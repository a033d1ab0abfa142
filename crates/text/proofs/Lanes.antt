-- Word operations act on each byte of a word apart, as long as no sum of two bytes passes 255.
use Rattle.std.proofs.Common.{◌≡◌, ℕ, zero, suc, ◌+◌, ◌*◌, ◌/◌, ◌%◌, ◌<◌, ◌≤◌, Bool, true, false, T, eqb, sym, refl, ap, ◌∙◌, ap₂, mod-lt, mod-eq_of_lt}
use Rattle.std.proofs.Common.{arith, lit<, eqb→eq, ne_eqb}
use borrow.Author.Tests.{eqb-false}
use lib.Bits.{bit_and, bit_or, bit_xor, and_block, or_block, xor_block, or_lt, xor_lt, and_le_r, and_zero_r, xor_zero_r, and_high}
use Rattle.common.specs.Choice.{pick, both}
use Rattle.text.specs.Feeds.{is_feed}
use Rattle.text.specs.Clauses.{marked}

-- v in each of the n low bytes
unfoldable rep : ℕ → ℕ → ℕ
rep zero v = 0
rep (suc n) v = rep n v * 256 + v

-- the word step: the bytes that are not line feeds have their high bits set, and the high bits are then turned
abbrev others : (x ten low : ℕ) → ℕ
others x ten low = bit_or (bit_and (bit_xor x ten) low + low) (bit_xor x ten)

abbrev step : (x ten low top : ℕ) → ℕ
step x ten low top = bit_xor (bit_and (others x ten low) top) top

-- ---- one byte: all 256, computed

unfoldable all : (ℕ → Bool) → ℕ → Bool
all f zero = true
all f (suc n) = both (f n) (all f n)

both_left : (a b : Bool) → T (both a b) → T a
both_left a true t = t
both_left a false t = absurd t

both_right : (a b : Bool) → T (both a b) → T b
both_right a true t = tt
both_right a false t = t

all_at : (f : ℕ → Bool) (n : ℕ) → T (all f n) → (k : ℕ) → k < n → T (f k)
unfolding all
all_at f zero t k h = absurd (omega arith)
all_at f (suc n) t k h = go (eqb k n) refl (all_at f n (both_right (f n) (all f n) t) k)
  where
    go : (e : Bool) → eqb k n ≡ e → (k < n → T (f k)) → T (f k)
    go true e rest = let s : k ≡ n = eqb→eq k n (rw e tt) in rw s (both_left (f n) (all f n) t)
    go false e rest = rest (omega (arith, eqb-false k n e))

right : ℕ → Bool
right b = eqb (step b 10 127 128) (pick (is_feed b) 128 0)

byte_step : (b : ℕ) → b < 256 → step b 10 127 128 ≡ pick (is_feed b) 128 0
unfolding right all
byte_step b h = eqb→eq (step b 10 127 128) (pick (is_feed b) 128 0) (all_at right 256 tt b h)

-- ---- a byte below a word

sum_block : (a b r s : ℕ) → a * 256 + r + (b * 256 + s) ≡ (a + b) * 256 + (r + s)
sum_block a b r s = omega arith

module _ (h l t w p : ℕ) (small : l < 256) where
  y_lt : bit_xor l 10 < 256
  y_lt = xor_lt 8 l 10 small (lit< tt)

  a_lt : bit_and (bit_xor l 10) 127 + 127 < 256
  a_lt = omega (arith, and_le_r (bit_xor l 10) 127)

  o_lt : others l 10 127 < 256
  o_lt = or_lt 8 (bit_and (bit_xor l 10) 127 + 127) (bit_xor l 10) a_lt y_lt

  t_lt : bit_and (others l 10 127) 128 < 256
  t_lt = omega (arith, and_le_r (others l 10 127) 128)

  others_block : others (h * 256 + l) (t * 256 + 10) (w * 256 + 127) ≡ others h t w * 256 + others l 10 127
  others_block =
      let e₁ : bit_xor (h * 256 + l) (t * 256 + 10) ≡ bit_xor h t * 256 + bit_xor l 10 = xor_block 8 h t l 10 small (lit< tt) in
      let e₂ : bit_and (bit_xor h t * 256 + bit_xor l 10) (w * 256 + 127) ≡ bit_and (bit_xor h t) w * 256 + bit_and (bit_xor l 10) 127 =
      and_block 8 (bit_xor h t) w (bit_xor l 10) 127 y_lt (lit< tt) in
      ap₂ (λ (u v : ℕ). bit_or (u + (w * 256 + 127)) v) (ap (λ (u : ℕ). bit_and u (w * 256 + 127)) e₁ ∙ e₂) e₁
      ∙ ap (λ (u : ℕ). bit_or u (bit_xor h t * 256 + bit_xor l 10)) (sum_block (bit_and (bit_xor h t) w) w (bit_and (bit_xor l 10) 127) 127)
      ∙ or_block 8 (bit_and (bit_xor h t) w + w) (bit_xor h t) (bit_and (bit_xor l 10) 127 + 127) (bit_xor l 10) a_lt y_lt

  step_block : step (h * 256 + l) (t * 256 + 10) (w * 256 + 127) (p * 256 + 128) ≡ step h t w p * 256 + step l 10 127 128
  step_block =
      ap (λ (u : ℕ). bit_xor (bit_and u (p * 256 + 128)) (p * 256 + 128)) others_block
      ∙ ap (λ (u : ℕ). bit_xor u (p * 256 + 128)) (and_block 8 (others h t w) p (others l 10 127) 128 o_lt (lit< tt))
      ∙ xor_block 8 (bit_and (others h t w) p) p (bit_and (others l 10 127) 128) 128 t_lt (lit< tt)

-- ---- all bytes of a word

step_marks : (n x : ℕ) → step x (rep n 10) (rep n 127) (rep n 128) ≡ marked n x
unfolding rep marked
step_marks zero x = xor_zero_r (bit_and (others x 0 0) 0) ∙ and_zero_r (others x 0 0)
step_marks (suc n) x =
    let s : x ≡ x / 256 * 256 + x % 256 = omega arith in
    ap (λ (u : ℕ). step u (rep n 10 * 256 + 10) (rep n 127 * 256 + 127) (rep n 128 * 256 + 128)) s
    ∙ step_block (x / 256) (x % 256) (rep n 10) (rep n 127) (rep n 128) (mod-lt x (lit< tt))
    ∙ ap₂ (λ (u v : ℕ). u * 256 + v) (step_marks n (x / 256)) (byte_step (x % 256) (mod-lt x (lit< tt)))

-- the masks of eight bytes, by computation
pub word_marks : (x : ℕ) → step x 0x0a0a_0a0a_0a0a_0a0a 0x7f7f_7f7f_7f7f_7f7f 0x8080_8080_8080_8080 ≡ marked 8 x
unfolding rep
word_marks x = step_marks 8 x

-- ---- 11 taken from each byte: where no high bit is set after it, no byte was a line feed

low_byte : (l : ℕ) → l < 256 → bit_and l 128 ≡ 0 → l < 128
low_byte l h e =
    let k : bit_and l 128 ≡ l / 128 % 2 * 128 = and_high l 1 7 in
    let m : l / 128 % 2 ≡ l / 128 = mod-eq_of_lt (omega arith) in
    omega arith

low_marks : (n t : ℕ) → t ≤ rep n 255 → bit_and t (rep n 128) ≡ 0 → (t + rep n 11 ≤ rep n 255) × (marked n (t + rep n 11) ≡ 0)
unfolding rep marked
low_marks zero t b e = (omega arith, refl)
low_marks (suc n) t b e =
    let s : t / 256 * 256 + t % 256 ≡ t = omega arith in
    let k : bit_and (t / 256) (rep n 128) * 256 + bit_and (t % 256) 128 ≡ 0 =
    sym (and_block 8 (t / 256) (rep n 128) (t % 256) 128 (mod-lt t (lit< tt)) (lit< tt)) ∙ ap (λ (u : ℕ). bit_and u (rep n 128 * 256 + 128)) s ∙ e in
    let q : (t / 256 + rep n 11 ≤ rep n 255) × (marked n (t / 256 + rep n 11) ≡ 0) = low_marks n (t / 256) (omega arith) (omega arith) in
    let l : t % 256 < 128 = low_byte (t % 256) (mod-lt t (lit< tt)) (omega arith) in
    let d : (t + (rep n 11 * 256 + 11)) / 256 ≡ t / 256 + rep n 11 = omega arith in
    let m : (t + (rep n 11 * 256 + 11)) % 256 ≡ t % 256 + 11 = omega arith in
    (omega (arith, q.0), rw (d, m, q.1, ne_eqb (t % 256 + 11) 10 (omega arith)))

-- the same of eight bytes, modulo 2^64
pub low_word : (x t : ℕ) → t < 18446744073709551616 → (t + 0x0b0b_0b0b_0b0b_0b0b) % 18446744073709551616 ≡ x → bit_and t 0x8080_8080_8080_8080 ≡ 0
    → marked 8 x ≡ 0
unfolding rep
low_word x t h e z =
    let q : (t + 0x0b0b_0b0b_0b0b_0b0b ≤ 18446744073709551615) × (marked 8 (t + 0x0b0b_0b0b_0b0b_0b0b) ≡ 0) = low_marks 8 t (omega arith) z in
    let c : x ≡ t + 0x0b0b_0b0b_0b0b_0b0b = omega (arith, q.0) in
    rw c q.1
