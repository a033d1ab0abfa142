-- Words of bytes, and the line feeds marked in them.
use Rattle.std.proofs.Common.{◌≡◌, ℕ, zero, suc, ◌+◌, ◌*◌, ◌/◌, ◌%◌, ◌<◌, ◌≤◌, Bool, true, false, List, [], ◌∷◌, map, length, get_or, take, drop, sym}
use Rattle.std.proofs.Common.{refl, ◌∙◌, arith, length-drop, length-take-le}
use lib.Seq.{get_or-drop}
use Rattle.std.specs.Int.{w64, from_le_bytes}
use Rattle.common.specs.Choice.{pick}
use Rattle.text.specs.Feeds.{is_feed, feed_count}
use Rattle.text.specs.Clauses.{word, Loaded, marked, flags}

-- ---- a word from its bytes

small_front : (n : ℕ) (s : List ℕ) → ((k : ℕ) → get_or s k 0 < 256) → (k : ℕ) → get_or (take n s) k 0 < 256
small_front zero s h k = omega arith
small_front (suc n) [] h k = omega arith
small_front (suc n) (b ∷ t) h zero = h 0
small_front (suc n) (b ∷ t) h (suc k) = small_front n t (λ j. h (suc j)) k

pub small_part : (n at : ℕ) (s : List ℕ) → ((k : ℕ) → get_or s k 0 < 256) → (k : ℕ) → get_or (take n (drop at s)) k 0 < 256
small_part n at s h = small_front n (drop at s) (λ k. rw (get_or-drop at s k 0) (h (at + k)))

pub eight_loaded : (bs : List ℕ) (r : ℕ) → length bs ≡ 8 → ((k : ℕ) → get_or bs k 0 < 256) → r ≡ from_le_bytes w64 bs → Loaded bs r
unfolding word
eight_loaded (b₀ ∷ b₁ ∷ b₂ ∷ b₃ ∷ b₄ ∷ b₅ ∷ b₆ ∷ b₇ ∷ []) r h small e = record { is = omega arith; small = small }
eight_loaded [] r h small e = absurd (omega arith)
eight_loaded (b₀ ∷ []) r h small e = absurd (omega arith)
eight_loaded (b₀ ∷ b₁ ∷ []) r h small e = absurd (omega arith)
eight_loaded (b₀ ∷ b₁ ∷ b₂ ∷ []) r h small e = absurd (omega arith)
eight_loaded (b₀ ∷ b₁ ∷ b₂ ∷ b₃ ∷ []) r h small e = absurd (omega arith)
eight_loaded (b₀ ∷ b₁ ∷ b₂ ∷ b₃ ∷ b₄ ∷ []) r h small e = absurd (omega arith)
eight_loaded (b₀ ∷ b₁ ∷ b₂ ∷ b₃ ∷ b₄ ∷ b₅ ∷ []) r h small e = absurd (omega arith)
eight_loaded (b₀ ∷ b₁ ∷ b₂ ∷ b₃ ∷ b₄ ∷ b₅ ∷ b₆ ∷ []) r h small e = absurd (omega arith)
eight_loaded (b₀ ∷ b₁ ∷ b₂ ∷ b₃ ∷ b₄ ∷ b₅ ∷ b₆ ∷ b₇ ∷ b₈ ∷ bs) r h small e = absurd (omega arith)

-- ---- the line feeds of a word

marked_word : (bs : List ℕ) → ((k : ℕ) → get_or bs k 0 < 256) → marked (length bs) (word bs) ≡ flags (map is_feed bs)
unfolding marked word flags
marked_word [] h = refl
marked_word (b ∷ t) h =
    let d : (word t * 256 + b) / 256 ≡ word t = omega (arith, h 0) in
    let m : (word t * 256 + b) % 256 ≡ b = omega (arith, h 0) in
    rw (d, m, marked_word t (λ k. h (suc k)))

pub eight_marked : (s : List ℕ) (at x r : ℕ) → at + 8 ≤ length s → Loaded (take 8 (drop at s)) x → r ≡ marked 8 x → r ≡ flags (map is_feed (take 8 (drop at s)))
eight_marked s at x r h p e =
    let l : length (take 8 (drop at s)) ≡ 8 = length-take-le 8 (drop at s) (rw length-drop (omega arith)) in
    let w : marked 8 (word (take 8 (drop at s))) ≡ flags (map is_feed (take 8 (drop at s))) = rw l at (marked_word (take 8 (drop at s)) p.small) in
    e ∙ rw p.is w

count_none : (bs : List ℕ) → flags (map is_feed bs) ≡ 0 → feed_count bs ≡ 0
unfolding flags feed_count
count_none [] h = refl
count_none (b ∷ t) h = go (is_feed b) h (count_none t)
  where
    go : (c : Bool) → flags (map is_feed t) * 256 + pick c 128 0 ≡ 0 → (flags (map is_feed t) ≡ 0 → feed_count t ≡ 0) → pick c 1 0 + feed_count t ≡ 0
    go true h k = absurd (omega arith)
    go false h k = omega (arith, k (omega arith))

pub eight_none : (s : List ℕ) (at x : ℕ) → at + 8 ≤ length s → Loaded (take 8 (drop at s)) x → marked 8 x ≡ 0 → feed_count (take 8 (drop at s)) ≡ 0
eight_none s at x h p z = count_none (take 8 (drop at s)) (sym (eight_marked s at x 0 h p (sym z)))
