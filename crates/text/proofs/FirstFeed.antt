-- The first line feed from a place on.
use Rattle.std.proofs.Common.{◌≡◌, ℕ, zero, suc, ◌+◌, ◌-◌, ◌*◌, ◌/◌, ◌<◌, ◌≤◌, Bool, true, false, List, [], ◌∷◌, map, length, get_or, take, drop, sym, refl}
use Rattle.std.proofs.Common.{ap, ◌∙◌, add-one, arith, length-drop, drop_of_length-le, length-take-le, drop-cons, drop-drop, eq-eqb, ne_eqb}
use lib.ListN.{length-map}
use lib.Count.{count_trailing_zeros}
use Rattle.common.specs.Choice.{pick}
use Rattle.text.specs.Feeds.{is_feed, feed_count}
use Rattle.text.specs.Clauses.{first_feed, Passed, flags, Onward}
use Rattle.text.proofs.Flags.{first, first_low, zeros_first}

-- ---- in a word's flags

word_none : (n : ℕ) (t : List ℕ) → n ≤ length t → flags (map is_feed (take n t)) ≡ 0 → first_feed t ≡ n + first_feed (drop n t)
unfolding flags first_feed
word_none zero t h e = omega arith
word_none (suc n) [] h e = absurd (omega arith)
word_none (suc n) (b ∷ t) h e = go (is_feed b) e (λ k. word_none n t (omega arith) k)
  where
    go : (c : Bool) → flags (map is_feed (take n t)) * 256 + pick c 128 0 ≡ 0 → (flags (map is_feed (take n t)) ≡ 0 → first_feed t ≡ n + first_feed (drop n t))
        → pick c 0 (suc (first_feed t)) ≡ suc n + first_feed (drop n t)
    go true e ih = absurd (omega arith)
    go false e ih = omega (arith, ih (omega arith))

word_some : (n : ℕ) (t : List ℕ) → 0 < flags (map is_feed (take n t)) → first_feed t ≡ first (map is_feed (take n t))
unfolding flags first_feed first
word_some zero t h = absurd (omega arith)
word_some (suc n) [] h = absurd (omega arith)
word_some (suc n) (b ∷ t) h = go (is_feed b) h (λ k. word_some n t k)
  where
    go : (c : Bool) → 0 < flags (map is_feed (take n t)) * 256 + pick c 128 0
        → (0 < flags (map is_feed (take n t)) → first_feed t ≡ first (map is_feed (take n t)))
        → pick c 0 (suc (first_feed t)) ≡ first (c ∷ map is_feed (take n t))
    go true h ih = refl
    go false h ih = ap suc (ih (omega arith))

-- ---- past bytes without a line feed

plain_first : (n : ℕ) (t : List ℕ) → n ≤ length t → feed_count (take n t) ≡ 0 → first_feed t ≡ n + first_feed (drop n t)
unfolding feed_count first_feed
plain_first zero t h e = omega arith
plain_first (suc n) [] h e = absurd (omega arith)
plain_first (suc n) (b ∷ t) h e = go (is_feed b) e (λ k. plain_first n t (omega arith) k)
  where
    go : (c : Bool) → pick c 1 0 + feed_count (take n t) ≡ 0 → (feed_count (take n t) ≡ 0 → first_feed t ≡ n + first_feed (drop n t))
        → pick c 0 (suc (first_feed t)) ≡ suc n + first_feed (drop n t)
    go true e ih = absurd (omega arith)
    go false e ih = omega (arith, ih (omega arith))

pub passed_onward : (t : List ℕ) (from i : ℕ) → Passed t from i → Onward t from i
passed_onward t from i p =
    let e : from + (i - from) ≡ i = omega (arith, p.on) in
    let f : first_feed (drop from t) ≡ (i - from) + first_feed (drop i t) =
    rw (drop-drop (i - from) from t, e) at (plain_first (i - from) (drop from t) (rw length-drop (omega (arith, p.within))) p.plain) in
    record { on = p.on; within = p.within; same = omega (arith, f, p.on) }

-- ---- from place to place

pub onward_none : (t : List ℕ) (from i : ℕ) → i ≡ from → from ≤ length t → Onward t from i
onward_none t from i e h = rw e (record { on = omega arith; within = h; same = refl })

feed_here : (t : List ℕ) (i : ℕ) → i < length t → get_or t i 0 ≡ 10 → first_feed (drop i t) ≡ 0
unfolding first_feed
feed_here t i h e = rw (drop-cons t i 0 h, eq-eqb _ 10 e)

feed_later : (t : List ℕ) (i : ℕ) → i < length t → (get_or t i 0 ≡ 10 → ⊥) → first_feed (drop i t) ≡ suc (first_feed (drop (i + 1) t))
unfolding first_feed
feed_later t i h e = rw (drop-cons t i 0 h, ne_eqb _ 10 e, add-one)

module _ (t : List ℕ) (from i : ℕ) (p : Onward t from i) where
  pub onward_here : i < length t → get_or t i 0 ≡ 10 → i ≡ from + first_feed (drop from t)
  onward_here h e = omega (arith, p.same, feed_here t i h e)

  pub onward_on : i < length t → (get_or t i 0 ≡ 10 → ⊥) → Onward t from (i + 1)
  onward_on h e = record { on = omega (arith, p.on); within = omega arith; same = omega (arith, p.same, feed_later t i h e) }

  pub onward_rest : i + first_feed (drop i t) ≡ from + first_feed (drop from t)
  onward_rest = sym p.same

  pub onward_end : length t ≤ i → i ≡ from + first_feed (drop from t)
  unfolding first_feed
  onward_end h = let e : first_feed (drop i t) ≡ 0 = rw (drop_of_length-le t {i = i} h) in omega (arith, p.same)

  module _ (h : i + 8 ≤ length t) (marked : ℕ) (me : marked ≡ flags (map is_feed (take 8 (drop i t)))) where
    long : 8 ≤ length (drop i t)
    long = rw length-drop (omega arith)

    pub onward_word : marked ≡ 0 → Onward t from (i + 8)
    onward_word z =
        let e = word_none 8 (drop i t) long (rw me at z) in
        record { on = omega (arith, p.on); within = h; same = rw (← drop-drop 8 i t) (omega (arith, p.same, e)) }

    place : count_trailing_zeros 64 marked / 8 ≡ first (map is_feed (take 8 (drop i t)))
    place = rw me (rw (length-map (take 8 (drop i t)) is_feed ∙ length-take-le 8 (drop i t) long) at (zeros_first (map is_feed (take 8 (drop i t)))))

    pub onward_marked : 0 < marked → (count_trailing_zeros 64 marked / 8 < 8) × (i + count_trailing_zeros 64 marked / 8 ≡ from + first_feed (drop from t))
    onward_marked z =
        let k : 0 < flags (map is_feed (take 8 (drop i t))) = rw me at z in
        let n = length-map (take 8 (drop i t)) is_feed ∙ length-take-le 8 (drop i t) long in
        let l = first_low (map is_feed (take 8 (drop i t))) k in
        (omega (arith, place), omega (arith, place, word_some 8 (drop i t) k, p.same))
