-- What is seen of a text: part after part, and in the end.
use Rattle.std.proofs.Common.{◌≡◌, ℕ, suc, ◌+◌, ◌-◌, ◌<◌, ◌≤◌, max, Bool, true, false, eqb, List, [], ◌∷◌, ◌++◌, length, get_or, take, drop, sym, refl, ap}
use Rattle.std.proofs.Common.{◌∙◌, ap₂, add-one, arith, length-drop, take-append-drop, drop_of_length-le, length-take-le, drop-cons, drop-drop, take-add}
use Rattle.std.proofs.Common.{eqb-true}
use lib.Bits.{bit_or, or_add_and, and_le_l, and_le_r}
use Rattle.common.specs.Choice.{pick}
use Rattle.text.specs.declared.seen.Seen.{Seen}
use Rattle.text.specs.Feeds.{is_feed, feed_count, longest_from, counted_of}
use Rattle.text.specs.Clauses.{none_seen, after_feed, after, Fine, SeenBefore, Passed}

-- ---- the plain count

pub feeds_low : (t : List ℕ) → feed_count t ≤ length t
unfolding feed_count
feeds_low [] = omega arith
feeds_low (b ∷ t) = go (is_feed b) (feeds_low t)
  where
    go : (c : Bool) → feed_count t ≤ length t → pick c 1 0 + feed_count t ≤ suc (length t)
    go true h = omega arith
    go false h = omega arith

count_append : (a b : List ℕ) → feed_count (a ++ b) ≡ feed_count a + feed_count b
unfolding feed_count
count_append [] b = omega arith
count_append (x ∷ a) b = omega (arith, count_append a b)

plain_on : (s : List ℕ) (at m n : ℕ) → feed_count (take m (drop at s)) ≡ 0 → feed_count (take n (drop (at + m) s)) ≡ 0
    → feed_count (take (m + n) (drop at s)) ≡ 0
plain_on s at m n p q = rw (take-add m n (drop at s), count_append, drop-drop m at s, p, q)

or_none : (a b : ℕ) → bit_or a b ≡ 0 → (a ≡ 0) × (b ≡ 0)
or_none a b e = (omega (arith, or_add_and a b, and_le_r a b), omega (arith, or_add_and a b, and_le_l a b))

-- four parts of eight bytes
pub plain_four : (s : List ℕ) (at w x y z : ℕ) → (w ≡ 0 → feed_count (take 8 (drop at s)) ≡ 0) → (x ≡ 0 → feed_count (take 8 (drop (at + 8) s)) ≡ 0)
    → (y ≡ 0 → feed_count (take 8 (drop (at + 16) s)) ≡ 0) → (z ≡ 0 → feed_count (take 8 (drop (at + 24) s)) ≡ 0)
    → eqb (bit_or (bit_or (bit_or w x) y) z) 0 ≡ true → feed_count (take 32 (drop at s)) ≡ 0
plain_four s at w x y z a b c d e =
    let p : (bit_or (bit_or w x) y ≡ 0) × (z ≡ 0) = or_none (bit_or (bit_or w x) y) z (eqb-true _ 0 e) in
    let q : (bit_or w x ≡ 0) × (y ≡ 0) = or_none (bit_or w x) y p.0 in
    let o : (w ≡ 0) × (x ≡ 0) = or_none w x q.0 in
    plain_on s at 24 8 (plain_on s at 16 8 (plain_on s at 8 8 (a o.0) (b o.1)) (c q.1)) (d p.1)

-- ---- part after part

-- no line feed: nothing changes
pub after_plain : (t : List ℕ) (i : ℕ) (r : Seen) → feed_count t ≡ 0 → after t i r ≡ r
unfolding after feed_count
after_plain [] i r h = refl
after_plain (b ∷ t) i r h = go (is_feed b) h (after_plain t (suc i) r)
  where
    go : (c : Bool) → pick c 1 0 + feed_count t ≡ 0 → (feed_count t ≡ 0 → after t (suc i) r ≡ r) → after t (suc i) (pick c (after_feed i r) r) ≡ r
    go true h k = absurd (omega arith)
    go false h k = k (omega arith)

along : (i n : ℕ) → i + suc n ≡ suc i + n
along i n = omega arith

after_append : (a b : List ℕ) (i : ℕ) (r : Seen) → after (a ++ b) i r ≡ after b (i + length a) (after a i r)
unfolding after
after_append [] b i r = let e : i + 0 ≡ i = omega arith in rw e
after_append (x ∷ a) b i r = rw (along i (length a)) (after_append a b (suc i) (pick (is_feed x) (after_feed i r) r))

fine_on : (i j : ℕ) (r : Seen) (c : Bool) → j ≡ i + 1 → Fine i r → Fine j (pick c (after_feed i r) r)
fine_on i j r true e f = record { few = omega (arith, f.few, f.before); before = omega arith }
fine_on i j r false e f = record { few = f.few; before = omega (arith, f.before) }

after_fine : (t : List ℕ) (i : ℕ) (r : Seen) → Fine i r → Fine (i + length t) (after t i r)
unfolding after
after_fine [] i r f = let e : i + 0 ≡ i = omega arith in rw e f
after_fine (b ∷ t) i r f = rw (along i (length t))
    (after_fine t (suc i) (pick (is_feed b) (after_feed i r) r) (fine_on i (suc i) r (is_feed b) (omega arith) f))

module _ (s : List ℕ) (i n : ℕ) (h : i + n ≤ length s) where
  part_long : length (take n (drop i s)) ≡ n
  part_long = length-take-le n (drop i s) (rw length-drop (omega arith))

  halves : drop i s ≡ take n (drop i s) ++ drop (i + n) s
  halves = rw (← drop-drop n i s) (sym (take-append-drop n (drop i s)))

  part_fine : (r : Seen) → Fine i r → Fine (i + n) (after (take n (drop i s)) i r)
  part_fine r f = rw part_long at (after_fine (take n (drop i s)) i r f)

  part_on : (r : Seen) → after (drop (i + n) s) (i + n) (after (take n (drop i s)) i r) ≡ after (drop i s) i r
  part_on r = sym (rw (part_long) at (ap (λ (l : List ℕ). after l i r) halves ∙ after_append (take n (drop i s)) (drop (i + n) s) i r))

  -- n bytes more were passed
  pub reached_part : (r q : Seen) → SeenBefore s i r → q ≡ after (take n (drop i s)) i r → SeenBefore s (i + n) q
  reached_part r q p e = rw e (record { within = h; fine = part_fine r p.fine; same = part_on r ∙ p.same })

  reached_plain : (r : Seen) → SeenBefore s i r → feed_count (take n (drop i s)) ≡ 0 → SeenBefore s (i + n) r
  reached_plain r p z = reached_part r r p (sym (after_plain (take n (drop i s)) i r z))

pub passed_none : (s : List ℕ) (i : ℕ) → i ≤ length s → Passed s i i
unfolding feed_count
passed_none s i h = let z : i - i ≡ 0 = omega arith in record { on = omega arith; within = h; plain = rw z }

module _ (s : List ℕ) (i j : ℕ) (p : Passed s i j) where
  -- n bytes more without a line feed
  pub passed_on : (n : ℕ) → j + n ≤ length s → feed_count (take n (drop j s)) ≡ 0 → Passed s i (j + n)
  passed_on n h z =
      let d : j + n - i ≡ (j - i) + n = omega (arith, p.on) in
      let e : i + (j - i) ≡ j = omega (arith, p.on) in
      record { on = omega (arith, p.on); within = h; plain = rw d (plain_on s i (j - i) n p.plain (rw e z)) }

  -- nothing was seen on the way
  pub passed_reached : (r : Seen) → SeenBefore s i r → SeenBefore s j r
  passed_reached r q =
      let e : i + (j - i) ≡ j = omega (arith, p.on) in
      rw e at (reached_plain s i (j - i) (omega (arith, p.within)) r q p.plain)

pub fine_none : Fine 0 none_seen
fine_none = record { few = omega arith; before = omega arith }

pub reached_none : (s : List ℕ) → SeenBefore s 0 none_seen
reached_none s = record { within = omega arith; fine = fine_none; same = refl }

-- one byte more
module _ (s : List ℕ) (i : ℕ) (r : Seen) (p : SeenBefore s i r) (h : i < length s) where
  pub reached_byte : (q : Seen) → q ≡ pick (is_feed (get_or s i 0)) (after_feed i r) r → SeenBefore s (i + 1) q
  unfolding after
  reached_byte q e =
      let d : drop i s ≡ get_or s i 0 ∷ drop (i + 1) s = rw (add-one i) (drop-cons s i 0 h) in
      let n : suc i ≡ i + 1 = omega arith in
      let a : after (drop i s) i r ≡ after (drop (i + 1) s) (i + 1) q =
      ap (λ (l : List ℕ). after l i r) d ∙ ap₂ (λ (j : ℕ) (x : Seen). after (drop (i + 1) s) j x) n (sym e) in
      record { within = omega arith; fine = rw e (fine_on i (i + 1) r (is_feed (get_or s i 0)) refl p.fine); same = sym a ∙ p.same }

-- ---- in the end

feeds_after : (t : List ℕ) (i : ℕ) (r : Seen) → (after t i r).feeds ≡ r.feeds + feed_count t
unfolding after feed_count
feeds_after [] i r = omega arith
feeds_after (b ∷ t) i r = go (is_feed b) (feeds_after t (suc i) (pick (is_feed b) (after_feed i r) r))
  where
    go : (c : Bool) → (after t (suc i) (pick c (after_feed i r) r)).feeds ≡ (pick c (after_feed i r) r).feeds + feed_count t
        → (after t (suc i) (pick c (after_feed i r) r)).feeds ≡ r.feeds + (pick c 1 0 + feed_count t)
    go true e = omega arith
    go false e = omega arith

longest_low : (n : ℕ) (t : List ℕ) → n ≤ longest_from n t
unfolding longest_from
longest_low n [] = omega arith
longest_low n (b ∷ t) = omega arith

max_regroup : (a b c : ℕ) → max (max a (suc b)) (suc c) ≡ max a (suc (max b c))
max_regroup a b c = omega arith

max_inside : (a b c : ℕ) → b ≤ c → max a (suc c) ≡ max a (suc (max b c))
max_inside a b c h = omega arith

-- the longest line so far, or the one that goes on to the end
longest_after : (t : List ℕ) (i : ℕ) (r : Seen) → Fine i r
    → max (after t i r).longest (i + length t + 1 - (after t i r).start) ≡ max r.longest (suc (longest_from (i - r.start) t))
unfolding after longest_from
longest_after [] i r f = omega (arith, f.before)
longest_after (b ∷ t) i r f =
    rw (along i (length t)) (longest_after t (suc i) (pick (is_feed b) (after_feed i r) r) (fine_on i (suc i) r (is_feed b) (omega arith) f) ∙ go (is_feed b))
  where
    go : (c : Bool) → max (pick c (after_feed i r) r).longest (suc (longest_from (suc i - (pick c (after_feed i r) r).start) t))
        ≡ max r.longest (suc (max (i - r.start) (longest_from (pick c 0 (suc (i - r.start))) t)))
    go true =
        let z : suc i - (i + 1) ≡ 0 = omega arith in
        let n : i + 1 - r.start ≡ suc (i - r.start) = omega (arith, f.before) in
        rw (z, n) (max_regroup r.longest (i - r.start) (longest_from 0 t))
    go false =
        let z : suc i - r.start ≡ suc (i - r.start) = omega (arith, f.before) in
        rw z (max_inside r.longest (i - r.start) (longest_from (suc (i - r.start)) t) (omega (arith, longest_low (suc (i - r.start)) t)))

module _ (s : List ℕ) (r : Seen) (p : SeenBefore s (length s) r) where
  ended : r ≡ after s 0 none_seen
  unfolding after
  ended = rw (drop_of_length-le s {i = length s} (omega arith)) at p.same

  pub counted : (w : ℕ) → w ≡ max (r.longest - 1) (length s - r.start) → record { feeds = r.feeds; longest = w } ≡ counted_of s
  counted w e =
      let a : r.feeds ≡ feed_count s = ap (λ (x : Seen). x.feeds) ended ∙ feeds_after s 0 none_seen ∙ omega arith in
      let m : max r.longest (length s + 1 - r.start) ≡ suc (longest_from 0 s) =
      ap (λ (x : Seen). max x.longest (length s + 1 - x.start)) ended
      ∙ ap (λ (n : ℕ). max (after s 0 none_seen).longest (n - (after s 0 none_seen).start)) (omega arith) ∙ longest_after s 0 none_seen fine_none
      ∙ omega arith in
      let l : max (r.longest - 1) (length s - r.start) ≡ longest_from 0 s = omega (arith, m, p.fine.before) in
      rw (a, e, l)
