-- What is measured of a text: the longest line, and the line count.
use Rattle.std.proofs.Common.{◌≡◌, ℕ, suc, ◌+◌, ◌<◌, ◌≤◌, max, Bool, true, false, eqb, List, [], ◌∷◌, map, length, refl, ◌∙◌, arith}
use lib.ListN.{length-map}
use lib.Seq.{take-length}
use Rattle.common.specs.Choice.{pick}
use Rattle.common.specs.Sums.{greatest}
use Rattle.common.specs.Every.{Every}
use Rattle.common.proofs.Every.{every_map}
use Rattle.text.specs.declared.Counted.{Counted}
use Rattle.text.specs.Feeds.{is_feed, feed_count, longest_from, counted_of}
use Rattle.text.specs.Clauses.{first_feed}
use Rattle.text.specs.Text.{onto, lines, line_lengths, text_width, text_height}
use Rattle.text.specs.Promises.{text_size}
use Rattle.text.proofs.SeenParts.{feeds_low}
use Rattle.text.proofs.Lines.{rest_none, lines_first}

-- a text without a line feed is one line
pub short_size : (t : List ℕ) → first_feed t ≡ length t → text_size t ≡ record { width = length t; height = 1 }
unfolding text_size text_width text_height line_lengths greatest
short_size t f =
    let m : max (length t) 0 ≡ length t = omega arith in
    rw (lines_first t, f, take-length, rest_none t (suc (length t)) (omega arith), m)

-- ---- as `count_feeds` counts and measures

-- the longest line, where n letters are before the first
longest : ℕ → List (List ℕ) → ℕ
longest n [] = n
longest n (l ∷ ls) = max (n + length l) (greatest (map length ls))

some_line : (t : List ℕ) → 1 ≤ length (lines t)
unfolding lines onto
some_line [] = omega arith
some_line (b ∷ t) = go (eqb b 10) (lines t)
  where
    go : (c : Bool) (ls : List (List ℕ)) → 1 ≤ length (pick c ([] ∷ ls) (onto b ls))
    go true ls = omega arith
    go false [] = omega arith
    go false (l ∷ ls) = omega arith

longest_line : (t : List ℕ) (n : ℕ) → longest n (lines t) ≡ longest_from n t
unfolding lines onto greatest longest longest_from
longest_line [] n = omega arith
longest_line (b ∷ t) n = go (is_feed b) (lines t) (some_line t) (longest_line t)
  where
    go : (c : Bool) (ls : List (List ℕ)) → 1 ≤ length ls → ((m : ℕ) → longest m ls ≡ longest_from m t)
        → longest n (pick c ([] ∷ ls) (onto b ls)) ≡ max n (longest_from (pick c 0 (suc n)) t)
    go c [] h k = absurd (omega arith)
    go true (l ∷ ls) h k = omega (arith, k 0)
    go false (l ∷ ls) h k = omega (arith, k (suc n))

line_count : (t : List ℕ) → length (lines t) ≡ feed_count t + 1
unfolding lines onto feed_count
line_count [] = refl
line_count (b ∷ t) = go (is_feed b) (lines t) (some_line t) (line_count t)
  where
    go : (c : Bool) (ls : List (List ℕ)) → 1 ≤ length ls → length ls ≡ feed_count t + 1 → length (pick c ([] ∷ ls) (onto b ls)) ≡ pick c 1 0 + feed_count t + 1
    go c [] h e = absurd (omega arith)
    go true (l ∷ ls) h e = omega arith
    go false (l ∷ ls) h e = omega arith

width_longest : (t : List ℕ) → text_width t ≡ longest_from 0 t
unfolding text_width line_lengths greatest longest
width_longest t = go (lines t) (some_line t) ∙ longest_line t 0
  where
    go : (ls : List (List ℕ)) → 1 ≤ length ls → greatest (map length ls) ≡ longest 0 ls
    go [] h = absurd (omega arith)
    go (l ∷ ls) h = omega arith

pub counted_size : (t : List ℕ) (r : Counted) → r ≡ counted_of t → record { width = r.longest; height = r.feeds + 1 } ≡ text_size t
unfolding text_size text_height line_lengths
counted_size t r e = rw (e, width_longest t) (rw (length-map (lines t) length, line_count t))

pub counted_few : (t : List ℕ) (r : Counted) → r ≡ counted_of t → r.feeds ≤ length t
counted_few t r e = rw e (feeds_low t)

-- ---- how large a text is

pub lines_height : (t : List ℕ) → length (lines t) ≡ text_height t
unfolding text_height line_lengths
lines_height t = rw (length-map (lines t) length)

pub text_height_lem : (t : List ℕ) → 0 < text_height t
text_height_lem t = omega (arith, lines_height t, some_line t)

pub height_le : (t : List ℕ) → text_height t ≤ suc (length t)
height_le t = omega (arith, lines_height t, line_count t, feeds_low t)

width_step : (c : Bool) (b : ℕ) (ls : List (List ℕ)) → greatest (map length (pick c ([] ∷ ls) (onto b ls))) ≤ suc (greatest (map length ls))
unfolding onto greatest
width_step true b ls = omega arith
width_step false b [] = omega arith
width_step false b (l ∷ ls) = omega arith

pub width_le : (t : List ℕ) → text_width t ≤ length t
unfolding text_width lines
width_le [] = omega arith
width_le (b ∷ t) = omega (arith, width_step (eqb b 10) b (lines t), width_le t)

each_within : (ls : List (List ℕ)) → Every (λ l. length l ≤ greatest (map length ls)) ls
unfolding greatest
each_within [] = tt
each_within (l ∷ ls) = (
  omega arith,
  every_map (λ m. length m ≤ greatest (map length ls)) (λ m. length m
      ≤ max (length l) (greatest (map length ls))) (λ m h. omega arith) ls (each_within ls),
)

pub lines_width : (t : List ℕ) → Every (λ l. length l ≤ text_width t) (lines t)
unfolding text_width line_lengths
lines_width t = each_within (lines t)
