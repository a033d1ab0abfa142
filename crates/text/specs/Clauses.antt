-- What the functions of this crate require and ensure, beyond the definitions; no theorem mentions it.
use Rattle.std.specs.Prelude.{◌≡◌, ℕ, zero, suc, ◌+◌, ◌-◌, ◌*◌, ◌/◌, ◌%◌, ◌<◌, ◌≤◌, max, Bool, List, [], ◌∷◌, length, drop, slice_index, slice_range}
use Rattle.common.specs.Choice.{pick}
use Rattle.text.specs.declared.seen.Seen.{Seen}
use Rattle.text.specs.Feeds.{is_feed, feed_count}

-- the bytes before the first line feed, or all
unfoldable pub first_feed : List ℕ → ℕ
first_feed [] = 0
first_feed (b ∷ t) = pick (is_feed b) 0 (suc (first_feed t))

abbrev pub none_seen : Seen
none_seen = record { feeds = 0; longest = 0; start = 0 }

-- a line feed at i, which is counted in with its line
abbrev pub after_feed : ℕ → Seen → Seen
after_feed i r = record { feeds = r.feeds + 1; longest = max r.longest (i + 1 - r.start); start = i + 1 }

-- past bytes, the first of which is at i
unfoldable pub after : List ℕ → ℕ → Seen → Seen
after [] i r = r
after (b ∷ t) i r = after t (suc i) (pick (is_feed b) (after_feed i r) r)

-- the line starts at i or before, and no more line feeds were seen than there are bytes before it
pub record Fine (i : ℕ) (r : Seen) : Type 0 where
  pub few : r.feeds ≤ r.start
  pub before : r.start ≤ i

pub record AtFeed (i : ℕ) (r : Seen) : Type 0 where
  pub fine : Fine i r
  pub small : i + 1 < 18446744073709551616

-- r is what is seen of t before i
pub record SeenBefore (t : List ℕ) (i : ℕ) (r : Seen) : Type 0 where
  pub within : i ≤ length t
  pub fine : Fine i r
  pub same : after (drop i t) i r ≡ after t 0 none_seen

-- i and then end are in t, a multiple of n bytes apart
pub record Whole (n : ℕ) (t : List ℕ) (i end : ℕ) : Type 0 where
  pub on : i ≤ end
  pub within : end ≤ length t
  pub parts : (end - i) % n ≡ 0

-- from i up to j there is no line feed
pub record Passed (t : List ℕ) (i j : ℕ) : Type 0 where
  pub on : i ≤ j
  pub within : j ≤ length t
  pub plain : feed_count (slice_range t i j) ≡ 0

-- bytes as one number, the first byte lowest
unfoldable pub word : List ℕ → ℕ
word [] = 0
word (b ∷ t) = word t * 256 + b

-- r is these bytes as one number
pub record Loaded (bs : List ℕ) (r : ℕ) : Type 0 where
  pub is : r ≡ word bs
  pub small : (k : ℕ) → slice_index bs k < 256

-- 128 in each of the n low bytes of x that is a line feed, else 0
unfoldable pub marked : ℕ → ℕ → ℕ
marked zero x = 0
marked (suc n) x = marked n (x / 256) * 256 + pick (is_feed (x % 256)) 128 0

-- a byte for each flag, the first lowest: 128 where it is raised
unfoldable pub flags : List Bool → ℕ
flags [] = 0
flags (b ∷ t) = flags t * 256 + pick b 128 0

-- the first line feed from `from` on is the first from i on
pub record Onward (t : List ℕ) (from i : ℕ) : Type 0 where
  pub on : from ≤ i
  pub within : i ≤ length t
  pub same : from + first_feed (drop from t) ≡ i + first_feed (drop i t)
