-- The line feeds of a text, and its longest line.
use Rattle.std.specs.Prelude.{ℕ, suc, ◌+◌, max, Bool, List, [], ◌∷◌, ◌==◌}
use Rattle.common.specs.Choice.{pick}
use Rattle.text.specs.declared.Counted.{Counted}

abbrev pub is_feed : ℕ → Bool
is_feed b = b == 10

-- the plain count
unfoldable pub feed_count : List ℕ → ℕ
feed_count [] = 0
feed_count (b ∷ t) = pick (is_feed b) 1 0 + feed_count t

-- the most letters together without a line feed, where n letters are before the text
unfoldable pub longest_from : ℕ → List ℕ → ℕ
longest_from n [] = n
longest_from n (b ∷ t) = max n (longest_from (pick (is_feed b) 0 (suc n)) t)

abbrev pub counted_of : List ℕ → Counted
counted_of t = record { feeds = feed_count t; longest = longest_from 0 t }
