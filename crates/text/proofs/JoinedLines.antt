-- Lines that hold no 0A: joined by it, they are split into the same lines again.
use Rattle.std.proofs.Common.{◌≡◌, ℕ, zero, suc, Bool, true, false, eqb, ◌≢◌, List, [], ◌∷◌, ◌++◌, map, replicate, refl, ap, ◌∙◌, arith, ne_eqb}
use borrow.Author.Tests.{eqb-false}
use Rattle.common.specs.Choice.{pick}
use Rattle.text.specs.Text.{onto, lines, join_lines}

-- no byte is 0A
pub data Free : List ℕ → Type 0 where
  none : Free []
  more : {b : ℕ} {l : List ℕ} → b ≢ 10 → Free l → Free (b ∷ l)

-- no line holds a 0A
pub data NoFeed : List (List ℕ) → Type 0 where
  none : NoFeed []
  more : {l : List ℕ} {x : List (List ℕ)} → Free l → NoFeed x → NoFeed (l ∷ x)

pub free_append : {l m : List ℕ} → Free l → Free m → Free (l ++ m)
free_append none k = k
free_append (more p h) k = more p (free_append h k)

pub free_replicate : (n : ℕ) {b : ℕ} → b ≢ 10 → Free (replicate n b)
free_replicate zero p = none
free_replicate (suc n) p = more p (free_replicate n p)

pub free_spaces : (n : ℕ) → Free (replicate n 32)
free_spaces n = free_replicate n (λ e. omega arith)

pub no_feed_append : {x y : List (List ℕ)} → NoFeed x → NoFeed y → NoFeed (x ++ y)
no_feed_append none k = k
no_feed_append (more p h) k = more p (no_feed_append h k)

pub no_feed_replicate : (n : ℕ) {l : List ℕ} → Free l → NoFeed (replicate n l)
no_feed_replicate zero p = none
no_feed_replicate (suc n) p = more p (no_feed_replicate n p)

pub no_feed_map : (f : List ℕ → List ℕ) → ((l : List ℕ) → Free l → Free (f l)) → {x : List (List ℕ)} → NoFeed x → NoFeed (map f x)
no_feed_map f g none = none
no_feed_map f g (more {l = l} p h) = more (g l p) (no_feed_map f g h)

pub no_feed_lines : (t : List ℕ) → NoFeed (lines t)
unfolding lines onto
no_feed_lines [] = more none none
no_feed_lines (b ∷ t) = go (eqb b 10) (no_feed_lines t) (eqb-false b 10)
  where
    go : (c : Bool) {ls : List (List ℕ)} → NoFeed ls → (c ≡ false → b ≢ 10) → NoFeed (pick c ([] ∷ ls) (onto b ls))
    go true h k = more none h
    go false none k = more (more (k refl) none) none
    go false (more p h) k = more (more (k refl) p) h

lines_free : {l : List ℕ} → Free l → lines l ≡ l ∷ []
unfolding lines onto
lines_free none = refl
lines_free (more {b = b} p h) = rw (ne_eqb b 10 p, lines_free h)

lines_next : {l : List ℕ} (t : List ℕ) → Free l → lines (l ++ (10 ∷ t)) ≡ l ∷ lines t
unfolding lines onto
lines_next t none = refl
lines_next t (more {b = b} p h) = rw (ne_eqb b 10 p, lines_next t h)

-- lines without 0A, joined by it and split at each
pub lines_feeds : {l : List ℕ} {x : List (List ℕ)} → NoFeed (l ∷ x) → lines (join_lines (l ∷ x)) ≡ l ∷ x
unfolding join_lines
lines_feeds (more p none) = lines_free p
lines_feeds {l} (more p (more {l = m} {x = x} q h)) = lines_next (join_lines (m ∷ x)) p ∙ ap (λ (y : List (List ℕ)). l ∷ y) (lines_feeds (more q h))
