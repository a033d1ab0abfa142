-- Sheet and block, split into lines at each 0A: they are the lines that were joined, since no line holds a 0A.
use mathlib.Core.Path.{◌≡◌}
use mathlib.Core.Logic.{◌≢◌}
use Prim.Native.Nat.{ℕ, zero, suc, ◌<◌}
use native.Mathlib.Omega.{arith}
use mathlib.Core.Bool.{Bool, true, false}
use mathlib.Core.List.{List, [], ◌∷◌, ◌++◌, map}
use lib.ListN.{length, get_or, replicate, get_or-eq_default}
use Rattle.common.specs.Choice.{pick}
use Rattle.common.proofs.Either.{either}
use Rattle.settings.specs.declared.Settings.{Settings}
use Rattle.settings.specs.declared.Margin.{Margin}
use Rattle.settings.specs.Promises.{Bounded, Printable, Ranges}
use Rattle.tree.specs.Tree.{Tree}
use Rattle.text.specs.Text.{lines, join_lines}
use Rattle.text.proofs.JoinedLines.{Free, NoFeed, no_feed_append, lines_feeds}
use Rattle.sizes.proofs.Heights.{natural_height}
use Rattle.block.specs.Block.{block}
use Rattle.block.proofs.NoFeed.{NoFeedMarks, no_feed_paired, block_no_feed}
use Rattle.layout.specs.Walk.{Placed, leaf_of, walk, root, inside_w, inside_h}
use Rattle.layout.proofs.Laid.{Laid, one, side, under, root_laid}
use Rattle.sheet.specs.Sheet.{between, margined, sheet_lines, sheet}
use Rattle.sheet.specs.Promises.{inside_sheet}
use Rattle.sheet.proofs.Content.{sheet_dims}
use Rattle.sheet.proofs.Bytes.{lines_dims, some_lines}

-- ---- marks and fills are no 0A

printable : {n : ℕ} (l : List ℕ) → Printable n l → (i : ℕ) → get_or l i 0 ≢ 10
printable {n} l p i =
    either n i
    (λ h e. omega (arith, get_or-eq_default l 0 {n = i} (omega (arith, p.many))))
    (λ h e. omega (arith, p.each i h))

-- with lines and without
marked : {n : ℕ} (b : Bool) (l : List ℕ) → Bounded n (pick b 32 0) (pick b 126 0) l → (i : ℕ) → get_or l i 0 ≢ 10
marked true l p i = printable l p i
marked {n} false l p i =
    either n i
    (λ h e. omega (arith, get_or-eq_default l 0 {n = i} (omega (arith, p.many))))
    (λ h e. omega (arith, p.each i h))

plain : (s : Settings) → Ranges s → NoFeedMarks s
plain s r = record { marks = marked s.lines s.marks r.marks; fills = printable s.fills r.fills }

-- ---- contents

laid_no_feed : {s : Settings} {l k h w : ℕ} {fs : List Placed} {x : List (List ℕ)} → NoFeedMarks s → Laid s l k h w fs x → NoFeed x
laid_no_feed {s} p (one f fits) = block_no_feed s p (leaf_of f)
laid_no_feed p (side q r) = no_feed_paired (laid_no_feed p q) (laid_no_feed p r)
laid_no_feed p (under q r) = no_feed_append (laid_no_feed p q) (laid_no_feed p r)

lines_back : (x : List (List ℕ)) → NoFeed x → 0 < length x → lines (join_lines x) ≡ x
lines_back [] n h = absurd (omega arith)
lines_back (l ∷ x) n h = lines_feeds n

-- the lines between the margins
free_mapped : (f : List ℕ → List ℕ) → ((l : List ℕ) → Free l → Free (f l)) → {x : List (List ℕ)} → NoFeed x → NoFeed (map f x)
free_mapped f g NoFeed.none = NoFeed.none
free_mapped f g (NoFeed.more {l = l} p h) = NoFeed.more (g l p) (free_mapped f g h)

free_lines : (n k b : ℕ) → b ≢ 10 → NoFeed (replicate n (replicate k b))
free_lines n k b h = go n
  where
    bytes : (k : ℕ) → Free (replicate k b)
    bytes zero = Free.none
    bytes (suc k) = Free.more h (bytes k)

    go : (n : ℕ) → NoFeed (replicate n (replicate k b))
    go zero = NoFeed.none
    go (suc n) = NoFeed.more (bytes k) (go n)

free_bytes : (k b : ℕ) → b ≢ 10 → Free (replicate k b)
free_bytes zero b h = Free.none
free_bytes (suc k) b h = Free.more h (free_bytes k b h)

free_join : {l k : List ℕ} → Free l → Free k → Free (l ++ k)
free_join Free.none q = q
free_join (Free.more p h) q = Free.more p (free_join h q)

margined_no_feed : (m : Margin) → ((i : ℕ) → get_or m.fills i 0 ≢ 10) → (w : ℕ) {x : List (List ℕ)} → NoFeed x → NoFeed (margined m w x)
unfolding margined
margined_no_feed m f w h =
    free_mapped (between m) (λ l p. between_free l p)
    (no_feed_append (free_lines m.top w _ (f 2)) (no_feed_append h (free_lines m.bottom w _ (f 3))))
  where
    between_free : (l : List ℕ) → Free l → Free (between m l)
    between_free l p = free_join (free_bytes m.left _ (f 0)) (free_join p (free_bytes m.right _ (f 1)))

pub sheet_split : (s : Settings) (t : Tree) → Ranges s → lines (sheet s t) ≡ sheet_lines s t
unfolding sheet sheet_lines
sheet_split s t r =
    lines_back _ (margined_no_feed s.margin (printable s.margin.fills r.margin_fills) (inside_w s t) (laid_no_feed (plain s r) (root_laid s t)))
    (omega (arith, (lines_dims s t).lines, some_lines s t))

pub inside_split : (s : Settings) (t : Tree) → Ranges s → lines (inside_sheet s t) ≡ (walk s t (root s t)).content
unfolding inside_sheet inside_h
inside_split s t r = lines_back _ (laid_no_feed (plain s r) (root_laid s t)) (omega (arith, (sheet_dims s t).lines, natural_height s t))

pub block_split : (s : Settings) (f : Placed) → Ranges s → 0 < length (block s (leaf_of f)) → lines (join_lines (block s (leaf_of f))) ≡ block s (leaf_of f)
block_split s f r h = lines_back _ (block_no_feed s (plain s r) (leaf_of f)) h
