-- The tries, and the answer, in the code's terms.
use mathlib.Core.Path.{◌≡◌, refl, sym, ap, ◌∙◌}
use Prim.Native.Nat.{ℕ, zero, suc, ◌+◌, ◌-◌, ◌≤◌, ◌<◌, min}
use native.Mathlib.Omega.{arith}
use mathlib.Core.List.{List, ◌++◌}
use lib.ListN.{length, drop}
use lib.Dec.{ltb}
use borrow.Author.Tests.{lt-ltb, le-ltb, le-leb, lt-leb}
use Rattle.common.specs.Choice.{pick}
use Rattle.common.specs.Sums.{greatest}
use Rattle.settings.specs.declared.Settings.{Settings}
use Rattle.sizes.specs.declared.Size.{Size}
use Rattle.fold.specs.declared.Tried.{Tried}
use Rattle.fold.specs.declared.run.Run.{Run}
use Rattle.fold.specs.Fold.{columns, fitting, tallest, try, try_down, find, missed}
use Rattle.fold.specs.Answers.{no_folds, counts, finds}
use Rattle.fold.specs.Clauses.{Cells, Runs, ColumnsRoom, Range, Narrow}
use Rattle.fold.specs.Promises.{Least}
use Rattle.fold.proofs.Columns.{tallest_low}
use Rattle.fold.proofs.Least.{fold_least}

-- ---- one try

module _ (s : Settings) (w : ℕ) (zs : List Size) (t : ℕ) (r : Run) (k : Runs s t zs r) (f : Tried) where
  pub try_fits : r.closed + r.width ≤ w → record { best = t; tries = f.tries + 1 } ≡ try s w zs t f
  unfolding try fitting
  try_fits h = rw (← k.row, le-leb (r.closed + r.width) w h)

  pub try_fails : w < r.closed + r.width → record { best = f.best; tries = f.tries + 1 } ≡ try s w zs t f
  unfolding try fitting
  try_fails h = rw (← k.row, lt-leb (r.closed + r.width) w h)

pub try_counts : (s : Settings) (w : ℕ) (zs : List Size) (t : ℕ) (f : Tried) → (try s w zs t f).tries ≡ f.tries + 1
unfolding try
try_counts s w zs t f = refl

-- ---- the loop over the heights

module _ (s : Settings) (w : ℕ) (zs : List Size) where
  down_next : (b k : ℕ) (f : Tried) → 0 < b → 0 < k → try_down s w zs b k f ≡ try_down s w zs (b - 1) (k - 1) (try s w zs (tallest zs + (k - 1)) f)
  unfolding try_down
  down_next zero k f h l = absurd (omega arith)
  down_next (suc b) zero f h l = absurd (omega arith)
  down_next (suc b) (suc k) f h l = let e₁ : suc b - 1 ≡ b = omega arith in let e₂ : suc k - 1 ≡ k = omega arith in rw (e₁, e₂)

  down_over : (b k : ℕ) (f : Tried) → min b k ≡ 0 → try_down s w zs b k f ≡ f
  unfolding try_down
  down_over zero k f h = refl
  down_over (suc b) zero f h = refl
  down_over (suc b) (suc k) f h = absurd (omega arith)

tallest_is : (ws hs : List ℕ) (g : ℕ) (q : Cells ws hs g) (least : ℕ) → least ≡ greatest hs → least ≡ tallest q.cells
unfolding tallest
tallest_is ws hs g q least e = e ∙ ap greatest q.heights

module _ (ws hs : List ℕ) (g w budget one least : ℕ) (q : Range ws hs g one least) where
  least_is : least ≡ tallest q.known.cells
  least_is = tallest_is ws hs g q.known least q.least_is

  pub range_low : least ≤ one
  range_low = omega (arith, least_is, q.one_is, tallest_low q.known.settings q.known.cells)

  -- the heights from t up are tried
  abbrev Down : ℕ → Tried → Type 0
  Down t f = try_down q.known.settings w q.known.cells (budget - (one - t)) (t - least) f ≡ find q.known.settings w q.known.cells budget

  pub begin_down : (f : Tried) → f ≡ record { best = one; tries = 0 } → Down one f
  unfolding find
  begin_down f e = let e₁ : budget - (one - one) ≡ budget = omega arith in rw (e, e₁, q.one_is, least_is)

  pub turn_down : (t : ℕ) (f : Tried) → one - min budget (one - least) < t → t ≤ one → Down t f
      → (r : Tried) → r ≡ try q.known.settings w q.known.cells (t - 1) f → Down (t - 1) r
  turn_down t f h u k r e =
      let e₁ : budget - (one - (t - 1)) ≡ budget - (one - t) - 1 = omega arith in
      let e₂ : t - 1 - least ≡ t - least - 1 = omega arith in
      let e₃ : t - 1 ≡ tallest q.known.cells + (t - least - 1) = omega (arith, least_is, range_low) in
      rw (e₁, e₂, e, e₃)
      (sym (down_next q.known.settings w q.known.cells (budget - (one - t)) (t - least) f (omega arith) (omega (arith, range_low))) ∙ k)

  -- after i tries, where no try or no height is left
  pub over_down : (i : ℕ) (f : Tried) → min budget (one - least) ≤ i
      → try_down q.known.settings w q.known.cells (budget - i) (one - least - i) f ≡ find q.known.settings w q.known.cells budget
      → f ≡ find q.known.settings w q.known.cells budget
  over_down i f h k = sym (down_over q.known.settings w q.known.cells (budget - i) (one - least - i) f (omega arith)) ∙ k

  -- the same by the heights
  pub over_height : (t : ℕ) (f : Tried) → t ≤ one - min budget (one - least) → Down t f → f ≡ find q.known.settings w q.known.cells budget
  over_height t f h k = let e : t - least ≡ one - least - (one - t) = omega (arith, range_low) in over_down (one - t) f (omega arith) (rw e at k)

-- ---- the answer

module _ (ws hs : List ℕ) (g w budget one : ℕ) (q : Narrow ws hs g w one) (least : ℕ) (le : least ≡ greatest hs) where
  pub try_range : Range ws hs g one least
  try_range = record { known = q.known; one_is = q.one_is; least_is = le }

  module _ (f : Tried) (tried_by : (p : Range ws hs g one least) → f ≡ find p.known.settings w p.known.cells budget) where
    fe : f ≡ find q.known.settings w q.known.cells budget
    unfolding try_range
    fe = tried_by try_range

    best_low : Least q.known.settings w q.known.cells budget f
    best_low = rw fe (fold_least q.known.settings w q.known.cells budget q.known.some (rw q.known.widths at q.narrow))

    pub best_above : least ≤ f.best
    best_above = omega (arith, best_low.low, tallest_is ws hs g q.known least le)

    missed_is : (m : ℕ) → m ≡ pick (ltb f.tries (one - least)) (f.best - least) 0 → m ≡ missed q.known.settings q.known.cells f
    unfolding missed
    missed_is m e = e ∙ rw (q.one_is, tallest_is ws hs g q.known least le)

    pub missed_asks : (least ≤ one) × (least ≤ f.best)
    missed_asks = (range_low ws hs g w budget one least try_range, best_above)

    module _ (r : Run) (k : Runs q.known.settings f.best q.known.cells r) (l : List ℕ) where
      pub answer_short : length l < r.columns + 1
          → no_folds 8 l ≡ finds q.known.settings q.known.cells l (find q.known.settings w q.known.cells budget)
      answer_short h = rw (← fe, ← k.count, lt-ltb (length l) (r.columns + 1) h)

      pub answer_room : r.columns + 1 ≤ length l → ColumnsRoom ws hs g f.best (length l)
      answer_room h = record { known = q.known; enough = rw (← k.count) h }

      pub answer_done : r.columns + 1 ≤ length l → (l₁ : List ℕ)
          → ((p : ColumnsRoom ws hs g f.best (length l))
          → l₁ ≡ counts (columns p.known.settings f.best p.known.cells)
          ++ drop (length (columns p.known.settings f.best p.known.cells)) l)
          → (m : ℕ) → m ≡ pick (ltb f.tries (one - least)) (f.best - least) 0
          → record { answer = record { number = 0; columns = r.columns + 1; height = f.best; tries = f.tries; miss = m }; memory = l₁ }
          ≡ finds q.known.settings q.known.cells l (find q.known.settings w q.known.cells budget)
      unfolding answer_room
      answer_done h l₁ e m me = rw (← fe, e (answer_room h), missed_is m me, ← k.count, le-ltb (length l) (r.columns + 1) h)
