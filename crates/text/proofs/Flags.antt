-- The flags raised in a word, the first one first.
use Rattle.std.proofs.Common.{◌≡◌, ℕ, suc, ◌+◌, ◌-◌, ◌*◌, ◌/◌, ◌%◌, ◌<◌, ◌≤◌, Bool, true, false, List, [], ◌∷◌, map, length, sym, refl, ap, ◌∙◌, ap₂, arith}
use Rattle.std.proofs.Common.{lit<}
use lib.ListN.{length-map}
use lib.Bits.{bit_and, and_block, and_self}
use lib.Count.{count_trailing_zeros}
use Rattle.common.specs.Choice.{pick}
use Rattle.text.specs.declared.seen.Seen.{Seen}
use Rattle.text.specs.Feeds.{is_feed}
use Rattle.text.specs.Clauses.{after_feed, after, Fine, flags}

-- where the first flag is raised, or past all; and the flags without that one
unfoldable pub first : List Bool → ℕ
first [] = 0
first (true ∷ t) = 0
first (false ∷ t) = suc (first t)

unfoldable less : List Bool → List Bool
less [] = []
less (true ∷ t) = false ∷ t
less (false ∷ t) = false ∷ less t

-- what is seen past flags, the first of which is at i
unfoldable pub past : List Bool → ℕ → Seen → Seen
past [] i r = r
past (b ∷ t) i r = past t (suc i) (pick b (after_feed i r) r)

past_after : (t : List ℕ) (i : ℕ) (r : Seen) → past (map is_feed t) i r ≡ after t i r
unfolding past after
past_after [] i r = refl
past_after (b ∷ t) i r = past_after t (suc i) (pick (is_feed b) (after_feed i r) r)

-- ---- no flag is raised

past_none : (fs : List Bool) (i : ℕ) (r : Seen) → flags fs ≡ 0 → past fs i r ≡ r
unfolding flags past
past_none [] i r h = refl
past_none (true ∷ t) i r h = absurd (omega arith)
past_none (false ∷ t) i r h = past_none t (suc i) r (omega arith)

-- ---- the first flag

past_first : (fs : List Bool) (i : ℕ) (r : Seen) → 0 < flags fs → past fs i r ≡ past (less fs) i (after_feed (i + first fs) r)
unfolding flags past first less
past_first [] i r h = absurd (omega arith)
past_first (true ∷ t) i r h = let e : i + 0 ≡ i = omega arith in rw e
past_first (false ∷ t) i r h = let e : i + suc (first t) ≡ suc i + first t = omega arith in rw e (past_first t (suc i) r (omega arith))

less_long : (fs : List Bool) → length (less fs) ≡ length fs
unfolding less
less_long [] = refl
less_long (true ∷ t) = refl
less_long (false ∷ t) = ap suc (less_long t)

pub first_low : (fs : List Bool) → 0 < flags fs → first fs < length fs
unfolding flags first
first_low [] h = absurd (omega arith)
first_low (true ∷ t) h = omega arith
first_low (false ∷ t) h = omega (arith, first_low t (omega arith))

less_later : (fs : List Bool) → 0 < flags fs → first fs < first (less fs)
unfolding flags first less
less_later [] h = absurd (omega arith)
less_later (true ∷ t) h = omega arith
less_later (false ∷ t) h = omega (arith, less_later t (omega arith))

-- one less, and both together: the first flag goes
less_and : (fs : List Bool) → 0 < flags fs → bit_and (flags fs) (flags fs - 1) ≡ flags (less fs)
unfolding flags less
less_and [] h = absurd (omega arith)
less_and (true ∷ t) h =
    let d : flags t * 256 + 128 - 1 ≡ flags t * 256 + 127 = omega arith in
    ap (λ (x : ℕ). bit_and (flags t * 256 + 128) x) d ∙ and_block 8 (flags t) (flags t) 128 127 (lit< tt) (lit< tt)
    ∙ ap (λ (x : ℕ). x * 256 + 0) (and_self (flags t))
less_and (false ∷ t) h =
    let d : flags t * 256 + 0 - 1 ≡ (flags t - 1) * 256 + 255 = omega arith in
    ap (λ (x : ℕ). bit_and (flags t * 256 + 0) x) d ∙ and_block 8 (flags t) (flags t - 1) 0 255 (lit< tt) (lit< tt)
    ∙ ap (λ (x : ℕ). x * 256 + 0) (less_and t (omega arith))

-- ---- the zeros below the first flag

zeros_on : (k n : ℕ) → count_trailing_zeros (suc k) (n * 2) ≡ suc (count_trailing_zeros k n)
unfolding count_trailing_zeros
zeros_on k n =
    let m : n * 2 % 2 ≡ 0 = omega arith in
    let d : n * 2 / 2 ≡ n = omega arith in
    rw (m, d)

zeros_odd : (k n : ℕ) → count_trailing_zeros (suc k) (n * 2 + 1) ≡ 0
unfolding count_trailing_zeros
zeros_odd k n = let m : (n * 2 + 1) % 2 ≡ 1 = omega arith in rw m

eight_on : (k j n : ℕ) → j ≡ 8 + k → count_trailing_zeros j (n * 256) ≡ 8 + count_trailing_zeros k n
eight_on k j n s =
    let e : n * 256 ≡ n * 2 * 2 * 2 * 2 * 2 * 2 * 2 * 2 = omega arith in
    let c : j ≡ suc (suc (suc (suc (suc (suc (suc (suc k))))))) = omega arith in
    rw (c, e, zeros_on, zeros_on, zeros_on, zeros_on, zeros_on, zeros_on, zeros_on, zeros_on) (omega arith)

seven_on : (k j n : ℕ) → j ≡ 8 + k → count_trailing_zeros j (n * 256 + 128) ≡ 7
seven_on k j n s =
    let e : n * 256 + 128 ≡ (n * 2 + 1) * 2 * 2 * 2 * 2 * 2 * 2 * 2 = omega arith in
    let c : j ≡ suc (suc (suc (suc (suc (suc (suc (suc k))))))) = omega arith in
    rw (c, e, zeros_on, zeros_on, zeros_on, zeros_on, zeros_on, zeros_on, zeros_on, zeros_odd)

pub zeros_first : (fs : List Bool) → count_trailing_zeros (length fs * 8) (flags fs) / 8 ≡ first fs
unfolding flags first count_trailing_zeros
zeros_first [] = refl
zeros_first (true ∷ t) = ap (λ (n : ℕ). n / 8) (seven_on (length t * 8) (suc (length t) * 8) (flags t) (omega arith))
zeros_first (false ∷ t) =
    let e : flags t * 256 + 0 ≡ flags t * 256 = omega arith in
    let z : count_trailing_zeros (suc (length t) * 8) (flags t * 256 + 0) ≡ 8 + count_trailing_zeros (length t * 8) (flags t) =
    rw e (eight_on (length t * 8) (suc (length t) * 8) (flags t) (omega arith)) in
    omega (arith, z, zeros_first t)

-- ---- the flags that are left of a word's bytes, which start at `at`

pub record FlagsLeft (bs : List ℕ) (at : ℕ) (before r : Seen) (left : ℕ) : Type 0 where
  pub fs : List Bool
  pub eight : length fs ≡ 8
  pub is : left ≡ flags fs
  pub few : r.feeds ≤ r.start
  pub start : r.start ≤ at + first fs
  pub same : past fs at r ≡ after bs at before

pub left_all : (bs : List ℕ) (at left : ℕ) (before : Seen) → length bs ≡ 8 → left ≡ flags (map is_feed bs) → Fine at before → FlagsLeft bs at before before left
left_all bs at left before l e f =
    record { fs = map is_feed bs; eight = length-map bs is_feed ∙ l; is = e; few = f.few; start = omega (arith, f.before); same = past_after bs at before }

module _ (bs : List ℕ) (at left : ℕ) (before r : Seen) (p : FlagsLeft bs at before r left) where
  pub flags_left_none : left ≡ 0 → r ≡ after bs at before
  flags_left_none z = sym (past_none p.fs at r (sym p.is ∙ z)) ∙ p.same

  some : 0 < left → 0 < flags p.fs
  some h = rw p.is at h

  place : count_trailing_zeros 64 left / 8 ≡ first p.fs
  place = rw p.is (rw p.eight at (zeros_first p.fs))

  pub left_fine : 0 < left → Fine (at + count_trailing_zeros 64 left / 8) r
  left_fine h = rw place (record { few = p.few; before = p.start })

  pub left_low : 0 < left → count_trailing_zeros 64 left / 8 < 8
  left_low h = omega (arith, place, first_low p.fs (some h), p.eight)

  pub flags_left_on : 0 < left → (q : Seen) → q ≡ after_feed (at + count_trailing_zeros 64 left / 8) r → FlagsLeft bs at before q (bit_and left (left - 1))
  flags_left_on h q e =
      let c : at + count_trailing_zeros 64 left / 8 ≡ at + first p.fs = omega (arith, place) in
      rw (e, c)
      (record {
        fs = less p.fs;
        eight = less_long p.fs ∙ p.eight;
        is = ap₂ (λ (x y : ℕ). bit_and x (y - 1)) p.is p.is ∙ less_and p.fs (some h);
        few = omega (arith, p.few, p.start);
        start = omega (arith, less_later p.fs (some h));
        same = sym (past_first p.fs at r (some h)) ∙ p.same;
      })
