-- Lines joined by 0A: their length, their places, and that they are the lines written over bytes with a 0A behind each but the last.
use mathlib.Core.Path.{◌≡◌, refl, sym, ◌∙◌}
use Prim.Native.Nat.{ℕ, zero, suc, ◌+◌, ◌-◌, ◌*◌, ◌≤◌, ◌<◌}
use native.Mathlib.Omega.{arith}
use mathlib.Core.List.{List, [], ◌∷◌, ◌++◌, append_assoc}
use lib.ListN.{length, get_or, take, drop, replicate, length-append, length-drop, take-append-drop, get_or-append}
use lib.Seq.{sets, sets-eq, take_at, drop_at, drop-drop, length-take-le, get_or-append-add}
use Rattle.paint.specs.Clauses.{pasted, fed}
use Rattle.common.proofs.Stores.{sets_append, sets_sets}
use Rattle.paint.proofs.Pasted.{sets_pasted}
use Rattle.common.specs.Every.{Every}
use Rattle.text.specs.Text.{join_lines}
use Rattle.block.specs.Promises.{byte_at}
use Rattle.block.proofs.Dimensions.{Dims}

-- ---- their length and their places

feeds_longer : (l : List ℕ) (x : List (List ℕ)) {h w : ℕ} → Dims (l ∷ x) h w → length (join_lines (l ∷ x)) + 1 ≡ h * (w + 1)
unfolding join_lines
feeds_longer l [] {h} {w} d = let e : h ≡ 1 = sym d.lines in rw e (omega (arith, d.columns.0))
feeds_longer l (m ∷ x) {h} {w} d =
    let e : h ≡ suc (length (m ∷ x)) = sym d.lines in
    let ih = feeds_longer m x {h = length (m ∷ x)} {w = w} (record { lines = refl; columns = d.columns.1 }) in
    rw (e, length-append) (omega (arith, d.columns.0))

-- (w + 1) × h − 1 bytes
pub feeds_length : (x : List (List ℕ)) {h w : ℕ} → Dims x h w → 0 < h → length (join_lines x) + 1 ≡ h * (w + 1)
feeds_length [] d p = absurd (omega (arith, d.lines))
feeds_length (l ∷ x) d p = feeds_longer l x d

-- column j of line i
pub feeds_at : (x : List (List ℕ)) {h w : ℕ} → Dims x h w → (i j : ℕ) → i < h → j < w → get_or (join_lines x) (i * (w + 1) + j) 0 ≡ byte_at x i j
unfolding join_lines byte_at
feeds_at [] d i j p q = absurd (omega arith)
feeds_at (l ∷ []) {w = w} d zero j p q = let e : 0 * (w + 1) + j ≡ j = omega arith in rw e
feeds_at (l ∷ []) d (suc i) j p q = absurd (omega arith)
feeds_at (l ∷ m ∷ x) {w = w} d zero j p q =
    let e : 0 * (w + 1) + j ≡ j = omega arith in
    rw e (get_or-append l (10 ∷ join_lines (m ∷ x)) 0 j (omega arith))
feeds_at (l ∷ m ∷ x) {w = w} d (suc i) j p q =
    let e : suc i * (w + 1) + j ≡ length l + suc (i * (w + 1) + j) = omega arith in
    rw e
    (get_or-append-add l (10 ∷ join_lines (m ∷ x)) (suc (i * (w + 1) + j)) 0
    ∙ feeds_at (m ∷ x) {h = length (m ∷ x)} (record { lines = refl; columns = d.columns.1 }) i j (omega arith) q)

-- ---- over bytes with a 0A behind each line but the last

over : (pre a r l : List ℕ) → length a ≡ length l → sets (pre ++ (a ++ r)) (length pre) l ≡ pre ++ (l ++ r)
over pre a r l e =
    sets-eq l (pre ++ (a ++ r)) (length pre) (simp length-append (omega arith))
    ∙ rw (take_at pre (a ++ r) (length pre) refl, ← e, ← (append_assoc pre a r), drop_at (pre ++ a) r (length pre + length a) (length-append pre a))
    (append_assoc pre l r)

-- the first bytes of o
over_front : (pre o l : List ℕ) (n : ℕ) → length l ≡ n → n ≤ length o → sets (pre ++ o) (length pre) l ≡ pre ++ (l ++ drop n o)
over_front pre o l n e h =
    rw (take-append-drop n o) at (over pre (take n o) (drop n o) l (length-take-le n o h ∙ sym e))

-- a line and a 0A
line_fed : (pre o l : List ℕ) (w : ℕ) → length l ≡ w → w + 1 ≤ length o
    → sets (sets (pre ++ o) (length pre + w) (10 ∷ [])) (length pre) l ≡ pre ++ ((l ++ (10 ∷ [])) ++ drop (w + 1) o)
line_fed pre o l w e h =
    sets_sets l (10 ∷ []) (pre ++ o) (length pre) (length pre + w) (omega arith)
    ∙ rw (← e) (sym (sets_append l (10 ∷ []) (pre ++ o) (length pre)))
    ∙ over_front pre o (l ++ (10 ∷ [])) (w + 1) (simp length-append (omega arith)) h

-- a line, and the lines y after it, which joined are j
line_then : (pre o l j : List ℕ) (w : ℕ) (ends y : List (List ℕ)) → length l ≡ w → w + 1 + length j ≤ length o
    → ((q r : List ℕ) → length j ≤ length r → pasted (pasted (q ++ r) (length q + w) (w + 1) ends) (length q) (w + 1) y ≡ q ++ (j ++ drop (length j) r))
    → pasted (sets (pasted (sets (pre ++ o) (length pre + w) (10 ∷ [])) (length pre + w + (w + 1)) (w + 1) ends) (length pre) l) (length pre + (w + 1))
    (w + 1) y
    ≡ pre ++ ((l ++ (10 ∷ j)) ++ drop (length (l ++ (10 ∷ j))) o)
line_then pre o l j w ends y e h rest =
    let q = pre ++ (l ++ (10 ∷ [])) in
    let r = drop (w + 1) o in
    let n : length q ≡ length pre + (w + 1) = simp length-append (omega (arith, e)) in
    let n' : length pre + w + (w + 1) ≡ length q + w = omega (arith, n) in
    let first = sets_pasted ends l (sets (pre ++ o) (length pre + w) (10 ∷ [])) (length pre) (length pre + w + (w + 1)) (w + 1) (omega (arith, e)) in
    let fed_here : sets (sets (pre ++ o) (length pre + w) (10 ∷ [])) (length pre) l ≡ q ++ r =
    line_fed pre o l w e (omega arith) ∙ sym (append_assoc pre (l ++ (10 ∷ [])) r) in
    let all : w + 1 + length j ≡ length (l ++ (10 ∷ j)) = omega (arith, length-append l (10 ∷ j), e) in
    let past : drop (length j) r ≡ drop (length (l ++ (10 ∷ j))) o = drop-drop (length j) (w + 1) o ∙ rw all in
    rw (first, fed_here, n', ← n) (rest q r (rw length-drop (omega arith)) ∙ rw past (simp append_assoc))

fed_lines : (x : List (List ℕ)) (pre o : List ℕ) (w : ℕ) → Every (λ l. length l ≡ w) x → length (join_lines x) ≤ length o
    → pasted (pasted (pre ++ o) (length pre + w) (w + 1) (replicate (length x - 1) (10 ∷ []))) (length pre) (w + 1) x
    ≡ pre ++ (join_lines x ++ drop (length (join_lines x)) o)
unfolding pasted join_lines
fed_lines [] pre o w e h = refl
fed_lines (l ∷ []) pre o w e h = over_front pre o l (length l) refl h
fed_lines (l ∷ m ∷ x) pre o w e h =
    let n : length (l ∷ m ∷ x) - 1 ≡ suc (length x) = omega arith in
    let n' : length (m ∷ x) - 1 ≡ length x = omega arith in
    rw n
    (line_then pre o l (join_lines (m ∷ x)) w (replicate (length x) (10 ∷ [])) (m ∷ x) e.0
    (omega (arith, length-append l (10 ∷ join_lines (m ∷ x)), h, e.0)) (λ q r k. rw n' at (fed_lines (m ∷ x) q r w e.1 k)))

-- lines written where a 0A is behind each but the last: the lines joined by 0A, and what came after them
pub fed_pasted : (x : List (List ℕ)) {h w : ℕ} → Dims x h w → (o o₁ o₂ : List ℕ) → length (join_lines x) ≤ length o
    → o₁ ≡ fed w h o → o₂ ≡ pasted o₁ 0 (w + 1) x → o₂ ≡ join_lines x ++ drop (length (join_lines x)) o
unfolding fed
fed_pasted x {w = w} d o o₁ o₂ l e₁ e₂ =
    let z : 0 + w ≡ w = omega arith in
    e₂ ∙ rw (e₁, ← d.lines) (rw z at (fed_lines x [] o w d.columns l))
