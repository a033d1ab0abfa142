-- Where a fault is reported: in a line of the list, or at its end.
use mathlib.Core.Path.{◌≡◌, refl}
use mathlib.Core.Logic.{◌⊎◌, inl, inr}
use Prim.Native.Nat.{ℕ, suc, ◌+◌, ◌*◌, ◌-◌, ◌≤◌, ◌<◌}
use native.Mathlib.Omega.{arith}
use mathlib.Core.Bool.{Bool, true, false}
use mathlib.Core.List.{List, [], ◌∷◌}
use lib.ListN.{length, get_or}
use lib.Dec.{eqb, ltb, leb}
use borrow.Author.Tests.{eqb-true, eqb-false}
use Rattle.common.specs.Choice.{pick, both}
use Rattle.text.specs.Text.{lines}
use Rattle.text.proofs.Measured.{text_height_lem, lines_height}
use Rattle.typed.specs.declared.scan.ScanState.{ScanState}
use Rattle.typed.specs.Line.{Item, own_text, OneLine, skip, fault, node, without_return, one_line_of}
use Rattle.typed.specs.Scan.{TypedNode, TypedScan, stopped, found, adding, place_fault, next_of, scan_from, none_yet, scan_lines}
use Rattle.typed.specs.Promises.{FaultAt}
use Rattle.typed.proofs.OneLine.{LineFaultAt, LineIn, line_in_bytes}
use Rattle.typed.proofs.Scanned.{scan_skip, scan_fault, scan_node, scan_refused}

-- ---- the numbers of a node's faults

abbrev PlaceNumber : ℕ → Type 0
PlaceNumber k = (k ≡ 0 → ⊥) → (34 ≤ k) × (k ≤ 38)

number_pick : (b : Bool) (j k : ℕ) → PlaceNumber j → PlaceNumber k → PlaceNumber (pick b j k)
number_pick true j k p q = p
number_pick false j k p q = q

place_number : (z : ScanState) (d n : ℕ) → PlaceNumber (place_fault z d n)
unfolding place_fault
place_number z d n =
    number_pick (both (ltb 0 z.count) (eqb d 0)) 34 _ (λ e. (omega arith, omega arith))
    (number_pick (ltb z.may d) 35 _ (λ e. (omega arith, omega arith))
    (number_pick (leb 16 d) 36 _ (λ e. (omega arith, omega arith))
    (number_pick (leb 512 z.count) 37 _ (λ e. (omega arith, omega arith))
    (number_pick (ltb 32768 (z.total + 3 + n)) 38 0 (λ e. (omega arith, omega arith)) (λ e. absurd (e refl))))))

-- ---- the lines xs, after l lines

-- 39, at the last of them
record StoppedEnd (l : ℕ) (xs : List (List ℕ)) (k m c : ℕ) : Type 0 where
  number_is : k ≡ 39
  line_is : m ≡ l + length xs
  column_is : c ≡ 1

-- fault k in line m, which is one of them, at column c
record StoppedIn (l : ℕ) (xs : List (List ℕ)) (k m c : ℕ) : Type 0 where
  behind : l < m
  within : m ≤ l + length xs
  at : LineFaultAt (length (without_return (get_or xs (m - suc l) []))) k c

abbrev StopIn : ℕ → List (List ℕ) → TypedScan → Type 0
StopIn l xs (stopped k m c) = StoppedEnd l xs k m c ⊎ StoppedIn l xs k m c
StopIn l xs (found ns) = Unit

stop_adding : (l : ℕ) (xs : List (List ℕ)) (n : TypedNode) (s : TypedScan) → StopIn l xs s → StopIn l xs (adding n s)
stop_adding l xs n (stopped k m c) h = h
stop_adding l xs n (found ns) h = tt

stop_later : (l : ℕ) (x : List ℕ) (xs : List (List ℕ)) (s : TypedScan) → StopIn (suc l) xs s → StopIn l (x ∷ xs) s
stop_later l x xs (stopped k m c) (inl h) = inl (record { number_is = h.number_is; line_is = omega (arith, h.line_is); column_is = h.column_is })
stop_later l x xs (stopped k m c) (inr h) =
    let e : m - suc l ≡ suc (m - suc (suc l)) = omega (arith, h.behind) in
    inr (record { behind = omega (arith, h.behind); within = omega (arith, h.within); at = rw e h.at })
stop_later l x xs (found ns) h = tt

stop_here : (l : ℕ) (x : List ℕ) (xs : List (List ℕ)) (k c : ℕ) → LineFaultAt (length (without_return x)) k c → StopIn l (x ∷ xs) (stopped k (suc l) c)
stop_here l x xs k c h =
    let e : suc l - suc l ≡ 0 = omega arith in
    inr (record { behind = omega arith; within = omega arith; at = rw e h })

abbrev StopClaim : List (List ℕ) → Type 0
StopClaim xs = (l : ℕ) (z : ScanState) → StopIn l xs (scan_from l z xs)

stop_end : StopClaim []
unfolding scan_from
stop_end l z = go (eqb z.count 0)
  where
    go : (b : Bool) → StopIn l [] (pick b (stopped 39 l 1) (found []))
    go true = inl (record { number_is = refl; line_is = omega arith; column_is = refl })
    go false = tt

stop_more : (x : List ℕ) (xs : List (List ℕ)) → StopClaim xs → StopClaim (x ∷ xs)
stop_more x xs ih l z = go (one_line_of x) refl (line_in_bytes x)
  where
    at_node : (d : ℕ) (item : Item) → one_line_of x ≡ node d item → 2 * d < length (without_return x) → (b : Bool)
        → eqb (place_fault z d (length (own_text item))) 0 ≡ b → StopIn l (x ∷ xs) (scan_from l z (x ∷ xs))
    at_node d item q u true b =
        let n : TypedNode = record { level = d; item = item } in
        rw (scan_node l z x xs d item q (eqb-true (place_fault z d (length (own_text item))) 0 b))
        (stop_adding l (x ∷ xs) n (scan_from (suc l) (next_of z d item) xs)
        (stop_later l x xs (scan_from (suc l) (next_of z d item) xs) (ih (suc l) (next_of z d item))))
    at_node d item q u false b =
        let e = eqb-false (place_fault z d (length (own_text item))) 0 b in
        let p = place_number z d (length (own_text item)) e in
        rw (scan_refused l z x xs d item q e)
        (stop_here l x xs (place_fault z d (length (own_text item))) (2 * d + 1)
        (record { low = omega (arith, p.0); high = p.1; from_1 = omega arith; within = omega arith; on_byte = λ v. omega arith }))

    go : (o : OneLine) → one_line_of x ≡ o → LineIn (length (without_return x)) o → StopIn l (x ∷ xs) (scan_from l z (x ∷ xs))
    go skip q u = rw (scan_skip l z x xs q) (stop_later l x xs (scan_from (suc l) z xs) (ih (suc l) z))
    go (fault k c) q u = rw (scan_fault l z x xs k c q) (stop_here l x xs k c u)
    go (node d item) q u = at_node d item q u (eqb (place_fault z d (length (own_text item))) 0) refl

all_stops : (xs : List (List ℕ)) → StopClaim xs
all_stops [] = stop_end
all_stops (x ∷ xs) = stop_more x xs (all_stops xs)

-- ---- the whole list

one_line_low : (t : List ℕ) → 0 < length (lines t)
one_line_low t = omega (arith, lines_height t, text_height_lem t)

pub fault_at : (t : List ℕ) (k l c : ℕ) → scan_lines t ≡ stopped k l c → FaultAt t (record { number = k; count = 0; line = l; column = c })
fault_at t k l c e = go (rw e at (all_stops (lines t) 0 none_yet))
  where
    go : StopIn 0 (lines t) (stopped k l c) → FaultAt t (record { number = k; count = 0; line = l; column = c })
    go (inl h) = record {
      number_low = omega (arith, h.number_is);
      number_high = omega (arith, h.number_is);
      line_low = omega (arith, h.line_is, one_line_low t);
      line_high = omega (arith, h.line_is);
      column_low = omega (arith, h.column_is);
      column_high = omega (arith, h.column_is);
      on_byte = λ a b. absurd (b h.number_is);
    }
    go (inr h) = record {
      number_low = h.at.low;
      number_high = omega (arith, h.at.high);
      line_low = h.behind;
      line_high = omega (arith, h.within);
      column_low = h.at.from_1;
      column_high = h.at.within;
      on_byte = λ a b. h.at.on_byte a;
    }
