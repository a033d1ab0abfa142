-- What the nodes of an accepted typed list are like.
use mathlib.Core.Path.{◌≡◌, refl, sym, ◌∙◌}
use Prim.Native.Nat.{ℕ, suc, ◌+◌, ◌≤◌, ◌<◌}
use native.Mathlib.Omega.{arith}
use mathlib.Core.Bool.{Bool, true, false}
use mathlib.Core.List.{List, [], ◌∷◌}
use lib.ListN.{length}
use lib.Dec.{eqb}
use borrow.Author.Tests.{eqb-true, eqb-false}
use Rattle.common.specs.Choice.{pick}
use Rattle.text.specs.Text.{lines}
use Rattle.typed.specs.declared.scan.ScanState.{ScanState}
use Rattle.typed.specs.Line.{Item, own_text, OneLine, skip, fault, node, one_line_of}
use Rattle.typed.specs.Scan.{TypedNode, TypedScan, stopped, found, adding, place_fault, next_of, scan_from, none_yet, scan_lines}
use Rattle.typed.specs.Clauses.{total_of, Starts, Chained}
use Rattle.typed.proofs.Scanned.{scan_skip, scan_fault, scan_node, scan_refused, place_fits, NodeFits}
use Rattle.typed.proofs.Built.{Deeper, Rooted}

abbrev Later : List TypedNode → Type 0
Later [] = Unit
Later (n ∷ ns) = Deeper ns

-- the nodes that follow those so far
pub record Following (z : ScanState) (ns : List TypedNode) : Type 0 where
  pub starts : Starts z.may ns
  pub chained : Chained ns
  pub deeper : 0 < z.count → Deeper ns
  pub later : Later ns
  pub short : z.total + total_of ns ≤ 32768
  pub few : z.count + length ns ≤ 512
  pub some : z.count ≡ 0 → 0 < length ns

abbrev Claim : List (List ℕ) → Type 0
Claim xs = (l : ℕ) (z : ScanState) (ns : List TypedNode) → z.count ≤ 512 → z.total ≤ 32768 → scan_from l z xs ≡ found ns → Following z ns

pub never : (k l c : ℕ) (ns : List TypedNode) → stopped k l c ≡ found ns → ⊥
never k l c ns e = let z : ◌≡◌ {A = ℕ} 0 1 = cc in omega arith

pub record Added (n : TypedNode) (s : TypedScan) (ns : List TypedNode) : Type 0 where
  pub rest : List TypedNode
  pub is : s ≡ found rest
  pub whole : ns ≡ n ∷ rest

pub added : (n : TypedNode) (s : TypedScan) (ns : List TypedNode) → adding n s ≡ found ns → Added n s ns
added n (stopped k l c) ns e = absurd (never k l c ns e)
added n (found ms) ns e = record { rest = ms; is = refl; whole = cc }

claim_end : Claim []
unfolding scan_from Chained total_of
claim_end l z ns a b e = go (eqb z.count 0) refl e
  where
    go : (c : Bool) → eqb z.count 0 ≡ c → pick c (stopped 39 l 1) (found []) ≡ found ns → Following z ns
    go true c e = absurd (never 39 l 1 ns e)
    go false c e =
        let z₀ : ns ≡ [] = cc in
        rw z₀ (record {
          starts = tt;
          chained = tt;
          deeper = λ h. tt;
          later = tt;
          short = omega arith;
          few = omega arith;
          some = λ h. absurd (eqb-false z.count 0 c h);
        })

node_more : (z : ScanState) (d : ℕ) (item : Item) (ms :
    List TypedNode) → NodeFits z d (length (own_text item)) → Following (next_of z d item) ms → Following z (record { level = d; item = item } ∷ ms)
unfolding Chained total_of
node_more z d item ms f i = record {
  starts = f.allowed;
  chained = (f.shallow, i.starts, i.chained);
  deeper = λ h. let nz : d ≡ 0 → ⊥ = λ e. omega (arith, f.root e) in (omega arith, i.deeper (omega arith));
  later = i.deeper (omega arith);
  short = omega (arith, i.short);
  few = omega (arith, i.few);
  some = λ h. omega arith;
}

line_more : (x : List ℕ) (xs : List (List ℕ)) → Claim xs → Claim (x ∷ xs)
line_more x xs ih l z ns a b e = go (one_line_of x) refl
  where
    at_node : (d : ℕ) (item : Item) → one_line_of x ≡ node d item → (c : Bool) → eqb (place_fault z d (length (own_text item))) 0 ≡ c → Following z ns
    at_node d item q true c =
        let p = eqb-true (place_fault z d (length (own_text item))) 0 c in
        let f = place_fits z d (length (own_text item)) p in
        let w = added (record { level = d; item = item }) (scan_from (suc l) (next_of z d item) xs) ns (sym (scan_node l z x xs d item q p) ∙ e) in
        rw w.whole (node_more z d item w.rest f (ih (suc l) (next_of z d item) w.rest (omega (arith, f.few)) (omega (arith, f.short)) w.is))
    at_node d item q false c = absurd (never _ _ _ ns (sym (scan_refused l z x xs d item q (eqb-false (place_fault z d (length (own_text item))) 0 c)) ∙ e))

    go : (o : OneLine) → one_line_of x ≡ o → Following z ns
    go skip q = ih (suc l) z ns a b (sym (scan_skip l z x xs q) ∙ e)
    go (fault k c) q = absurd (never k (suc l) c ns (sym (scan_fault l z x xs k c q) ∙ e))
    go (node d item) q = at_node d item q (eqb (place_fault z d (length (own_text item))) 0) refl

all_follow : (xs : List (List ℕ)) → Claim xs
all_follow [] = claim_end
all_follow (x ∷ xs) = line_more x xs (all_follow xs)

pub following_of : (t : List ℕ) (ns : List TypedNode) → scan_lines t ≡ found ns → Following none_yet ns
following_of t ns e = all_follow (lines t) 0 none_yet ns (omega arith) (omega arith) e

pub rooted : (ns : List TypedNode) → Following none_yet ns → Rooted ns
rooted [] i = absurd (omega (arith, i.some refl))
rooted (n ∷ ns) i = record { first = n; others = ns; are = refl; at_root = omega (arith, i.starts); deeper = i.later }
