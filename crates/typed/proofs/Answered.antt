-- What `read_typed` answers.
use mathlib.Core.Path.{◌≡◌, refl, sym, ap, ◌∙◌}
use Prim.Native.Nat.{ℕ, zero, suc, ◌+◌, ◌-◌, ◌≤◌, ◌<◌}
use native.Mathlib.Omega.{arith}
use native.Mathlib.Nat.{zero-add}
use mathlib.Core.Bool.{Bool, true, false}
use mathlib.Core.List.{List, ◌++◌}
use lib.ListN.{length, take, drop}
use lib.Seq.{sets, sets-eq, length-take-le}
use lib.Dec.{ltb}
use borrow.Author.Tests.{lt-ltb, le-ltb}
use Rattle.std.proofs.lemmas.List.{get_or-take}
use Rattle.std.specs.Prelude.{Ok, Err}
use Rattle.common.specs.Choice.{pick}
use Rattle.common.specs.Refusals.{number_of, refusal_of}
use Rattle.common.specs.Outcome.{Outcome}
use Rattle.tree.specs.Accepted.{bytes_of}
use Rattle.typed.specs.Scan.{TypedNode, TypedScan, stopped, found, none_yet, scan_lines}
use Rattle.typed.specs.Clauses.{SpotsHeld, no_spot, NodesFound, list_fault, ScanTold, answer_of, flat_of, ReadyNodes}
use Rattle.typed.specs.Typed.{root_of, typed_refusal, typed_accepted, outcome_of, typed_of}
use Rattle.typed.specs.declared.Typed.{Typed}
use Rattle.typed.specs.declared.ListFault.{ListFault}
use Rattle.typed.specs.declared.line.NodeSpot.{NodeSpot}
use Rattle.typed.specs.declared.scan.ScanState.{ScanState}
use Rattle.typed.proofs.Faults.{fault_at}
use Rattle.typed.proofs.Built.{flat_is, flat_of_length}
use Rattle.typed.proofs.Listing.{Following, following_of, rooted}

abbrev outcome_with : Typed → List ℕ → Outcome Typed (List ℕ)
outcome_with a o = record { answer = a; memory = o }

pub typed_long : (t o : List ℕ) → 131072 < length t → outcome_with (record { number = 30; count = 0; line = 0; column = 0 }) o ≡ typed_of t o
unfolding typed_of
typed_long t o h = rw (lt-ltb _ _ h)

pub typed_scan : (t o : List ℕ) → length t ≤ 131072 → typed_of t o ≡ outcome_of (scan_lines t) o
unfolding typed_of
typed_scan t o h = rw (le-ltb _ _ h)

-- what is answered: 30, a fault of the scan, 8, or the tree's bytes
pub typed_cases : (t o : List ℕ) (P : Outcome Typed (List ℕ) → Type 0) → P (typed_refusal 30 0 0 o)
    → ((k l c : ℕ) → scan_lines t ≡ stopped k l c → P (typed_refusal k l c o)) → P (typed_refusal 8 0 0 o)
    → ((ns : List TypedNode) → scan_lines t ≡ found ns → P (typed_accepted (bytes_of (root_of ns)) o)) → P (typed_of t o)
unfolding typed_of
typed_cases t o P long stop short done = whole (ltb 131072 (length t))
  where
    lent : (ns : List TypedNode) → scan_lines t ≡ found ns → (b : Bool) → P (pick b (typed_refusal 8 0 0 o) (typed_accepted (bytes_of (root_of ns)) o))
    lent ns e true = short
    lent ns e false = done ns e

    scanned : (s : TypedScan) → scan_lines t ≡ s → P (outcome_of s o)
    scanned (stopped k l c) e = stop k l c e
    scanned (found ns) e = lent ns e (ltb (length o) (length (bytes_of (root_of ns))))

    whole : (b : Bool) → P (pick b (typed_refusal 30 0 0 o) (outcome_of (scan_lines t) o))
    whole true = long
    whole false = scanned (scan_lines t) refl

-- a typed list's fault and its refusal tell each other
number_kept : (k : ℕ) → 31 ≤ k → k ≤ 39 → number_of (refusal_of k) ≡ k
unfolding refusal_of
number_kept k h m =
    let e : k ≡ 31 + (k - 31) = omega arith in
    rw e (go (k - 31) (omega arith))
  where
    go : (j : ℕ) → j ≤ 8 → number_of (refusal_of (31 + j)) ≡ 31 + j
    go zero h = refl
    go (suc zero) h = refl
    go (suc (suc zero)) h = refl
    go (suc (suc (suc zero))) h = refl
    go (suc (suc (suc (suc zero)))) h = refl
    go (suc (suc (suc (suc (suc zero))))) h = refl
    go (suc (suc (suc (suc (suc (suc zero)))))) h = refl
    go (suc (suc (suc (suc (suc (suc (suc zero))))))) h = refl
    go (suc (suc (suc (suc (suc (suc (suc (suc zero)))))))) h = refl
    go (suc (suc (suc (suc (suc (suc (suc (suc (suc j))))))))) h = absurd (omega arith)

-- the nodes that were found
pub record GotNodes (t : List ℕ) (spots : List NodeSpot) (z : ScanState) : Type 0 where
  pub of : List TypedNode
  pub is : scan_lines t ≡ found of
  pub found_is : NodesFound t of spots z

module _ (t o : List ℕ) (small : length t ≤ 131072) (spots : List NodeSpot) where
  pub typed_stop : (f : ListFault) → ScanTold t (scan_lines t) spots (Err f) → outcome_with (answer_of (Err f)) o ≡ typed_of t o
  typed_stop f told = go (scan_lines t) refl told ∙ sym (typed_scan t o small)
    where
      go : (s : TypedScan) → scan_lines t ≡ s → ScanTold t s spots (Err f) → outcome_with (answer_of (Err f)) o ≡ outcome_of s o
      go (stopped k l c) e q =
          let z : f ≡ list_fault k l c = cc in
          let a = fault_at t k l c e in
          rw (z, number_kept k a.number_low a.number_high) refl
      go (found ns) e q = absurd q

  module _ (z : ScanState) where
    pub got_nodes : ScanTold t (scan_lines t) spots (Ok z) → GotNodes t spots z
    got_nodes told = go (scan_lines t) refl told
      where
        go : (s : TypedScan) → scan_lines t ≡ s → ScanTold t s spots (Ok z) → GotNodes t spots z
        go (stopped k l c) e q = cc
        go (found ns) e q = record { of = ns; is = e; found_is = q }

    module _ (g : GotNodes t spots z) where
      nodes_follow : Following none_yet g.of
      nodes_follow = following_of t g.of g.is

      root_bytes : flat_of g.of ≡ bytes_of (root_of g.of)
      root_bytes = flat_is g.of (rooted g.of nodes_follow) nodes_follow.chained

      root_long : length (bytes_of (root_of g.of)) ≡ z.total
      root_long = ap length (sym root_bytes) ∙ flat_of_length g.of ∙ sym g.found_is.total_is

      pub few_nodes : z.count ≤ 512
      few_nodes = omega (arith, g.found_is.count_is, nodes_follow.few)

      pub typed_short : length o < z.total → outcome_with (record { number = 8; count = 0; line = 0; column = 0 }) o ≡ typed_of t o
      typed_short h =
          sym (typed_scan t o small ∙ ap (λ (s : TypedScan). outcome_of s o) g.is
          ∙ (rw (lt-ltb (length o) (length (bytes_of (root_of g.of))) (omega (arith, root_long)))))

      held_take : SpotsHeld t g.of (take z.count spots)
      held_take i h = rw (get_or-take z.count spots i no_spot (omega (arith, g.found_is.count_is))) (g.found_is.held i h)

      pub nodes_ready : length spots ≡ 512 → (room : ℕ) → z.total ≤ room → ReadyNodes t (take z.count spots) z.total room g.of
      nodes_ready e room h = record {
        count_is = omega (arith, length-take-le z.count spots (omega (arith, few_nodes)), g.found_is.count_is);
        few = omega (arith, length-take-le z.count spots (omega (arith, few_nodes)), few_nodes);
        total_is = g.found_is.total_is;
        small = omega (arith, g.found_is.total_is, nodes_follow.short);
        fits = h;
        chained = nodes_follow.chained;
        held = held_take;
      }

      pub typed_done : z.total ≤ length o → (o' : List ℕ) → o' ≡ sets o 0 (flat_of g.of) → outcome_with (answer_of (Ok z.total)) o' ≡ typed_of t o
      typed_done h o' e =
          let b : List ℕ = bytes_of (root_of g.of) in
          let n : length (flat_of g.of) ≡ z.total = flat_of_length g.of ∙ sym g.found_is.total_is in
          let w : o' ≡ b ++ drop (length b) o =
          e ∙ sets-eq (flat_of g.of) o 0 (omega arith) ∙ (rw (zero-add (length (flat_of g.of)), root_bytes)) in
          ap (λ (m : ℕ). outcome_with (record { number = 0; count = m; line = 0; column = 0 }) o') (sym root_long)
          ∙ ap (outcome_with (record { number = 0; count = length b; line = 0; column = 0 })) w
          ∙ sym (typed_scan t o small ∙ ap (λ (s : TypedScan). outcome_of s o) g.is
          ∙ (rw (le-ltb (length o) (length (bytes_of (root_of g.of))) (omega (arith, root_long)))))
