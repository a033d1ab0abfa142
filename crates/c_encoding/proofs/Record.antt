-- A leaf's record as 1039 numbers.
use mathlib.Core.Path.{◌≡◌, refl, sym, ap, ◌∙◌}
use mathlib.Core.Bool.{Bool, true, false}
use mathlib.Core.Option.{Option, some, none}
use Prim.Native.Nat.{ℕ, ◌+◌, ◌≤◌, ◌<◌}
use native.Mathlib.Omega.{arith}
use mathlib.Core.List.{List, ◌++◌}
use lib.ListN.{length, length-append}
use lib.Seq.{sets}
use borrow.Author.Tests.{eq-eqb, ne_eqb}
use Rattle.common.specs.Choice.{pick}
use Rattle.settings.specs.declared.Settings.{Settings}
use Rattle.tree.specs.Tree.{Tree}
use Rattle.sizes.specs.Sizes.{tree_sizes}
use Rattle.sizes.specs.Input.{Input, input_of}
use Rattle.sizes.proofs.Nodes.{subtrees}
use Rattle.sizes.proofs.Within.{tree_sizes_length}
use Rattle.sizes.proofs.Limits.{read_limits, sizes_small}
use Rattle.common.proofs.Elems.{elem_in}
use Rattle.common.specs.Every.{Every}
use Rattle.common.proofs.Every.{every_map, every_and}
use Rattle.leaf.specs.declared.LeafRecord.{LeafRecord}
use Rattle.layout.specs.Walk.{Placed, leaves}
use Rattle.frame.specs.Frame.{too_large}
use Rattle.leaf.specs.Answers.{leaf_numbered, no_leaf_record, record_found, leaf_record_of}
use Rattle.sizes.proofs.MeasuredInput.{Takes, takes, input_refusal}
use Rattle.layout.proofs.Entries.{ListedLeaf, numbered_listed}
use Rattle.layout.proofs.Named.{leaves_numbered}
use Rattle.layout.proofs.Pairs.{PairCounts, leaves_count}
use Rattle.leaf.proofs.LeafNumbers.{numbered_every}
use Rattle.c_encoding.specs.Words.{packed}
use Rattle.c_encoding.specs.Numbers.{refusal, offered, list_numbers, front_numbers, record_numbers, record_given}
use Rattle.c_encoding.specs.Clauses.{SmallRecord}
use Rattle.common.proofs.Copies.{stored_on}
use Rattle.c_encoding.proofs.WrittenNumbers.{Same, same_refusal, same_written, offered_short, offered_long}
use Rattle.c_encoding.proofs.Counts.{list_few}

pub record_stored : (r : LeafRecord) (o : List ℕ) {f o₁ o₂ o₃ : List ℕ} → f ≡ front_numbers r.node r.size r.flags r.pair → o₁ ≡ sets o 0 f
    → o₂ ≡ sets o₁ 13 (list_numbers r.horizontal)
    → length r.horizontal.pieces ≡ 512 → o₃ ≡ sets o₂ 526 (list_numbers r.vertical) → o₃ ≡ sets o 0 (record_numbers r)
record_stored r o {f} {o₁} ef e g long h =
    let x = stored_on (list_numbers r.horizontal) (list_numbers r.vertical) o₁ 13 g (omega arith) h in
    let many : 0 + length f ≡ 13 = rw ef in
    rw ef at (stored_on f (list_numbers r.horizontal ++ list_numbers r.vertical) o 0 e many x)

-- ---- the numbers of a record fit 16 bits

abbrev SmallLeaf : Placed → Type 0
SmallLeaf l = (l.at.node < 65536) × (l.at.size.width < 65536) × (l.at.size.height < 65536) × PairCounts l

leaves_small : (ts : List ℕ) (s : Settings) (t : Tree) → Takes ts s t → Every SmallLeaf (leaves s t)
leaves_small ts s t k =
    every_map (λ l. ListedLeaf s 0 (subtrees t) (tree_sizes s t) l × PairCounts l) SmallLeaf
    (λ l both.
    let e = both.0 in
    let y = sizes_small s t (read_limits s k.ranges k.got) _ _ e.sizes_are in
    let n = elem_in (tree_sizes s t) e.place _ e.sizes_are in
    (omega (arith, e.number, tree_sizes_length s t, k.got.few), y.width, y.height, both.1))
    (leaves s t) (every_and _ PairCounts (leaves s t) (numbered_listed (leaves_numbered s t)) (leaves_count s t))

module _ (r : LeafRecord) (z : r.number ≡ 0) (h : length r.horizontal.pieces ≡ 512) (v : length r.vertical.pieces ≡ 512) where
  refused_record : (k : ℕ) → 1 ≤ k → r ≡ no_leaf_record k → SmallRecord r
  refused_record k p e = let n : k ≡ 0 = sym (ap (λ (y : LeafRecord). y.number) e) ∙ z in absurd (omega arith)

  found_plain : (x : Option Placed) → ((l : Placed) → x ≡ some l → SmallLeaf l) → r ≡ record_found x → SmallRecord r
  found_plain none small e = refused_record 9 (omega arith) e
  found_plain (some l) small e =
      let y = small l refl in
      let across = list_few _ l.at.horizontal (ap (λ (y : LeafRecord). y.horizontal) e) h in
      let down = list_few _ l.at.vertical (ap (λ (y : LeafRecord). y.vertical) e) v in
      record {
        node = rw (ap (λ (y : LeafRecord). y.node) e) y.0;
        wide = rw (ap (λ (y : LeafRecord). y.size.width) e) y.1;
        tall = rw (ap (λ (y : LeafRecord). y.size.height) e) y.2;
        horizontal = across;
        vertical = down;
        pair =
            omega (
              arith,
              y.3,
              across,
              down,
              ap (λ (y : LeafRecord). y.pair.taken) e,
              ap (λ (y : LeafRecord). y.horizontal.count) e,
              ap (λ (y : LeafRecord). y.vertical.count) e,
            );
      }

  picked_plain : (b : Bool) (x : Option Placed) → ((l : Placed) → x ≡ some l → SmallLeaf l) → r ≡ pick b (no_leaf_record 6) (record_found x) → SmallRecord r
  picked_plain true x small e = refused_record 6 (omega arith) e
  picked_plain false x small e = found_plain x small e

  plain_case : (bs ts : List ℕ) (n : ℕ) (i : Input) → input_of bs ts ≡ i → r ≡ leaf_record_of i n → SmallRecord r
  unfolding leaf_record_of
  plain_case bs ts n (Input.refused k) ie e = refused_record k (input_refusal bs ts k ie).0 e
  plain_case bs ts n (Input.given s t) ie e =
      picked_plain (too_large s t) (leaf_numbered n (leaves s t))
      (λ l x. numbered_every SmallLeaf n l (leaves s t) (leaves_small ts s t (takes bs ts s t ie)) x) e

  pub record_plain : (bs ts : List ℕ) (n : ℕ) → r ≡ leaf_record_of (input_of bs ts) n → SmallRecord r
  record_plain bs ts n e = plain_case bs ts n (input_of bs ts) refl e

-- ---- what is answered and written

record_is : (r : LeafRecord) (o : List ℕ) → r.number ≡ 0 → record_given r o ≡ offered 1039 (record_numbers r) o
unfolding record_given
record_is r o z = ap (λ (b : Bool). pick b (offered 1039 (record_numbers r) o) (refusal r.number o)) (eq-eqb _ _ z)

module _ (o : List ℕ) (r q : LeafRecord) (e : r ≡ q) where
  pub record_refused : (word : ℕ) → (r.number ≡ 0 → ⊥) → word ≡ packed r.number 0 → Same word o (record_given q o)
  unfolding record_given
  record_refused word h w = same_refusal r.number (rw (← e) (simp (ne_eqb _ _ h))) w

  module _ (z : r.number ≡ 0) (h : length r.horizontal.pieces ≡ 512) (v : length r.vertical.pieces ≡ 512) where
    many : length (record_numbers r) ≡ 1039
    many = rw (length-append (list_numbers r.horizontal), h, v)

    offers : record_given q o ≡ offered 1039 (record_numbers r) o
    offers = rw (← e) (record_is r o z)

    pub record_short : (word : ℕ) → length o < 1039 → word ≡ packed 8 0 → Same word o (record_given q o)
    record_short word k w = same_refusal 8 (offers ∙ offered_short 1039 _ o (omega (arith, many))) w

    pub record_written : (word : ℕ) (p : List ℕ) → 1039 ≤ length o → word ≡ packed 0 1039 → p ≡ sets o 0 (record_numbers r) → Same word p (record_given q o)
    record_written word p k w x = same_written 1039 (record_numbers r) o p (offers ∙ offered_long 1039 _ o (omega (arith, many))) (omega (arith, many)) w x
