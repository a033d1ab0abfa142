-- A number that names a leaf: the leaves' numbers rise.
use mathlib.Core.Path.{◌≡◌, refl, ap}
use Prim.Native.Nat.{ℕ, zero, suc}
use native.Mathlib.Omega.{arith}
use mathlib.Core.Bool.{Bool, true, false}
use mathlib.Core.List.{List, [], ◌∷◌}
use Rattle.settings.specs.declared.Settings.{Settings}
use mathlib.Core.Option.{Option, some}
use lib.ListN.{get_elem?}
use lib.Dec.{eqb}
use borrow.Author.Tests.{eq-eqb, ne_eqb, eqb-true}
use Rattle.common.specs.Choice.{pick}
use Rattle.common.specs.Every.{Every}
use Rattle.tree.specs.Tree.{Tree}
use Rattle.common.proofs.Elems.{elem_none}
use Rattle.layout.specs.Walk.{Placed, leaves}
use Rattle.entries.specs.Clauses as entries
use Rattle.leaf.specs.Answers.{leaf_numbered}
use Rattle.layout.proofs.Entries.{Rising}
use Rattle.layout.proofs.Named.{leaves_rise, rising_from}
use Rattle.layout.specs.Promises.{LeafAt}

-- the entries' search is for the definition's leaf
pub numbered_is : (n : ℕ) (ls : List Placed) → entries.entry_leaf n ls ≡ leaf_numbered n ls
unfolding leaf_numbered entries.entry_leaf
numbered_is n [] = refl
numbered_is n (l ∷ ls) = ap (λ (x : Option Placed). pick (eqb l.at.node n) (some l) x) (numbered_is n ls)

-- a fact of every leaf is one of the leaf that is sought
numbered_case : (P : Placed → Type 0) (n : ℕ) (l m : Placed) (ls : List Placed) (b : Bool) → P l → Every P ls → (leaf_numbered n ls ≡ some m → P m)
    → pick b (some l) (leaf_numbered n ls) ≡ some m → P m
numbered_case P n l m ls true h k ih e = let z : l ≡ m = cc in rw z at h
numbered_case P n l m ls false h k ih e = ih e

pub numbered_every : (P : Placed → Type 0) (n : ℕ) (m : Placed) (ls : List Placed) → Every P ls → leaf_numbered n ls ≡ some m → P m
unfolding leaf_numbered
numbered_every P n m [] k e = let z : ◌≡◌ {A = ℕ} 0 1 = cc in absurd (omega arith)
numbered_every P n m (l ∷ ls) k e = numbered_case P n l m ls (eqb l.at.node n) k.0 k.1 (numbered_every P n m ls k.1) e

leaf_numbered_lem : (n b : ℕ) (ls : List Placed) (i : ℕ) (f : Placed) → Rising b ls → get_elem? ls i ≡ some f → f.at.node ≡ n → leaf_numbered n ls ≡ some f
unfolding leaf_numbered
leaf_numbered_lem n b [] i f r e h = elem_none i f e
leaf_numbered_lem n b (l ∷ ls) zero f r e h = let z : l ≡ f = cc in rw (z, eq-eqb f.at.node n h)
leaf_numbered_lem n b (l ∷ ls) (suc i) f r e h =
    rw (ne_eqb l.at.node n (λ z. omega (arith, rising_from (suc l.at.node) ls i f r.1 e))) (leaf_numbered_lem n (suc l.at.node) ls i f r.1 e h)

pub leaf_found : (s : Settings) (t : Tree) {n : ℕ} {f : Placed} → LeafAt s t n f → leaf_numbered n (leaves s t) ≡ some f
leaf_found s t {n} {f} p = leaf_numbered_lem n 0 (leaves s t) p.index f (leaves_rise s t) p.stands p.number

stands_case : {X : Type 0} (b : Bool) (n : ℕ) (l : Placed) (ls : List Placed) (f : Placed) → eqb l.at.node n ≡ b
    → pick b (some l) (leaf_numbered n ls) ≡ some f
    → ((i : ℕ) → get_elem? (l ∷ ls) i ≡ some f → f.at.node ≡ n → X) → (leaf_numbered n ls ≡ some f → X) → X
stands_case true n l ls f be e k h = let z : l ≡ f = cc in k 0 (ap some z) (rw (← z) (eqb-true l.at.node n be))
stands_case false n l ls f be e k h = h e

numbered_stands : {X : Type 0} (n : ℕ) (ls : List Placed) (f : Placed) → leaf_numbered n ls ≡ some f → ((i : ℕ) → get_elem? ls i ≡ some f → f.at.node ≡ n → X)
    → X
unfolding leaf_numbered
numbered_stands n [] f e k = let z : ◌≡◌ {A = ℕ} 0 1 = cc in absurd (omega arith)
numbered_stands n (l ∷ ls) f e k = stands_case (eqb l.at.node n) n l ls f refl e k (λ d. numbered_stands n ls f d (λ i m h. k (suc i) m h))

-- and back
pub found_leaf : (s : Settings) (t : Tree) (n : ℕ) (f : Placed) → leaf_numbered n (leaves s t) ≡ some f → LeafAt s t n f
found_leaf s t n f e = numbered_stands n (leaves s t) f e (λ i d h. record { index = i; stands = d; number = h })
