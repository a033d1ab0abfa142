-- The Cells that are named: what name_cells has seen of the numbers.
use mathlib.Core.Path.{◌≡◌, refl, sym, ap, ◌∙◌}
use Prim.Native.Nat.{ℕ, suc, ◌+◌, ◌-◌, ◌≤◌, ◌<◌}
use native.Mathlib.Omega.{arith}
use native.Mathlib.Numerals.{add-one}
use mathlib.Core.Bool.{Bool, true, false, not}
use mathlib.Core.List.{List, [], ◌∷◌, ◌++◌}
use lib.ListN.{length, get_or, set, take, drop, replicate, length-set, length-replicate, get_or-replicate, get_or-eq_default, get_or-map}
use lib.Seq.{drop-cons, drop-length, take-length, take-suc, get_or-set_same, get_or-set_other}
use lib.Dec.{eqb}
use borrow.Author.Tests.{eqb-true, eqb-false, ne_eqb}
use Rattle.common.specs.Choice.{pick}
use Rattle.blank.specs.Blank.{one_of, dots_for, all_cells}
use Rattle.common.specs.Arrays.{padded}
use Rattle.common.proofs.Padded.{padded_at}
use Rattle.blank.specs.Clauses.{is_set, cell_marks, is_dotted, DotsAre}

-- ---- one number after the other

one_last : (n k : ℕ) (ks : List ℕ) → one_of n (ks ++ (k ∷ [])) ≡ pick (eqb k n) true (one_of n ks)
unfolding one_of
one_last n k [] = refl
one_last n k (j ∷ ks) = rw (one_last n k ks) (swap (eqb j n) (eqb k n) (one_of n ks))
  where
    swap : (a b c : Bool) → pick a true (pick b true c) ≡ pick b true (pick a true c)
    swap true true c = refl
    swap true false c = refl
    swap false true c = refl
    swap false false c = refl

-- all nodes where there is no number
abbrev so_far : List ℕ → ℕ → ℕ → Bool
so_far ns j n = pick (eqb (length ns) 0) true (one_of n (take j ns))

all_of_them : (ns : List ℕ) (n : ℕ) → so_far ns (length ns) n ≡ dots_for ns n
unfolding dots_for
all_of_them [] n = refl
all_of_them (i ∷ is) n = rw (ne_eqb (suc (length is)) 0 (λ z. omega arith)) (ap (one_of n) (take-length (i ∷ is)))

-- the numbers before the j-th are Cells', and are marked
pub record Naming (cs ns : List ℕ) (ds : List Bool) (j : ℕ) : Type 0 where
  pub few : j ≤ length ns
  pub long : length ds ≡ 512
  pub cells : all_cells cs ns ≡ all_cells cs (drop j ns)
  pub dots : (n : ℕ) → n < 512 → is_dotted ds n ≡ so_far ns j n

pub name_none : (cs ns : List ℕ) (b : Bool) → b ≡ eqb (length ns) 0 → Naming cs ns (replicate 512 b) 0
unfolding one_of
name_none cs ns b e = record {
  few = omega arith;
  long = length-replicate {A = Bool} 512 b;
  cells = refl;
  dots = λ n l. get_or-replicate 512 n b false l ∙ e ∙ either (eqb (length ns) 0);
}
  where
    either : (c : Bool) → c ≡ pick c true false
    either true = refl
    either false = refl

-- the mark of the node n
mark_is : (cells : List Bool) (cs : List ℕ) → cells ≡ cell_marks cs → (n : ℕ) → get_or cells n false ≡ is_set (get_or cs n 0)
mark_is cells cs e n = rw e (get_or-map is_set (padded cs) n 0 ∙ ap is_set (padded_at cs (512 - length cs) n))

module _ (cs ns : List ℕ) (ds : List Bool) (j : ℕ) (k : Naming cs ns ds j) (cells : List Bool) (e : cells ≡ cell_marks cs) where
  module _ (h : j < length ns) where
    next : all_cells cs ns ≡ pick (eqb (get_or cs (get_or ns j 0) 0) 0) false (all_cells cs (drop (suc j) ns))
    unfolding all_cells
    next = k.cells ∙ rw (drop-cons ns j 0 h)

    -- no Cell has that number
    pub name_wrong : get_or cells (get_or ns j 0) false ≡ false → all_cells cs ns ≡ false
    name_wrong z = go (eqb (get_or cs (get_or ns j 0) 0) 0) next (sym (mark_is cells cs e (get_or ns j 0)) ∙ z)
      where
        go : (c : Bool) → all_cells cs ns ≡ pick c false (all_cells cs (drop (suc j) ns)) → not c ≡ false → all_cells cs ns ≡ false
        go true p q = p
        go false p q = absurd (cc)

    pub name_past : length cells ≡ 512 → 512 ≤ get_or ns j 0 → all_cells cs ns ≡ false
    name_past l p = name_wrong (get_or-eq_default cells false {n = get_or ns j 0} (omega arith))

    some_numbers : eqb (length ns) 0 ≡ false
    some_numbers = ne_eqb (length ns) 0 (λ z. omega arith)

    dotted : (n : ℕ) → n < 512 → (i : ℕ) → (b : Bool) → eqb n i ≡ b → is_dotted (set ds n true) i ≡ pick b true (is_dotted ds i)
    dotted n l i true e = rw (← eqb-true n i e, get_or-set_same ds n true false (omega (arith, k.long)))
    dotted n l i false e = rw (get_or-set_other ds n i true false (λ z. eqb-false n i e (sym z)))

    pub name_more : get_or ns j 0 < 512 → get_or cells (get_or ns j 0) false ≡ true → Naming cs ns (set ds (get_or ns j 0) true) (j + 1)
    name_more l z = record {
      few = omega arith;
      long = length-set ds (get_or ns j 0) true ∙ k.long;
      cells = rw (add-one j) (go (eqb (get_or cs (get_or ns j 0) 0) 0) next (sym (mark_is cells cs e (get_or ns j 0)) ∙ z));
      dots = λ i m.
          let d = k.dots i m in
          rw (some_numbers, add-one j, take-suc ns j 0 h, one_last i (get_or ns j 0) (take j ns), ← (rw some_numbers at d))
          (dotted (get_or ns j 0) l i (eqb (get_or ns j 0) i) refl);
    }
      where
        go : (c : Bool) → all_cells cs ns ≡ pick c false (all_cells cs (drop (suc j) ns)) → not c ≡ true → all_cells cs ns ≡ all_cells cs (drop (suc j) ns)
        go true p q = absurd (cc)
        go false p q = p

  pub names_cells : length ns ≤ j → (all_cells cs ns ≡ true) × DotsAre ns ds
  unfolding all_cells
  names_cells h =
      let i : j ≡ length ns = omega (arith, k.few) in
      (k.cells ∙ rw (i, drop-length ns), λ n l. k.dots n l ∙ rw i (all_of_them ns n))
