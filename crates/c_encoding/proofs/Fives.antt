-- Five numbers for each node, from the list of sizes and that of the counts.
use mathlib.Core.Path.{◌≡◌, refl, ap, ◌∙◌}
use Prim.Native.Nat.{ℕ, suc, ◌+◌, ◌-◌, ◌*◌, ◌≤◌, ◌<◌}
use native.Mathlib.Omega.{arith}
use mathlib.Core.List.{List, [], ◌∷◌, ◌++◌}
use lib.ListN.{length, drop, get_or}
use lib.Seq.{sets, drop-drop, get_or-drop}
use Rattle.common.specs.Arrays.{padded}
use Rattle.settings.specs.declared.Settings.{Settings}
use Rattle.tree.specs.Tree.{Tree, nodes}
use Rattle.sizes.specs.Sizes.{Sizes, tree_sizes}
use Rattle.sizes.specs.Listed.{flat}
use Rattle.sizes.proofs.Within.{tree_sizes_length}
use Rattle.common.proofs.Stores.{sets_front}
use Rattle.sizes.proofs.Numbers.{flat_length}
use Rattle.collector.specs.declared.SizeRecord.{SizeRecord}
use Rattle.collector.specs.Below.{belows}
use Rattle.collector.specs.Records.{size_record_of, zipped, records_of}
use Rattle.collector.proofs.Zipped.{sizes_and_counts, records_length}
use Rattle.c_encoding.specs.Numbers.{size_numbers}
use Rattle.c_encoding.specs.Clauses.{fives}

-- the five of node e, of those from e on
pub five_step : (n e : ℕ) (out l m : List ℕ) → e < n
    → sets out (5 * e) (fives (n - e) (drop (4 * e) l) (drop e m))
    ≡ sets (sets out (5 * e) (get_or l (4 * e) 0 ∷ get_or l (4 * e + 1) 0 ∷ get_or l (4 * e + 2) 0 ∷ get_or l (4 * e + 3) 0 ∷ get_or m e 0 ∷ [])) (5 * (e + 1))
    (fives (n - (e + 1)) (drop (4 * (e + 1)) l) (drop (e + 1) m))
unfolding fives
five_step n e out l m h =
    let u : n - e ≡ suc (n - (e + 1)) = omega arith in
    let v : 5 * (e + 1) ≡ suc (suc (suc (suc (suc (5 * e))))) = omega arith in
    let w : 4 * (e + 1) ≡ 4 * e + 4 = omega arith in
    let x : 4 * e + 0 ≡ 4 * e = omega arith in
    let y : e + 0 ≡ e = omega arith in
    rw (
      u,
      v,
      w,
      get_or-drop (4 * e) l 0 0,
      get_or-drop (4 * e) l 1 0,
      get_or-drop (4 * e) l 2 0,
      get_or-drop (4 * e) l 3 0,
      get_or-drop e m 0 0,
      drop-drop 4 (4 * e) l,
      drop-drop 1 e m,
      x,
      y,
    )

fives_none : (n : ℕ) (l m : List ℕ) → n ≡ 0 → fives n l m ≡ []
unfolding fives
fives_none n l m e = rw e

pub five_done : (n e : ℕ) (out l m : List ℕ) → n ≤ e → sets out (5 * e) (fives (n - e) l m) ≡ out
five_done n e out l m h = let u : n - e ≡ 0 = omega arith in rw (fives_none (n - e) l m u)

-- ---- they are those of the records

fives_records : (zs : List Sizes) (bs l m : List ℕ) → length zs ≡ length bs
    → fives (length zs) (flat zs ++ l) (bs ++ m) ≡ size_numbers (zipped size_record_of zs bs)
unfolding fives flat size_numbers zipped
fives_records [] bs l m e = refl
fives_records (z ∷ zs) [] l m e = absurd (omega arith)
fives_records (z ∷ zs) (b ∷ bs) l m e =
    ap (λ (r : List ℕ). z.natural.width ∷ z.natural.height ∷ z.allotted.width ∷ z.allotted.height ∷ b ∷ r) (fives_records zs bs l m (omega arith))

numbers_length : (zs : List SizeRecord) → length (size_numbers zs) ≡ 5 * length zs
unfolding size_numbers
numbers_length [] = refl
numbers_length (z ∷ zs) = let h = numbers_length zs in omega arith

module _ (s : Settings) (t : Tree) (old l : List ℕ) (e : l ≡ sets old 0 (flat (tree_sizes s t))) (long : 4 * nodes t ≤ length old) where
  pub list_numbers : fives (nodes t) l (padded (belows t)) ≡ size_numbers (records_of s t)
  list_numbers =
      let n = tree_sizes_length s t in
      let f = flat_length (tree_sizes s t) in
      rw (e ∙ sets_front (flat (tree_sizes s t)) old (omega arith), ← n) (fives_records (tree_sizes s t) (belows t) _ _ (sizes_and_counts s t))

  pub list_length : length (fives (nodes t) l (padded (belows t))) ≡ 5 * nodes t
  list_length = rw (list_numbers, numbers_length (records_of s t), records_length s t)
