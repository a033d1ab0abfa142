-- The sizes that were measured and the counts, as five numbers for each node.
use mathlib.Core.Path.{◌≡◌, refl, ap, ◌∙◌}
use Prim.Native.Nat.{ℕ, ◌*◌, ◌≤◌, ◌<◌}
use native.Mathlib.Omega.{arith}
use mathlib.Core.List.{List}
use lib.ListN.{length}
use lib.Seq.{sets}
use Rattle.common.specs.Arrays.{padded}
use Rattle.settings.specs.declared.Settings.{Settings}
use Rattle.tree.specs.Tree.{Tree, nodes}
use Rattle.sizes.specs.declared.Measured.{Measured}
use Rattle.sizes.specs.Sizes.{tree_sizes}
use Rattle.sizes.specs.Listed.{flat}
use Rattle.sizes.specs.Input.{Input, input_of}
use Rattle.sizes.specs.Clauses.{measured_of, size_list_of}
use Rattle.sizes.proofs.MeasuredInput.{Accepts, accepts, refuses}
use Rattle.collector.specs.Below.{belows}
use Rattle.collector.proofs.Recorded.{branch_ready, ready_tree}
use Rattle.c_encoding.specs.Words.{packed}
use Rattle.c_encoding.specs.Numbers.{refusal, offered, sizes_given}
use Rattle.c_encoding.specs.Clauses.{fives}
use Rattle.c_encoding.proofs.WrittenNumbers.{Same, same_refusal, same_written, offered_short, offered_long}
use Rattle.c_encoding.proofs.Fives.{list_numbers, list_length}

module _ (s : Settings) (t : Tree) (n : ℕ) (b old l : List ℕ) (ne : n ≡ nodes t) (f : b ≡ padded (belows t)) (e : l ≡ sets old 0 (flat (tree_sizes s t)))
    (h : 4 * nodes t ≤ length old) where
  many : length (fives n l b) ≡ 5 * n
  many = rw (ne, f) (list_length s t old l e h)

  offers : (o : List ℕ) → sizes_given (Input.given s t) o ≡ offered n (fives n l b) o
  unfolding sizes_given
  offers o = rw (ne, f, list_numbers s t old l e h)

refused_is : (k : ℕ) (o : List ℕ) → sizes_given (Input.refused k) o ≡ refusal k o
unfolding sizes_given
refused_is k o = refl

module _ (bs ts o : List ℕ) (m : Measured) (old l : List ℕ) (e : m ≡ measured_of (input_of bs ts)) (le : l ≡ size_list_of (input_of bs ts) old) where
  pub sizes_refused : (word : ℕ) → (m.number ≡ 0 → ⊥) → word ≡ packed m.number 0 → Same word o (sizes_given (input_of bs ts) o)
  sizes_refused word h w = same_refusal _ (ap (λ (i : Input). sizes_given i o) (refuses bs ts m e h) ∙ refused_is m.number o) w

  module _ (h : m.number ≡ 0) (size : length old ≡ 2048) (b : List ℕ) (f : b ≡ padded (belows (branch_ready bs ts m old l e le h).tree)) where
    known : Accepts bs ts m old l
    known = accepts bs ts m old l e le h

    counts : b ≡ padded (belows known.tree)
    unfolding known
    counts = rw (ready_tree bs ts m old l e le h) at f

    long : length (fives m.count l b) ≡ 5 * m.count
    long = many m.settings known.tree m.count b old l known.count counts known.list (omega (arith, known.few))

    given_is : sizes_given (input_of bs ts) o ≡ offered m.count (fives m.count l b) o
    given_is = ap (λ (i : Input). sizes_given i o) known.input
        ∙ offers m.settings known.tree m.count b old l known.count counts known.list (omega (arith, known.few)) o

    pub sizes_written : (word : ℕ) (p : List ℕ) → 5 * m.count ≤ length o → word ≡ packed 0 m.count → p ≡ sets o 0 (fives m.count l b)
        → Same word p (sizes_given (input_of bs ts) o)
    sizes_written word p k w x =
        same_written m.count (fives m.count l b) o p (given_is ∙ offered_long _ _ o (omega (arith, long))) (omega (arith, long)) w x

  pub sizes_short : (m.number ≡ 0) → length old ≡ 2048 → (word : ℕ) → length o < 5 * m.count → word ≡ packed 8 0 → Same word o (sizes_given (input_of bs ts) o)
  sizes_short h size word k w = same_refusal 8 (given_is h size _ refl ∙ offered_short _ _ o (omega (arith, long h size _ refl))) w
