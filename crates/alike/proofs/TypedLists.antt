-- Typed lists of alike trees: `read_typed` answers equally and writes bytes that are alike; the program's outputs agree outside the texts' own bytes.
use mathlib.Core.Path.{◌≡◌, refl, sym, ap, ◌∙◌}
use Prim.Native.Nat.{ℕ, ◌≤◌}
use native.Mathlib.Omega.{arith}
use mathlib.Core.List.{List, [], ◌++◌}
use native.Mathlib.Nat.{zero-add}
use lib.ListN.{length, drop}
use lib.Seq.{sets, sets-eq}
use lib.Dec.{ltb}
use Rattle.common.specs.Choice.{pick}
use Rattle.settings.specs.Defaults.{defaults}
use Rattle.tree.specs.Tree.{Tree}
use Rattle.tree.specs.Reading.{ReadOne, read_tree}
use Rattle.tree.specs.Accepted.{bytes_of}
use Rattle.tree.proofs.Sound.{tree_sound}
use Rattle.tree.proofs.Complete.{tree_bytes}
use Rattle.sizes.specs.Input.{given}
use Rattle.blank.specs.Alike.{Alike}
use Rattle.tree.proofs.Lengths.{is_bytes_in, bytes_length}
use Rattle.typed.specs.Promises.{type_of}
use Rattle.typed.specs.Typed.{typed_refusal, typed_accepted, typed_of}
use Rattle.typed.proofs.RoundTrip.{round_trip}
use Rattle.program.specs.Words.{fault_text}
use Rattle.program.specs.TypedProgram.{typed_program_of}
use Rattle.program.specs.Promises.{PrintsTyped}
use Rattle.alike.specs.Own.{SheetOwn}
use Rattle.alike.specs.Pairs as pairs
use Rattle.alike.specs.Pairs.{AlikeBytes}
use Rattle.alike.specs.Lent.{Lent, Agree, BothType}
use Rattle.alike.proofs.Readers.{length_alike}
use Rattle.alike.proofs.Pairs.{trees_alike}
use Rattle.alike.proofs.Lent.{lent_none, lent_front, both_pick}
use Rattle.alike.proofs.Printed.{ended_lengths, ended_agree}

-- ---- the reader

-- what is accepted is read back from its bytes
module _ (p : List ℕ) (t : Tree) (z n : ℕ) (e : read_tree p ≡ ReadOne.one t z n) where
  bytes_short : length (bytes_of t) ≤ 32768
  bytes_short = let g = tree_sound p t z n e in omega (arith, g.short, bytes_length t, is_bytes_in t p g.is, g.ends)

  type_is : (o : List ℕ) → typed_of (type_of t) o ≡ pick (ltb (length o) (length (bytes_of t))) (typed_refusal 8 0 0 o) (typed_accepted (bytes_of t) o)
  type_is o = let g = tree_sound p t z n e in round_trip t bytes_short g.few g.shallow g.texts o

  bytes_whole : pairs.TreeBytes (bytes_of t) t
  bytes_whole =
      let g = tree_sound p t z n e in
      let k = tree_sound (bytes_of t) t _ _ (tree_bytes t bytes_short g.few g.shallow g.texts) in
      record { is = k.is; ends = k.ends; texts = k.texts }

-- two accepted trees that are alike, as they are typed
pub read_typed_alike : (p q : List ℕ) (t u : Tree) (z n y m : ℕ) → read_tree p ≡ ReadOne.one t z n → read_tree q ≡ ReadOne.one u y m → Alike t u
    → (o r : List ℕ)
    → length o ≡ length r
    → BothType AlikeBytes o r (typed_of (type_of t) o) (typed_of (type_of u) r)
read_typed_alike p q t u z n y m e d h o r l =
    let b : AlikeBytes (bytes_of t) (bytes_of u) =
    trees_alike (record { tree = t; other = u; first = bytes_whole p t z n e; second = bytes_whole q u y m d; alike = h }) in
    let k : length (bytes_of u) ≡ length (bytes_of t) = sym (length_alike b) in
    rw (type_is p t z n e o, type_is q u y m d r, l, k)
    (both_pick AlikeBytes o r (ltb (length r) (length (bytes_of t))) (record { answer = refl; lent = lent_none AlikeBytes o r (pairs.same []) })
    (record { answer = refl; lent = lent_front AlikeBytes o r (length (bytes_of t)) (bytes_of t) (bytes_of u) refl k b }))

-- ---- the program

put_front : (v o : List ℕ) → length v ≤ length o → sets o 0 v ≡ v ++ drop (length v) o
put_front v o h = sets-eq v o 0 (omega arith) ∙ ap (λ (n : ℕ). v ++ drop n o) (zero-add (length v))

-- two lists without a fault, of alike trees
module _ {x y : List ℕ} (a : PrintsTyped x) (b : PrintsTyped y) (h : Alike a.root b.root) where
  pub typed_sheet_alike : length (typed_program_of x) ≡ length (typed_program_of y)
  typed_sheet_alike = rw (a.prints, b.prints) (ended_lengths defaults a.root b.root h (fault_text 6 0 0))

  pub typed_sheet_agrees : Agree (SheetOwn (given defaults a.root)) (typed_program_of x) (typed_program_of y)
  typed_sheet_agrees = rw (a.prints, b.prints) (ended_agree defaults a.root b.root h (fault_text 6 0 0))

  -- the buffers of `answer_typed`, by its contract
  pub typed_sheet_lent : (o r : List ℕ) → length (typed_program_of x) ≤ length o → length (typed_program_of x) ≤ length r
      → Lent (Agree (SheetOwn (given defaults a.root))) (length (typed_program_of x)) o r (sets o 0 (typed_program_of x)) (sets r 0 (typed_program_of y))
  typed_sheet_lent o r f g =
      let k : length (typed_program_of y) ≡ length (typed_program_of x) = sym typed_sheet_alike in
      rw (put_front (typed_program_of x) o f, put_front (typed_program_of y) r (omega arith), k)
      (lent_front (Agree (SheetOwn (given defaults a.root))) o r (length (typed_program_of x)) (typed_program_of x) (typed_program_of y) refl k
      typed_sheet_agrees)
