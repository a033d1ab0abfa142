-- What the reader's answer says of what is printed of a typed list.
use mathlib.Core.Path.{◌≡◌, refl, sym, ap, ◌∙◌}
use Prim.Native.Nat.{ℕ, ◌<◌}
use native.Mathlib.Omega.{arith}
use mathlib.Core.Bool.{Bool, true, false}
use mathlib.Core.List.{List}
use lib.ListN.{length, take, replicate}
use lib.Seq.{length-take-le, take_all}
use lib.Dec.{ltb}
use borrow.Author.Tests.{lt-ltb, ltb-true, ltb-false, ne_eqb, eq-eqb}
use Rattle.typed.specs.declared.Typed.{Typed}
use Rattle.typed.specs.Typed.{typed_of}
use Rattle.program.specs.Words.{fault_text}
use Rattle.program.specs.TypedProgram.{tree_text, outcome_text, typed_program_of}

module _ (text tree : List ℕ) (a : Typed) (e : record { answer = a; memory = tree } ≡ typed_of text (replicate 32768 0)) where
  pub typed_fault : (a.number ≡ 0 → ⊥) → typed_program_of text ≡ fault_text a.number a.line a.column
  unfolding typed_program_of
  typed_fault z = sym (ap outcome_text e) ∙ rw (ne_eqb a.number 0 z)

  pub typed_tree : a.number ≡ 0 → typed_program_of text ≡ tree_text (take a.count tree)
  unfolding typed_program_of
  typed_tree z = sym (ap outcome_text e) ∙ rw (eq-eqb a.number 0 z)

-- bytes past 131,073 change nothing
pub typed_front : (r : List ℕ) → 131073 ≡ length r → (b : List ℕ) → typed_program_of (take (length r) b) ≡ typed_program_of b
unfolding typed_program_of typed_of
typed_front r e b = go (ltb 131073 (length b)) refl
  where
    go : (c : Bool) → ltb 131073 (length b) ≡ c → typed_program_of (take (length r) b) ≡ typed_program_of b
    go true h =
        let k : 131073 < length b = ltb-true 131073 (length b) h in
        let j : length (take (length r) b) ≡ 131073 = length-take-le (length r) b (omega arith) ∙ sym e in
        let p : 131072 < length (take (length r) b) = omega arith in
        let q : 131072 < length b = omega arith in
        rw (lt-ltb 131072 (length (take (length r) b)) p, lt-ltb 131072 (length b) q)
    go false h = ap typed_program_of (take_all (length r) b (omega (arith, ltb-false 131073 (length b) h)))
