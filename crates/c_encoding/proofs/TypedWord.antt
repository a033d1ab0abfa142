-- What the header decodes from a typed list's word is the answer's number, count, line and column.
use mathlib.Core.Path.{◌≡◌, refl}
use Prim.Native.Nat.{ℕ, ◌+◌, ◌*◌, ◌≤◌, ◌<◌, ◌/◌, ◌%◌}
use native.Mathlib.Omega.{arith}
use mathlib.Core.List.{List}
use lib.ListN.{length}
use borrow.Author.Tests.{lt-ltb, le-ltb, ne_eqb}
use Rattle.common.specs.Outcome.{Outcome}
use Rattle.tree.specs.Accepted.{bytes_of}
use Rattle.tree.proofs.Sound.{tree_sound}
use Rattle.typed.specs.declared.Typed.{Typed}
use Rattle.typed.specs.Typed.{root_of, typed_of}
use Rattle.typed.proofs.Answered.{typed_cases}
use Rattle.typed.proofs.Faults.{fault_at}
use Rattle.typed.proofs.AcceptedLists.{typed_meant}
use Rattle.typed.proofs.FaultBounds.{fault_small}
use Rattle.c_encoding.specs.Words.{packed, typed_word}
use Rattle.c_encoding.specs.Promises.{WordTells}

-- ---- the parts of one number

module _ (l k c : ℕ) (hl : l < 16777216) (hk : k < 256) (hc : c < 4294967296) (w : ℕ) (e : w ≡ l % 16777216 * 1099511627776 + packed k c) where
  whole : w ≡ l * 1099511627776 + k * 4294967296 + c
  whole = omega arith

  upper : w / 4294967296 ≡ l * 256 + k
  upper = omega (arith, whole)

  number_part : w / 4294967296 % 256 ≡ k
  number_part = rw upper (omega arith)

  line_part : w / 1099511627776 ≡ l
  line_part = omega (arith, whole)

  lower : w % 4294967296 ≡ c
  lower = omega (arith, whole)

-- ---- the two kinds of answers

tells_refusal : (k l c : ℕ) → 0 < k → k < 256 → l < 16777216 → c < 4294967296 → WordTells (typed_word (record { number = k; count = 0; line = l; column = c }))
    (record { number = k; count = 0; line = l; column = c })
tells_refusal k l c some hk hl hc =
    let w : ℕ = l % 16777216 * 1099511627776 + packed k c in
    let large = le-ltb w 4294967296 (omega arith) in
    rw (ne_eqb k 0 (omega arith)) (record {
      number_is = number_part l k c hl hk hc w refl;
      count_is = rw large refl;
      line_is = line_part l k c hl hk hc w refl;
      column_is = rw large (lower l k c hl hk hc w refl);
    })

tells_count : (n : ℕ) → n < 4294967296 → WordTells (typed_word (record { number = 0; count = n; line = 0; column = 0 }))
    (record { number = 0; count = n; line = 0; column = 0 })
tells_count n h =
    let w : ℕ = 0 % 16777216 * 1099511627776 + packed 0 n in
    let small = lt-ltb w 4294967296 (omega arith) in
    record {
      number_is = number_part 0 0 n (omega arith) (omega arith) h w refl;
      count_is = rw small (omega arith);
      line_is = line_part 0 0 n (omega arith) (omega arith) h w refl;
      column_is = rw small refl;
    }

-- ---- every typed list

abbrev Told : Outcome Typed (List ℕ) → Type 0
Told x = (x.answer.line ≤ 131073) × (x.answer.column ≤ 131073) → WordTells (typed_word x.answer) x.answer

pub typed_word_lem : (t o : List ℕ) → WordTells (typed_word (typed_of t o).answer) (typed_of t o).answer
typed_word_lem t o =
    typed_cases t o Told
    (λ h. tells_refusal 30 0 0 (omega arith) (omega arith) (omega arith) (omega arith))
    (λ k l c e h. let f = fault_at t k l c e in
    tells_refusal k l c (omega (arith, f.number_low)) (omega (arith, f.number_high)) (omega (arith, h.0)) (omega (arith, h.1)))
    (λ h. tells_refusal 8 0 0 (omega arith) (omega arith) (omega arith) (omega arith))
    (λ ns e h. tells_count (length (bytes_of (root_of ns)))
    (omega (arith, (tree_sound (bytes_of (root_of ns)) (root_of ns) _ _ (typed_meant t ns e).read).short)))
    (fault_small t o)
