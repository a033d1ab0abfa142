-- What the sheet printer's answer, in an output with room for every sheet, says of what a program prints.
use mathlib.Core.Path.{◌≡◌, refl, sym, ap, ◌∙◌}
use Prim.Native.Nat.{ℕ, ◌+◌, ◌≤◌, ◌<◌}
use native.Mathlib.Omega.{arith}
use mathlib.Core.Bool.{Bool, true, false}
use mathlib.Core.List.{List, [], ◌∷◌, ◌++◌}
use lib.ListN.{length, take, drop, set, length-append}
use lib.Seq.{sets, length-sets, take_at, drop_at}
use lib.Dec.{ltb}
use borrow.Author.Tests.{le-ltb}
use Rattle.common.specs.Choice.{pick}
use Rattle.common.specs.Writing.{Wrote}
use Rattle.common.proofs.Stores.{sets_append, sets_front}
use Rattle.settings.specs.declared.Settings.{Settings}
use Rattle.tree.specs.Tree.{Tree}
use Rattle.sizes.specs.Input.{Input, refused, given, input_of}
use Rattle.sizes.proofs.MeasuredInput.{input_refusal}
use Rattle.frame.specs.declared.Written.{Written}
use Rattle.frame.specs.Frame.{too_large}
use Rattle.frame.specs.Printer.{no_print, print_to}
use Rattle.sheet.specs.Sheet.{sheet}
use Rattle.sheet.specs.Answers.{sheet_of}
use Rattle.sheet.proofs.Bytes.{largest}
use Rattle.program.specs.Program.{printed_of}
use Rattle.program.specs.Clauses.{Refused, Ended}

-- a sheet is at the front of the output, and a 0A fits behind it
pub record SheetThere (i : Input) (w : Written) (o o₁ : List ℕ) : Type 0 where
  pub bytes : List ℕ
  pub is : (text : ℕ → List ℕ) → printed_of text i ≡ bytes ++ 10 ∷ []
  pub count : length bytes ≡ w.count
  pub room : w.count < 64160
  pub out : o₁ ≡ sets o 0 bytes

-- by the printer's number
pub record PrinterTold (i : Input) (w : Written) (o o₁ : List ℕ) : Type 0 where
  pub no : (w.number ≡ 0 → ⊥) → Refused i w o o₁
  pub yes : w.number ≡ 0 → SheetThere i w o o₁

module _ (o : List ℕ) (long : 64160 ≤ length o) where
  refusal_told : (i : Input) (k : ℕ) → 1 ≤ k → k < 10 → ((text : ℕ → List ℕ) → printed_of text i ≡ text k)
      → PrinterTold i (no_print k o).answer o (no_print k o).memory
  refusal_told i k low high e = record { no = λ z. record { is = e; digit = high; out = refl }; yes = λ z. absurd (omega (arith, z)) }

  sheet_told : (s : Settings) (t : Tree) → too_large s t ≡ false
      → PrinterTold (given s t) (print_to (sheet s t) o).answer o (print_to (sheet s t) o).memory
  unfolding printed_of
  sheet_told s t large =
      let fits : length (sheet s t) < 64160 = largest s t large in
      let e : ltb (length o) (length (sheet s t)) ≡ false = le-ltb (length o) (length (sheet s t)) (omega arith) in
      rw e (record {
        no = λ z. absurd (z refl);
        yes = λ z. record { bytes = sheet s t; is = λ text. rw large; count = refl; room = fits; out = sym (sets_front (sheet s t) o (omega arith)) };
      })

  large_told : (s : Settings) (t : Tree) (b : Bool) → too_large s t ≡ b
      → PrinterTold (given s t) (pick b (no_print 6 o) (print_to (sheet s t) o)).answer o (pick b (no_print 6 o) (print_to (sheet s t) o)).memory
  unfolding printed_of
  large_told s t true e = refusal_told (given s t) 6 (omega arith) (omega arith) (λ text. rw e)
  large_told s t false e = sheet_told s t e

  input_told : (bs ts : List ℕ) (i : Input) → input_of bs ts ≡ i → PrinterTold i (sheet_of i o).answer o (sheet_of i o).memory
  unfolding sheet_of printed_of
  input_told bs ts (refused k) e = refusal_told (refused k) k (input_refusal bs ts k e).0 (omega (arith, input_refusal bs ts k e)) (λ text. refl)
  input_told bs ts (given s t) e = large_told s t (too_large s t) refl

  pub printer_told : (bs ts : List ℕ) (w : Written) (o₁ : List ℕ) → w ≡ (sheet_of (input_of bs ts) o).answer → o₁ ≡ (sheet_of (input_of bs ts) o).memory
      → PrinterTold (input_of bs ts) w o o₁
  printer_told bs ts w o₁ ew eo = rw (ew, eo) (input_told bs ts (input_of bs ts) refl)

-- ---- a 0A behind the sheet

module _ (i : Input) (w : Written) (o o₁ : List ℕ) where
  pub refused_ended : (w.number ≡ 0 → ⊥) → Refused i w o o₁ → Ended i w o o₁
  refused_ended z k = record { no = λ y. k; yes = λ y. absurd (z y) }

  pub sheet_ended : SheetThere i w o o₁ → Ended i (record { number = 0; count = w.count + 1 }) o (set o₁ w.count 10)
  sheet_ended k =
      let c : 0 + length k.bytes ≡ w.count = omega (arith, k.count) in
      record {
        no = λ z. absurd (z refl);
        yes = λ z. record {
          wrote = λ text. rw (k.is text) (record {
            end_is = omega (arith, k.count, length-append k.bytes (10 ∷ []));
            out_is = rw (k.out, ← c) (sym (sets_append k.bytes (10 ∷ []) o 0));
          });
          within = omega (arith, k.room);
        };
      }

-- ---- a text at the front of the output

-- a refusal's
pub refusal_wrote : (i : Input) (w : Written) (o o₁ : List ℕ) → Refused i w o o₁ → (text : ℕ → List ℕ) (r : ℕ) (o₂ : List ℕ)
    → Wrote r (length (text w.number)) o₂ (sets o₁ 0 (text w.number)) → Wrote r (length (printed_of text i)) o₂ (sets o 0 (printed_of text i))
refusal_wrote i w o o₁ k text r o₂ x = rw (k.is text, ← k.out) x

module _ (text o : List ℕ) (long : 64160 ≡ length o) (r : ℕ) (o₁ : List ℕ) (w : Wrote r (length text) o₁ (sets o 0 text)) (h : r ≤ 64160) where
  -- as the program for typed lists promises it
  pub all_written : Wrote r (length text) o₁ (sets o 0 text) × ((r ≤ 64160) × (length o₁ ≡ 64160))
  all_written = (w, (h, ap length w.out_is ∙ length-sets o 0 text ∙ sym long))

  -- as the sheet program does: the text, and behind it what was there
  pub front_written : (take r o₁ ≡ text) × (((r ≤ 64160) × (length o₁ ≡ 64160)) × (drop r o₁ ≡ drop r o))
  front_written =
      let e : o₁ ≡ text ++ drop (length text) o = w.out_is ∙ sets_front text o (omega (arith, w.end_is)) in (
        rw (w.end_is, e) (take_at text (drop (length text) o) (length text) refl),
        (all_written.1, rw (w.end_is, e) (drop_at text (drop (length text) o) (length text) refl)),
      )
