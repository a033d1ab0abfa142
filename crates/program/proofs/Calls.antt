-- `prints_typed`: what the program prints of a list without a fault.
use mathlib.Core.Path.{◌≡◌, refl, ap, ◌∙◌}
use Prim.Native.Nat.{ℕ}
use mathlib.Core.List.{List}
use lib.ListN.{replicate}
use Rattle.settings.specs.Defaults.{defaults, settings_bytes}
use Rattle.settings.specs.Figures.{defaults_read}
use Rattle.tree.specs.Tree.{Tree}
use Rattle.tree.specs.Reading.{ReadOne, read_tree}
use Rattle.sizes.specs.Input.{given, input_of}
use Rattle.typed.specs.Typed.{typed_of}
use Rattle.typed.proofs.Calls.{typed_accepted_lem}
use Rattle.program.specs.Program.{printed_of}
use Rattle.program.specs.TypedProgram.{sheet_fault}
use Rattle.program.specs.Promises.{PrintsTyped}
use Rattle.program.proofs.ReaderAnswer.{typed_tree}

default_input : (s : List ℕ) (t : Tree) (z n : ℕ) → read_tree s ≡ ReadOne.one t z n → input_of (settings_bytes defaults) s ≡ given defaults t
unfolding input_of
default_input s t z n e = rw (defaults_read, e)

pub prints_typed : (text : List ℕ) → (typed_of text (replicate 32768 0)).answer.number ≡ 0 → PrintsTyped text
unfolding printed_of
prints_typed text h =
    let x = typed_of text (replicate 32768 0) in
    let k = typed_accepted_lem text (replicate 32768 0) h in
    record {
      root = k.root;
      lines_are = k.lines_are;
      prints = typed_tree text x.memory x.answer refl h ∙ ap (printed_of sheet_fault) (default_input _ k.root _ _ k.read);
    }
