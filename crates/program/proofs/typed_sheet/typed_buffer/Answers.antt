use mathlib.Core.Path.{sym}
use Prim.Native.Nat.{ℕ}
use lib.ListN.{replicate, length-replicate}
use Rattle.program.proofs.ReaderAnswer.{typed_front}
use Rattle.program.proofs.typed_sheet.typed_buffer.Goals as goal

pub returns : goal.returns
returns c = typed_front (replicate 131073 0) (sym (length-replicate {A = ℕ} 131073 0))
