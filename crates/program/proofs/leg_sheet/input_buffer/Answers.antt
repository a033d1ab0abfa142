use mathlib.Core.Path.{sym}
use Prim.Native.Nat.{ℕ}
use lib.ListN.{replicate, length-replicate}
use Rattle.program.proofs.Front.{buffer_front}
use Rattle.program.proofs.leg_sheet.input_buffer.Goals as goal

pub returns : goal.returns
returns c = buffer_front (replicate 32811 0) (sym (length-replicate {A = ℕ} 32811 0))
