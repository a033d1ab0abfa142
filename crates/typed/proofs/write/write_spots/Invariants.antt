use mathlib.Core.List.{List}
use lib.ListN.{length}
use Rattle.typed.specs.Scan.{TypedNode}
use Rattle.typed.specs.Clauses.{ReadyNodes}
use Rattle.typed.proofs.Written.{NodesWriting}
use Rattle.typed.proofs.write.write_spots.Given as goal

abbrev pub invariant-loop-i : goal.invariant-loop-i
invariant-loop-i l = (ns : List TypedNode) → ReadyNodes l.text l.spots l.total (length l.initial.out) ns → NodesWriting ns l.initial.out l.out l.sizes l.i l.p
