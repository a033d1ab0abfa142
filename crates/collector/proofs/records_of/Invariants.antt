use mathlib.Core.Path.{◌≡◌}
use mathlib.Core.List.{List}
use Prim.Native.Nat.{ℕ}
use lib.ListN.{length}
use lib.Seq.{sets}
use Rattle.common.specs.Arrays.{padded}
use Rattle.settings.specs.declared.Settings.{Settings}
use Rattle.tree.specs.Tree.{Tree, nodes}
use Rattle.sizes.specs.Sizes.{tree_sizes}
use Rattle.sizes.specs.Listed.{flat}
use Rattle.collector.specs.Below.{belows}
use Rattle.collector.specs.Records.{records_of}
use Rattle.collector.specs.Clauses.{no_records}
use Rattle.collector.proofs.Recorded.{filled}
use Rattle.collector.proofs.records_of.Given as goal

abbrev pub invariant-loop-i : goal.invariant-loop-i
invariant-loop-i l =
    (s : Settings) (t : Tree) (old : List ℕ) → l.list ≡ sets old 0 (flat (tree_sizes s t)) → length old ≡ 2048 → l.n ≡ nodes t → l.below ≡ padded (belows t)
    → l.out ≡ filled (records_of s t) no_records l.i
