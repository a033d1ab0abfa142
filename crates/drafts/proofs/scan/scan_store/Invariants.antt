use Prim.Native.Nat.{◌-◌}
use lib.ListN.{length}
use Rattle.drafts.proofs.Scans.{Scanning}
use Rattle.drafts.proofs.scan.scan_store.Given as goal

abbrev pub invariant-loop-i : goal.invariant-loop-i
invariant-loop-i l = Scanning l.s l.tag l.seen l.spot l.i

abbrev pub decreases-loop-i : goal.decreases-loop-i
decreases-loop-i l = length l.s - l.i
