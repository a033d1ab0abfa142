use native.Mathlib.Omega.{arith}
use Rattle.typed.proofs.Scanned.{spot_small}
use Rattle.typed.proofs.scan.next_node.Goals as goal

pub place-requires : goal.place-requires
place-requires c =
    let w = spot_small _ _ _ (rw c.in-Some.is at c.in_ok-node.ensures) in
    (c.requires.0.total, omega (arith, w.len))
