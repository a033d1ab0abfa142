use mathlib.Core.List.{[], ◌∷◌, ◌++◌}
use native.Mathlib.Omega.{arith}
use lib.ListN.{length, length-append}
use Rattle.common.proofs.Copies.{then_wrote}
use Rattle.entries.proofs.Listings.{put_all}
use Rattle.entries.proofs.entry.put_entry.Goals as goal

pub returns : goal.returns
returns c = let a = c.args in
    let front = a.p.node ∷ a.p.at ∷ a.p.base ∷ a.p.flags ∷ length a.horizontal.now ∷ length a.vertical.now ∷ a.k.taken ∷ a.k.rest ∷ [] in
    let h = a.horizontal.now in
    let v = a.vertical.now in
    let lists = then_wrote _ _ _ h v _ _ _ c.copy-next.ensures c.copy.ensures in
    let all = then_wrote a.leaves.now _ _ front (h ++ v) a.i _ _ c.copy-from.ensures lists in
    put_all a.leaves.now _ a.i _ (front ++ (h ++ v)) (simp length-append (omega (arith, c.requires))) all
