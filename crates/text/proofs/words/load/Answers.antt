use Rattle.std.proofs.Common.{◌≡◌, length, take, drop, arith, length-drop, length-take-le, rules}
use Rattle.text.proofs.Loads.{small_part, eight_loaded}
use Rattle.text.proofs.words.load.Goals as goal

pub returns : goal.returns
returns c = let s = c.args.s.now in
    let at = c.args.at in
    let e : c.unwrap.result ≡ take 8 (drop at s) = search rules in
    let n : length (take 8 (drop at s)) ≡ 8 = length-take-le 8 (drop at s) (rw length-drop (omega arith)) in
    eight_loaded _ _ n (small_part 8 at s (λ k. omega (arith, c.type_inv.s k))) (rw e at c.from_le_bytes.ensures)
