-- What is written stands behind what was written before.
use Rattle.std.proofs.Common.{◌≡◌, ℕ, ◌+◌, ◌-◌, ◌≤◌, List, ◌++◌, rules, length, take, drop, sym, ap, ◌∙◌, subst}
use Rattle.std.specs.Io.KnownBytes.{Appends}
use Rattle.std.proofs.KnownBytes.{Appends-trans}
use lib.Seq.{take-add, take-take}
use Rattle.standard_streams.proofs.output.write_answer.Goals as goal

joined : (a n m : ℕ) (xs : List ℕ) → n ≤ m → take a xs ++ take n (take m (drop a xs)) ≡ take (a + n) xs
joined a n m xs h = ap (λ l. take a xs ++ l) (take-take n m (drop a xs) h) ∙ sym (take-add a n xs)

pub loop-done-preserved-in-Ok : goal.loop-done-preserved-in-Ok
loop-done-preserved-in-Ok g c =
    let few : c.in-Ok.more ≤ length c.args.bytes.now - c.loop-done.done = search rules in (
      search rules,
      subst (Appends _ _) (joined c.loop-done.done c.in-Ok.more _ c.args.bytes.now few)
          (Appends-trans _ _ _ _ _ c.loop-done.invariant.1 c.in-Ok.ensures.bytes),
    )
