-- All bytes are within their bounds: the test of each byte with its bounds, as `within` makes it.
use Rattle.std.proofs.Common.{rules, tests, arith, ◌≡◌, refl, sym, ap, ◌∙◌, ℕ, Bool, true, false, List, [], ◌∷◌, ◌&&◌, length, not, ltb, ne_eqb}
use Rattle.std.specs.List.{zip, list_all}
use Rattle.std.proofs.lemmas.Iterator.{YieldsList-from_slice, YieldsList-from_zip}
use Rattle.std.proofs.lemmas.Iterator.Search.{all_from_yields_List}
use Rattle.common.specs.Choice.{pick}
use Rattle.settings.specs.Reading.{within}
use Rattle.settings.proofs.Within.{within_other}
use Rattle.settings.proofs.Bounds.admit.Goals as goal

abbrev fits : ℕ × (ℕ × ℕ) → Bool
fits p = not (ltb p.0 p.1.0) && not (ltb p.1.1 p.0)

fits_next : (a b x : Bool) → ((not a && not b) && x) ≡ pick a false (pick b false x)
fits_next true b x = refl
fits_next false true x = refl
fits_next false false x = refl

each_fits : (ls hs bs : List ℕ) → length bs ≡ length ls → length hs ≡ length ls → list_all fits (zip bs (zip ls hs)) ≡ within ls hs bs
unfolding within
each_fits [] [] [] p q = refl
each_fits (l ∷ ls) (h ∷ hs) (b ∷ bs) p q =
    ap (λ x. fits (b, (l, h)) && x) (each_fits ls hs bs (omega arith) (omega arith)) ∙ fits_next (ltb b l) (ltb h b) (within ls hs bs)
each_fits [] hs (b ∷ bs) p q = absurd (omega arith)
each_fits [] (h ∷ hs) [] p q = absurd (omega arith)
each_fits (l ∷ ls) [] bs p q = absurd (omega arith)
each_fits (l ∷ ls) (h ∷ hs) [] p q = absurd (omega arith)

pub returns-then-bytes : goal.returns-then-bytes
returns-then-bytes g c = let a = c.args in
    all_from_yields_List fits c.all.new.self _ c.all.result c.all.ensures.ran
    (YieldsList-from_zip (YieldsList-from_slice a.bytes.now cc)
    (YieldsList-from_zip (YieldsList-from_slice a.self.now.least cc) (YieldsList-from_slice a.self.now.greatest cc)))
    (λ x b q k. search (rules, tests)) ∙ each_fits a.self.now.least a.self.now.greatest a.bytes.now (omega arith) (omega arith)

pub returns-else-bytes : goal.returns-else-bytes
returns-else-bytes g c = ne_eqb _ _ c.if-bytes.false ∙ sym (within_other _ _ _ (λ e. c.if-bytes.false (omega arith)))
