use mathlib.Core.Path.{◌≡◌, sym, ◌∙◌}
use mathlib.Core.Logic.{inl, inr}
use mathlib.Core.Bool.{Bool, true, false, not}
use mathlib.Core.List.{List}
use Prim.Native.Nat.{ℕ}
use native.Mathlib.Omega.{arith}
use lib.ListN.{get_or, take, drop}
use lib.Seq.{get_or-take}
use lib.Dec.{eqb}
use Rattle.common.specs.Refusals.{refusal_of}
use Rattle.settings.specs.Reading.{low, high, within, refused, read_behind, read_form, read_settings}
use Rattle.settings.proofs.Within.{short_refused, bare_form, lined_form}
use Rattle.std.proofs.lemmas.Bool.Decides.{eqb_tells}
use Rattle.settings.proofs.read.Goals as goal

-- the first mark says which of the two forms it is
abbrev lined : List ℕ → Bool
lined f = not (eqb (get_or f 3 0) 0)

form : (l f : List ℕ) → f ≡ take 31 l → read_settings l ≡ read_form (lined f) l
form l f e =
    let mark : get_or f 3 0 ≡ get_or l 3 0 = rw e (get_or-take 31 l 3 0 (omega arith)) in
    elim (eqb_tells (get_or f 3 0) 0) [ inl p ↦ rw p.0 (bare_form l (sym mark ∙ p.1)) | inr p ↦ rw p.0 (lined_form l (λ d. p.1 (mark ∙ d))) ]

record_read : (l f k : List ℕ) → f ≡ take 31 l → k ≡ drop 31 l → within (low (lined f)) (high (lined f)) f ≡ true
    → read_settings l ≡ read_behind (lined f) f k
unfolding read_form
record_read l f k p q e = rw (form l f p, ← p, ← q, e)

record_refused : (l f : List ℕ) → f ≡ take 31 l → within (low (lined f)) (high (lined f)) f ≡ false → read_settings l ≡ refused
unfolding read_form
record_refused l f p e = rw (form l f p, ← p, e)

pub returns-in_default : goal.returns-in_default
unfolding refusal_of
returns-in_default c = rw (short_refused c.args.bytes.now c.in_default.ensures.cases)

pub returns-then-not-is_record : goal.returns-then-not-is_record
unfolding refusal_of
returns-then-not-is_record c = let s = c.in-Some.ensures.cases in
    rw (record_refused c.args.bytes.now c.in-Some.record.now s.1 cc)

pub returns : goal.returns
returns c = let s = c.in-Some.ensures.cases in
    rw (record_read c.args.bytes.now c.in-Some.record.now c.in-Some.behind.now s.1 s.2 cc) c.read_behind.ensures
