use mathlib.Core.Path.{◌≡◌, refl, sym, ◌∙◌}
use Prim.Native.Nat.{ℕ}
use native.Mathlib.Omega.{arith}
use mathlib.Core.Bool.{Bool, true, false}
use mathlib.Core.List.{List, [], ◌∷◌}
use lib.ListN.{length}
use Rattle.std.proofs.Common.{rules, tests}
use Rattle.common.specs.Refusals.{refusal_of}
use Rattle.settings.specs.Reading.{margin_low, margin_high, within, margin_of, no_margin, settings_of, refused, read, read_behind}
use Rattle.settings.proofs.Within.{within_length}
use Rattle.settings.proofs.read_behind.Goals as goal

nothing : (lines : Bool) (l k : List ℕ) → length k ≡ 0 → read_behind lines l k ≡ read (settings_of lines no_margin l)
unfolding read_behind
nothing lines l [] e = refl
nothing lines l (b ∷ k) e = absurd (omega arith)

margin : (lines : Bool) (l k : List ℕ) → within margin_low margin_high k ≡ true → read_behind lines l k ≡ read (settings_of lines (margin_of k) l)
unfolding read_behind within
margin lines l [] h = cc
margin lines l (b ∷ k) h = rw h

other : (lines : Bool) (l k : List ℕ) → (length k ≡ 0 → ⊥) → within margin_low margin_high k ≡ false → read_behind lines l k ≡ refused
unfolding read_behind
other lines l [] e h = absurd (e refl)
other lines l (b ∷ k) e h = rw h

pub returns-then-is_empty : goal.returns-then-is_empty
returns-then-is_empty c = rw (nothing c.args.lines c.args.bytes.now c.args.behind.now (search (rules, tests)), c.settings_of.ensures, c.none.ensures)

pub returns-then-not-is_margin : goal.returns-then-not-is_margin
unfolding refusal_of
returns-then-not-is_margin c = rw (other c.args.lines c.args.bytes.now c.args.behind.now (search (rules, tests)) cc)

pub margin_of-requires : goal.margin_of-requires
margin_of-requires c = within_length margin_low margin_high _ (sym c.is_margin.ensures ∙ c.if-not-is_margin.false)

pub returns : goal.returns
returns c = rw (
  margin c.args.lines c.args.bytes.now c.args.behind.now (sym c.is_margin.ensures ∙ c.if-not-is_margin.false),
  c.settings_of-2.ensures,
  c.margin_of.ensures,
)
