use Rattle.std.proofs.Common.{◌≡◌, refl, sym, ◌∙◌, ℕ, ◌+◌, ◌<◌, ◌≤◌, Bool, true, false, ◌&&◌, List, length, get_or, drop, drop-cons, add-one}
use lib.ListN.{drop_of_length-le}
use Rattle.common.specs.Choice.{pick}
use Rattle.tree.specs.Reading.{is_text, is_text_byte}
use Rattle.tree.proofs.are_text.Goals as goal

-- The loop's invariant: the bytes are allowed where those tested are and those left are.
one_more : (g b r : Bool) → pick g (pick b r false) false ≡ pick (g && b) r false
one_more true true r = refl
one_more true false r = refl
one_more false b r = refl

all_met : (g : Bool) → pick g true false ≡ g
all_met true = refl
all_met false = refl

text_more : (s : List ℕ) (i : ℕ) (g : Bool) → i < length s
    → pick g (is_text (drop i s)) false ≡ pick (g && is_text_byte (get_or s i 0)) (is_text (drop (i + 1) s)) false
unfolding is_text
text_more s i g k = rw (drop-cons s i 0 k, add-one) (one_more g (is_text_byte (get_or s i 0)) _)

text_end : (s : List ℕ) (i : ℕ) (g : Bool) → length s ≤ i → pick g (is_text (drop i s)) false ≡ g
unfolding is_text
text_end s i g h = rw (drop_of_length-le s h) (all_met g)

pub loop-b-preserved : goal.loop-b-preserved
loop-b-preserved c = c.loop-b.invariant ∙ text_more _ c.loop-b.b-index c.loop-b.good c.loop-b-test.true ∙ rw c.is_text_byte-good.ensures

pub returns : goal.returns
returns c = sym (c.loop-b.invariant ∙ text_end _ _ c.loop-b.good c.loop-b-test.false)
