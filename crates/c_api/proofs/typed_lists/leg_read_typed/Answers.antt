use mathlib.Core.Path.{ap, ◌∙◌}
use Rattle.c_encoding.specs.Words.{typed_word}
use Rattle.c_api.proofs.typed_lists.leg_read_typed.Goals as goal

pub returns : goal.returns
returns c = let e = c.read_typed-t.ensures.out_after in
    record { value = c.pack_typed.ensures ∙ ap (λ x. typed_word x.answer) e; written = ap (λ x. x.memory) e }
