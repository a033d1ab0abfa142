use mathlib.Core.Path.{◌∙◌}
use Rattle.plan.proofs.ends.sheet_end.Goals as goal

pub outer_size-requires : goal.outer_size-requires
outer_size-requires c = rw (c.end_node.ensures c.requires) c.requires.short

pub returns : goal.returns
returns c = record { value = λ q. c.outer_size.ensures.value ∙ rw (c.end_node.ensures q); wide = c.outer_size.ensures.wide }
