use Rattle.c_api.proofs.leg_print_leaf.Goals as goal

pub returns : goal.returns
returns c = record { value = rw (c.pack.ensures, c.print_leaf-w.ensures.value); shown = c.print_leaf-w.ensures.shown }
