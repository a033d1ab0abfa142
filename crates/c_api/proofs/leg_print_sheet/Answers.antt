use Rattle.c_api.proofs.leg_print_sheet.Goals as goal

pub returns : goal.returns
returns c = record { value = rw (c.pack.ensures, c.print_sheet-w.ensures.value); shown = c.print_sheet-w.ensures.shown }
