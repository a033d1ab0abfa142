use Rattle.c_api.proofs.leg_widen.Goals as goal

pub returns-clause-value : goal.returns-clause-value
returns-clause-value c = rw (c.pack.ensures, c.nearest_cells-r.ensures.value)
