use Rattle.c_api.proofs.leg_read_tree.Goals as goal

pub returns : goal.returns
returns c = rw (c.pack.ensures, c.read_tree-t.ensures)
