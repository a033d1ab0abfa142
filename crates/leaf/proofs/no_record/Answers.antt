use Rattle.leaf.proofs.no_record.Goals as goal

pub returns : goal.returns
returns c = rw (c.no_flags.ensures, c.no_pieces-2.ensures, c.no_pieces.ensures)
