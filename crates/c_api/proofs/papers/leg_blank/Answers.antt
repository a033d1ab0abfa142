use Rattle.c_api.proofs.papers.leg_blank.Goals as goal

pub returns : goal.returns
returns c = record { value = rw (c.pack.ensures, c.blank_texts-r.ensures.value); written = c.blank_texts-r.ensures.written }
