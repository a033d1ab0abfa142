use Rattle.c_api.proofs.stores.leg_return_draft.Goals as goal

pub returns : goal.returns
returns c = record { value = rw (c.pack.ensures, c.return_draft-r.ensures.value); copied = c.return_draft-r.ensures.copied }
