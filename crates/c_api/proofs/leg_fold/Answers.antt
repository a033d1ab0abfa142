use mathlib.Core.Path.{◌∙◌}
use Rattle.c_encoding.proofs.Folds.{found_stays, found_comes}
use Rattle.c_api.proofs.leg_fold.Goals as goal

pub returns-then-r-ne0 : goal.returns-then-r-ne0
returns-then-r-ne0 c = record {
  value = rw (c.pack.ensures, c.fold_list-r.ensures.value);
  listed = c.fold_list-r.ensures.listed;
  told = found_stays _ _ c.fold_list-r.ensures.value _ c.if-r-ne0.true;
}

pub returns : goal.returns
returns c = record {
  value = rw (c.pack-2.ensures, c.fold_list-r.ensures.value);
  listed = c.fold_list-r.ensures.listed;
  told = c.put_found.ensures ∙ found_comes _ _ c.fold_list-r.ensures.value _ c.if-r-ne0.false;
}
