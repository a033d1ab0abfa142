use Rattle.std.proofs.Common.{sym}
use Rattle.std.proofs.lemmas.Result.{err_from_is_err_and}
use Rattle.drafts.proofs.OpenedStore.{open_18, open_19}
use Rattle.drafts.proofs.open_store.Goals as goal

pub returns-in_err-scan : goal.returns-in_err-scan
returns-in_err-scan c =
    let p = err_from_is_err_and c.from_residual.result c.from_residual.ensures.1 in
    rw (p.1, p.2) (open_18 _ _ _ c.tag_of.ensures _ c.scan_store.ensures _ c.in_err-scan.ensures.value)

pub returns-else-is_name : goal.returns-else-is_name
returns-else-is_name c = open_19 _ _ _ c.tag_of.ensures _ c.scan_store.ensures _ c.in_ok-scan.ensures.value (sym c.if-is_name.ensures)
