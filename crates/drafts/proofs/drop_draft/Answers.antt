use Rattle.std.proofs.Common.{ap}
use Rattle.std.proofs.lemmas.Result.{err_from_is_err_and}
use Rattle.drafts.proofs.OpenedStore.{none_there, opened_ready, refused_forget, forget_absent, forget_there, opened_room}
use Rattle.drafts.proofs.drop_draft.Goals as goal

pub returns-in_err-scan : goal.returns-in_err-scan
returns-in_err-scan c =
    let p = err_from_is_err_and c.from_residual.result c.from_residual.ensures.1 in
    let k = refused_forget _ _ _ c.in_err-scan.ensures in
    record { value = rw (p.1, p.2) (ap (λ y. y.answer) k); left = ap (λ y. y.memory) k }

pub returns-in_err-field : goal.returns-in_err-field
returns-in_err-field c =
    let p = err_from_is_err_and c.from_residual-in_err-field.result c.from_residual-in_err-field.ensures.1 in
    let n = none_there _ _ _ c.in_err-field.ensures.value in
    let k = forget_absent _ _ _ (opened_ready _ _ _ c.in_ok-scan.ensures) n.0 in
    record { value = rw (p.1, p.2, n.1) (ap (λ y. y.answer) k); left = ap (λ y. y.memory) k }

pub take_out-requires : goal.take_out-requires
take_out-requires c =
    let k = opened_room _ _ _ (opened_ready _ _ _ c.in_ok-scan.ensures) in
    (k.fits _ c.in_ok-field.ensures.ok_part, k.high, k.zeros)

pub returns : goal.returns
returns c =
    let k = forget_there _ _ _ (opened_ready _ _ _ c.in_ok-scan.ensures) _ c.in_ok-field.ensures.ok_part _ c.take_out.ensures in
    record { value = ap (λ y. y.answer) k; left = ap (λ y. y.memory) k }
