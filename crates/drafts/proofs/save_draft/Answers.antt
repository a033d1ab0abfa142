use Rattle.std.proofs.Common.{◌≡◌, ap, ◌∙◌, arith, length, rules}
use Rattle.drafts.specs.Promises.{TreeRead}
use Rattle.drafts.specs.Store.{tag_for, store_of, without_tag}
use Rattle.drafts.proofs.OpenedStore.{Openable, opened_ready, size_in, size_is, none_is, got_tree, refused_save, bad_tree, opened_room, save_full, save_there}
use Rattle.drafts.proofs.save_draft.Goals as goal
use Rattle.drafts.proofs.save_draft.Goals.{Else-fault-ne0, After-map_or, in-Some, in_default}

-- the store that was opened, the tree that was read, and the bytes of the older draft
ready_at : (c : Else-fault-ne0) → let a = c.args in Openable a.store.now a.name c.in-Ok.scan
ready_at c = opened_ready _ _ _ c.in-Ok.ensures

read_at : (c : Else-fault-ne0) → TreeRead c.args.tree.now
read_at c = got_tree _ _ c.read_tree-fault.ensures c.if-fault-ne0.false

older_at : (c : After-map_or) → c.map_or.result ≡ size_in c.in-Ok.scan.spot
older_at c = size_is c.in-Ok.scan.spot _ _ c.map_or.ensures (λ f h. search rules)

pub returns-in-Err : goal.returns-in-Err
returns-in-Err c =
    let k = refused_save _ _ _ c.in-Err.ensures _ in
    record { value = c.number.ensures ∙ ap (λ y. y.answer) k; left = ap (λ y. y.memory) k }

pub returns-then-fault-ne0 : goal.returns-then-fault-ne0
returns-then-fault-ne0 c =
    let k = bad_tree _ _ _ (opened_ready _ _ _ c.in-Ok.ensures) _ _ c.read_tree-fault.ensures c.if-fault-ne0.true in
    record { value = ap (λ y. y.answer) k; left = ap (λ y. y.memory) k }

pub overflow_sub-others : goal.overflow_sub-others
overflow_sub-others c =
    let k = opened_room _ _ _ (ready_at (goal.at.overflow_sub-others c).Else-fault-ne0) in
    omega (arith, k.low, older_at (goal.at.overflow_sub-others c).After-map_or)

pub overflow_add-others : goal.overflow_add-others
overflow_add-others c =
    let d = (goal.at.overflow_add-others c).Else-fault-ne0 in
    let k = opened_room _ _ _ (ready_at d) in
    let g = read_at d in
    omega (arith, k.high, g.short)

pub returns-then-store-others : goal.returns-then-store-others
returns-then-store-others c =
    let d = (goal.at.returns-then-store-others c).Else-fault-ne0 in
    let e = older_at (goal.at.returns-then-store-others c).After-map_or in
    let k = save_full _ _ _ (ready_at d) _ (read_at d) (omega (arith, e, c.if-store-others.true)) in
    record { value = c.number-then-store-others.ensures ∙ ap (λ y. y.answer) k; left = ap (λ y. y.memory) k }

pub take_out-requires : goal.take_out-requires
take_out-requires c =
    let k = opened_room _ _ _ (ready_at (goal.at.take_out-requires c).Else-fault-ne0) in
    (k.fits _ c.in-Some.is, k.high, k.zeros)

pub put_field-requires : goal.put_field-requires
put_field-requires c = let g = read_at (goal.at.put_field-requires c).Else-fault-ne0 in (search rules, omega (arith, g.short))

pub returns : goal.returns
returns c =
    let a = c.args in
    let d = (goal.at.returns c).Else-fault-ne0 in
    let e = older_at (goal.at.returns c).After-map_or in
    let r = opened_room _ _ _ (ready_at d) in
    let s : c.match-scan.store ≡ store_of (length a.store.now) (without_tag (tag_for a.name) (ready_at d).fs) = elim c.match-scan.branch [
      | in-Some w ↦ w.store-is ∙ w.take_out.ensures ∙ r.closed _ w.in-Some.is
      | in_default w ↦ w.store-is ∙ r.whole (none_is _ w.in_default.not-Some)
    ] in
    let k = save_there _ _ _ (ready_at d) _ (read_at d) (omega (arith, e, c.if-store-others.false)) _ _ _ c.tag_of.ensures s (rw e at c.put_field.ensures) in
    record { value = ap (λ y. y.answer) k; left = ap (λ y. y.memory) k }
