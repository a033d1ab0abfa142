use mathlib.Core.Path.{◌∙◌}
use native.Mathlib.Omega.{arith}
use Rattle.plan.proofs.Large.{LowBytes}
use Rattle.plan.proofs.Inputs.{refused_settings, refused_plan, root_ready, planned_is}
use Rattle.plan.proofs.plan_sheet.Goals as goal

pub returns-then-read-ne0 : goal.returns-then-read-ne0
returns-then-read-ne0 c = c.refused.ensures ∙ refused_settings _ _ _ c.read_settings-read.ensures c.if-read-ne0.true

pub returns-then-t-ne0 : goal.returns-then-t-ne0
returns-then-t-ne0 c = c.refused-then-t-ne0.ensures
    ∙ refused_plan _ _ _ c.read_settings-read.ensures c.if-read-ne0.false _ c.read_plan-t.ensures c.if-t-ne0.true

pub sheet_end-least-requires : goal.sheet_end-least-requires
sheet_end-least-requires c =
    let low : LowBytes c.args.tree.now = λ i. omega (arith, c.type_inv.tree i) in
    root_ready _ _ _ c.read_settings-read.ensures c.if-read-ne0.false _ c.read_plan-t.ensures c.if-t-ne0.false low _

pub sheet_end-most-requires : goal.sheet_end-most-requires
sheet_end-most-requires c =
    let low : LowBytes c.args.tree.now = λ i. omega (arith, c.type_inv.tree i) in
    root_ready _ _ _ c.read_settings-read.ensures c.if-read-ne0.false _ c.read_plan-t.ensures c.if-t-ne0.false low _

pub returns : goal.returns
returns c =
    let x = c.read_settings-read.ensures in
    let h = c.if-read-ne0.false in
    let y = c.read_plan-t.ensures in
    let n = c.if-t-ne0.false in
    let low : LowBytes c.args.tree.now = λ i. omega (arith, c.type_inv.tree i) in
    let least = c.sheet_end-least.ensures.value (root_ready _ _ _ x h _ y n low _) in
    let most = c.sheet_end-most.ensures.value (root_ready _ _ _ x h _ y n low _) in
    c.answer.ensures ∙ planned_is _ _ _ x h _ y n low _ _ least most
