use Rattle.c_encoding.proofs.Plans.{ends_stay, ends_come}
use Rattle.c_api.proofs.leg_plan.Goals as goal

pub returns-then-p-ne0 : goal.returns-then-p-ne0
returns-then-p-ne0 c =
    let both = ends_stay _ _ c.plan_sheet-p.ensures _ _ c.if-p-ne0.true c.pack.ensures in record { value = both.0; told = both.1 }

pub returns : goal.returns
returns c =
    let both = ends_come _ _ c.plan_sheet-p.ensures _ _ c.if-p-ne0.false c.pack-2.ensures _
    c.put_ends.ensures in record { value = both.0; told = both.1 }
