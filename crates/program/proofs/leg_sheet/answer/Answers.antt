use borrow.Author.Rules.{rules}
use mathlib.Core.Path.{◌≡◌, sym}
use native.Mathlib.Omega.{arith}
use lib.ListN.{length}
use lib.Seq.{length-take-le}
use Rattle.program.specs.Program.{refused_text, program_of}
use Rattle.program.proofs.Front.{program_parts}
use Rattle.program.proofs.PrinterAnswer.{refusal_wrote, front_written}
use Rattle.program.proofs.leg_sheet.answer.Goals as goal
use Rattle.program.proofs.leg_sheet.answer.Goals.{After-print_ended-w}

long : (c : After-print_ended-w) → 64160 ≡ length c.args.out.now
long c = search rules

pub slice_bounds-print_ended-end : goal.slice_bounds-print_ended-end
slice_bounds-print_ended-end c = sym (length-take-le _ _ c.settings_end-end.ensures.within)

pub refuse-requires : goal.refuse-requires
refuse-requires c = (c.print_ended-w.ensures.no c.if-w-eq0.false).digit

pub returns-else-w-eq0 : goal.returns-else-w-eq0
returns-else-w-eq0 c =
    let a = c.args in
    let k = c.print_ended-w.ensures.no c.if-w-eq0.false in
    let p = program_parts a.input.now _ c.settings_end-end.ensures.value in
    let w = refusal_wrote _ _ _ _ k refused_text _ _ c.refuse.ensures in
    let l = long (goal.at.returns-else-w-eq0 c).After-print_ended-w in
    let all = front_written (program_of a.input.now) a.out.now l _ _ (rw p at w) (omega (arith, c.refuse.ensures.end_is)) in
    record { out_after = all.0; within = all.1.0; kept = all.1.1 }

pub returns-then-w-eq0 : goal.returns-then-w-eq0
returns-then-w-eq0 c =
    let a = c.args in
    let k = c.print_ended-w.ensures.yes c.if-w-eq0.true in
    let p = program_parts a.input.now _ c.settings_end-end.ensures.value in
    let l = long (goal.at.returns-then-w-eq0 c).After-print_ended-w in
    let all = front_written (program_of a.input.now) a.out.now l _ _ (rw p at (k.wrote refused_text)) k.within in
    record { out_after = all.0; within = all.1.0; kept = all.1.1 }
