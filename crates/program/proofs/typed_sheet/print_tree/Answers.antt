use borrow.Author.Rules.{rules}
use mathlib.Core.Path.{◌≡◌}
use native.Mathlib.Omega.{arith}
use lib.ListN.{length}
use Rattle.program.specs.TypedProgram.{sheet_fault, tree_text}
use Rattle.program.proofs.PrinterAnswer.{refusal_wrote, all_written}
use Rattle.program.proofs.typed_sheet.print_tree.Goals as goal
use Rattle.program.proofs.typed_sheet.print_tree.Goals.{After-print_ended-w}

long : (c : After-print_ended-w) → 64160 ≡ length c.args.out.now
long c = search rules

pub returns-else-w-eq0 : goal.returns-else-w-eq0
returns-else-w-eq0 c =
    let a = c.args in
    let k = c.print_ended-w.ensures.no c.if-w-eq0.false in
    let w = refusal_wrote _ _ _ _ k sheet_fault _ _ c.tell.ensures.wrote in
    let l = long (goal.at.returns-else-w-eq0 c).After-print_ended-w in
    let both = all_written (tree_text a.tree.now) a.out.now l _ _ w (omega (arith, c.tell.ensures.few)) in
    record { wrote = both.0; within = both.1 }

pub returns-then-w-eq0 : goal.returns-then-w-eq0
returns-then-w-eq0 c =
    let a = c.args in
    let k = c.print_ended-w.ensures.yes c.if-w-eq0.true in
    let l = long (goal.at.returns-then-w-eq0 c).After-print_ended-w in
    let both = all_written (tree_text a.tree.now) a.out.now l _ _ (k.wrote sheet_fault) k.within in
    record { wrote = both.0; within = both.1 }
