use mathlib.Core.Path.{◌≡◌, sym}
use native.Mathlib.Omega.{arith}
use lib.ListN.{length}
use lib.Seq.{length-take-le}
use borrow.Author.Rules.{rules}
use Rattle.program.specs.TypedProgram.{typed_program_of}
use Rattle.program.proofs.PrinterAnswer.{all_written}
use Rattle.program.proofs.ReaderAnswer.{typed_fault, typed_tree}
use Rattle.program.proofs.typed_sheet.answer_typed.Goals as goal
use Rattle.program.proofs.typed_sheet.answer_typed.Goals.{After-tell}

long : (c : After-tell) → 64160 ≡ length c.args.out.now
long c = search rules

pub returns-else-t-eq0 : goal.returns-else-t-eq0
returns-else-t-eq0 c =
    let text = c.args.text.now in
    let w = rw (← typed_fault text _ _ c.read_typed-t.ensures.out_after c.if-t-eq0.false) at c.tell.ensures.wrote in
    let l = long (goal.at.returns-else-t-eq0 c).After-tell in
    let both = all_written (typed_program_of text) _ l _ _ w (omega (arith, c.tell.ensures.few)) in
    record { wrote = both.0; within = both.1 }

pub slice_bounds-print_tree-end : goal.slice_bounds-print_tree-end
slice_bounds-print_tree-end c = sym (length-take-le _ _ (omega (arith, c.read_typed-t.ensures.within, c.read_typed-t.auto.out)))

pub returns-then-t-eq0-clause-wrote : goal.returns-then-t-eq0-clause-wrote
returns-then-t-eq0-clause-wrote c = rw (typed_tree c.args.text.now _ _ c.read_typed-t.ensures.out_after c.if-t-eq0.true) c.print_tree.ensures.wrote
