use mathlib.Core.Path.{◌≡◌}
use native.Mathlib.Omega.{arith}
use Rattle.sizes.specs.Input.{input_of}
use Rattle.program.proofs.PrinterAnswer.{PrinterTold, SheetThere, printer_told, refused_ended, sheet_ended}
use Rattle.program.proofs.print_ended.Goals as goal
use Rattle.program.proofs.print_ended.Goals.{After-print_sheet-w}

told : (c : After-print_sheet-w) → let a = c.args in
    PrinterTold (input_of a.settings.now a.tree.now) c.print_sheet-w.result a.out.now c.print_sheet-w.new.out
told c =
    printer_told _ c.requires c.args.settings.now c.args.tree.now _ _ c.print_sheet-w.ensures.value c.print_sheet-w.ensures.shown

there : (c : After-print_sheet-w) → c.print_sheet-w.result.number ≡ 0 → let a = c.args in
    SheetThere (input_of a.settings.now a.tree.now) c.print_sheet-w.result a.out.now c.print_sheet-w.new.out
there c z = (told c).yes z

pub returns-then-w-ne0 : goal.returns-then-w-ne0
returns-then-w-ne0 c = refused_ended _ _ _ _ c.if-w-ne0.true ((told (goal.at.returns-then-w-ne0 c).After-print_sheet-w).no c.if-w-ne0.true)

pub bounds-out-w : goal.bounds-out-w
bounds-out-w c = omega (arith, (there (goal.at.bounds-out-w c).After-print_sheet-w c.if-w-ne0.false).room, c.print_sheet-w.auto.out, c.requires)

pub overflow_add-result : goal.overflow_add-result
overflow_add-result c = omega (arith, (there (goal.at.overflow_add-result c).After-print_sheet-w c.if-w-ne0.false).room)

pub returns : goal.returns
returns c = sheet_ended _ _ _ _ (there (goal.at.returns c).After-print_sheet-w c.if-w-ne0.false)
