use mathlib.Core.Path.{sym, ap, ◌∙◌}
use borrow.Author.Rules.{rules}
use Rattle.frame.proofs.Printers.{print_refused}
use Rattle.leaf.proofs.Calls.{met}
use Rattle.leaf.proofs.print_leaf.Goals as goal

pub print_block-requires : goal.print_block-requires
print_block-requires c = (met c.seek_leaf.new.leaves _ 5120 (search rules) c.in-Ok.ensures.seeks.meets).shows

pub returns-in-Ok : goal.returns-in-Ok
returns-in-Ok c =
    let m = met c.seek_leaf.new.leaves _ 5120 (search rules) c.in-Ok.ensures.seeks.meets in
    let w = c.print_block.ensures m.shows in
    let e = m.print_is c.args.out.now in
    record { value = w.0 ∙ ap (λ x. x.answer) (sym e); shown = w.1 ∙ ap (λ x. x.memory) (sym e) }

pub returns-in-Err : goal.returns-in-Err
returns-in-Err c =
    let both = print_refused c.refused.ensures (c.in-Err.ensures.seeks.print_is _) in
    record { value = both.0; shown = both.1 }
