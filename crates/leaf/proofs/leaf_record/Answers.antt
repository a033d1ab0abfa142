use mathlib.Core.Path.{sym, ◌∙◌}
use borrow.Author.Rules.{rules}
use Rattle.leaf.proofs.Calls.{met}
use Rattle.leaf.proofs.leaf_record.Goals as goal

pub record_at-requires : goal.record_at-requires
record_at-requires c = (met c.seek_leaf.new.leaves _ 5120 (search rules) c.in-Ok.ensures.seeks.meets).shows

pub returns-in-Ok : goal.returns-in-Ok
returns-in-Ok c =
    let m = met c.seek_leaf.new.leaves _ 5120 (search rules) c.in-Ok.ensures.seeks.meets in
    c.record_at.ensures m.shows ∙ sym m.record_is

pub returns-in-Err : goal.returns-in-Err
returns-in-Err c = c.no_record.ensures ∙ sym c.in-Err.ensures.seeks.record_is
