use borrow.Author.Tests.{lt-leb, le-leb}
use Rattle.splits.specs.Cuts.{in_place_cut}
use Rattle.splits.proofs.cut_kept.Goals as goal

pub returns-then-list-gt512 : goal.returns-then-list-gt512
unfolding in_place_cut
returns-then-list-gt512 c = rw (c.short_splits3-parts.ensures, lt-leb _ 512 c.if-list-gt512.true)

pub returns : goal.returns
unfolding in_place_cut
returns c = rw (c.short_splits3-parts.ensures, le-leb _ 512 c.if-list-gt512.false)
