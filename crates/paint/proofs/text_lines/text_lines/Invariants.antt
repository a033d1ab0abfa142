use mathlib.Core.Path.{◌≡◌}
use Prim.Native.Nat.{◌+◌, ◌≤◌}
use lib.ListN.{length}
use Rattle.common.specs.Every.{Every}
use Rattle.text.specs.Text.{lines}
use Rattle.text.proofs.Lines.{lines_from}
use Rattle.block.specs.Block.{text_line}
use Rattle.paint.specs.Clauses.{clear}
use Rattle.paint.proofs.Ground.{Still}
use Rattle.paint.proofs.text_lines.text_lines.Given as goal

-- the lines still to come, those of the text from `from` on, make the whole over spaces and padding; none is wider than the widest
abbrev pub invariant-loop-after : goal.invariant-loop-after
invariant-loop-after l =
    (length (lines_from l.from l.text) ≡ l.after)
    × Every (λ x. length x ≤ l.widest) (lines_from l.from l.text)
    × Still (clear l.s l.inner) (text_line l.s l.inner l.widest) (lines l.text) (lines_from l.from l.text) l.at l.p l.stride (l.s.left + l.inner + l.s.right)
    l.initial.out l.out
