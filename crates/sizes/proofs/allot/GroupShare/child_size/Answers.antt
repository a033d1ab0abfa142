use native.Mathlib.Omega.{arith}
use Rattle.tree.specs.Bytes.{axis_of}
use Rattle.sizes.specs.Sizes.{child_size}
use Rattle.sizes.proofs.Sides.{sides_under}
use Rattle.sizes.proofs.allot.GroupShare.child_size.Goals as goal

pub overflow_add-extent : goal.overflow_add-extent
overflow_add-extent c = omega (arith, c.part.ensures.low, c.requires.0.small, c.along.ensures, sides_under (axis_of c.args.self.across) _ c.requires.1)

pub returns : goal.returns
unfolding child_size
returns c = rw (
  c.sized.ensures,
  c.beside.ensures,
  c.part.ensures.value,
  c.along.ensures,
)
