use Rattle.tree.specs.Bytes.{axis_of}
use Rattle.sizes.proofs.Fill.{along_sized, beside_sized}
use Rattle.sizes.proofs.Sides.{under_sides}
use Rattle.sizes.proofs.natural.finish_group.Goals as goal

pub store_natural-requires : goal.store_natural-requires
store_natural-requires c = let k = c.requires.0 in
    (c.requires.1, rw c.span_size-z.ensures (under_sides (axis_of c.args.across) _ (rw along_sized k.along) (rw beside_sized k.beside)))
