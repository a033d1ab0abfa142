use Rattle.std.proofs.Common.{arith}
use Rattle.text.proofs.Measured.{counted_size, counted_few}
use Rattle.text.proofs.measure.text_size.Goals as goal

pub overflow_add-result : goal.overflow_add-result
overflow_add-result c = omega (arith, counted_few _ _ c.count_feeds-c.ensures)

pub returns : goal.returns
returns c = counted_size _ _ c.count_feeds-c.ensures
