use native.Mathlib.Omega.{arith}
use Rattle.plan.specs.Ends.{outer}
use Rattle.plan.proofs.ends.outer_size.Goals as goal

pub returns : goal.returns
unfolding outer
returns c = record {
  value = rw (c.separator-marks.ensures.value, c.from.ensures, c.from-2.ensures, c.from-3.ensures, c.from-4.ensures);
  wide = record { wide = omega arith; tall = omega arith };
}
