-- What `paint_block` leaves, place by place.
use Prim.Native.Nat.{ℕ}
use mathlib.Core.List.{List}
use Rattle.settings.specs.declared.Settings.{Settings}
use Rattle.sizes.specs.declared.Size.{Size}
use Rattle.sizes.specs.Sizes.{leaf_size}
use Rattle.sizes.specs.Clauses.{Fits}
use Rattle.block.specs.declared.Flags.{Flags}
use Rattle.paint.specs.Clauses.{Paintable}

module _ {s : Settings} {t : List ℕ} {n z : Size} {f : Flags} {h v : List ℕ} {base stride len : ℕ} (k : Paintable s t n z f h v base stride len) where
  pub paintable_fits : Fits (leaf_size s t) z
  paintable_fits = rw (← k.natural_is) k.fits
