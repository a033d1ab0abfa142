-- The least and the greatest size of a planning tree (document 02, request 10).
use Rattle.std.specs.Prelude.{ℕ, ◌+◌, ◌*◌, Bool, true, false, List, [], ◌∷◌}
use Rattle.common.specs.Choice.{pick}
use Rattle.settings.specs.declared.Settings.{Settings}
use Rattle.tree.specs.Planning.{Plan, Plans}
use Rattle.sizes.specs.declared.Size.{Size}
use Rattle.sizes.specs.Sizes.{sep, spanned, leaf_size}
use Rattle.frame.specs.Frame.{columns_of, lines_of}

unfoldable pub no_plans? : Plans → Bool
no_plans? Plans.none = true
no_plans? (Plans.more p ps) = false

-- a text of that width and line count, with the padding around it
unfoldable pub range_size : Settings → ℕ → ℕ → Size
range_size s w h = record { width = w + s.left + s.right; height = h + s.top + s.bottom }

-- at the least end, or at the greatest
unfoldable mutual
  pub end_size : Settings → Bool → Plan → Size
  end_size s most (Plan.cell t) = leaf_size s t
  end_size s most (Plan.range a b c d) = range_size s (pick most b a) (pick most d c)
  end_size s most (Plan.group x ps) = pick (no_plans? ps) (leaf_size s []) (spanned s x (end_sizes s most ps))

  pub end_sizes : Settings → Bool → Plans → List Size
  end_sizes s most Plans.none = []
  end_sizes s most (Plans.more p ps) = end_size s most p ∷ end_sizes s most ps

-- the sheet around a root of that size, with the outer marks and the margin: it is W and H (`outer_width`, `outer_height`, proofs/Calls.antt)
unfoldable pub outer : Settings → Size → Size
outer s z = record { width = columns_of s.margin (z.width + 2 * sep s); height = lines_of s.margin (z.height + 2 * sep s) }
