-- Document 02, 14, in its own words: "two trees that differ only inside Cells' texts, each text having in both the same number of lines, line for line of the
-- same length". `alike_is` (proofs/Lines) says that these are the trees that are `Alike`.
use Rattle.std.specs.Prelude.{◌≡◌}
use Rattle.tree.specs.Tree.{Tree, Trees, cell, group, none, more}
use Rattle.text.specs.Text.{line_lengths}

unfoldable mutual
  unfolding line_lengths

  pub SameLines : Tree → Tree → Type 0
  SameLines (cell x) (cell y) = line_lengths x ≡ line_lengths y
  SameLines (cell x) (group b us) = ⊥
  SameLines (group a ts) (cell y) = ⊥
  SameLines (group a ts) (group b us) = (a ≡ b) × SameLines* ts us

  pub SameLines* : Trees → Trees → Type 0
  SameLines* none none = Unit {0}
  SameLines* none (more u us) = ⊥
  SameLines* (more t ts) none = ⊥
  SameLines* (more t ts) (more u us) = SameLines t u × SameLines* ts us
