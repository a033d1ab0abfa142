use mathlib.Core.Path.{◌≡◌}
use mathlib.Core.Bool.{true}
use Rattle.sizes.specs.Sizes.{sep}
use Rattle.places.specs.declared.anchor.Siblings.{Siblings}
use Rattle.places.specs.Locating.{root_anchor}
use Rattle.places.proofs.Roots.{root_asks, root_gives}
use Rattle.places.proofs.locate_tree.Goals as goal
use Rattle.places.proofs.locate_tree.Goals.{After-separator}

-- the siblings are the root alone
abbrev root_at : After-separator → Siblings
root_at c = record {
  across = true;
  gap = c.separator.result;
  start = record { line = c.from.result; column = c.from-2.result; last_row = true; last_col = true };
}

root_is : (c : After-separator) → let s = c.args.s in root_at c ≡ record { across = true; gap = sep s; start = root_anchor s }
root_is c = rw (c.separator.ensures.value, c.from-2.ensures, c.from.ensures)

pub locate_node-requires : goal.locate_node-requires
locate_node-requires c = root_asks _ _ _ _ _ (root_is (goal.at.locate_node-requires c).After-separator) c.requires

pub returns : goal.returns
returns c = λ q.
    let e = root_is (goal.at.returns c).After-separator in
    root_gives _ _ _ _ _ e q _ _ _ _ _ (c.locate_node.ensures (root_asks _ _ _ _ _ e q))
