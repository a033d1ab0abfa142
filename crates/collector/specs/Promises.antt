-- Definitions used in the statements of the theorems about this crate's functions.
use Rattle.std.specs.Prelude.{ℕ, ◌+◌, ◌≤◌, List, map, get_or, length, take, leb, ◌≡◌}
use Rattle.std.proofs.Math.Option.{Option, some}
use Rattle.common.specs.Choice.{pick}
use Rattle.common.specs.Outcome.{Outcome}
use Rattle.settings.specs.declared.Settings.{Settings}
use Rattle.tree.specs.Tree.{Tree, nodes}
use Rattle.sizes.specs.Sizes.{Sizes, tree_sizes}
use Rattle.sizes.specs.Input.{given, input_of}
use Rattle.collector.specs.declared.Collected.{Collected}
use Rattle.collector.specs.declared.SizeRecord.{SizeRecord}
use Rattle.collector.specs.Below.{belows}

-- "a node's own number plus 1 plus that count"
abbrev pub past_node : List ℕ → ℕ → ℕ
past_node bs n = n + 1 + get_or bs n 0

-- node n's next sibling, where m is its parent: that sum "exactly where this is no more than its parent's number plus its parent's count; elsewhere .. it has
-- none"
abbrev pub sibling_of : List ℕ → ℕ → ℕ → Option ℕ
sibling_of bs m n = pick (leb (past_node bs n) (m + get_or bs m 0)) (some (past_node bs n)) Option.none

abbrev pub no_size_record : SizeRecord
no_size_record = record { natural_width = 0; natural_height = 0; width = 0; height = 0; below = 0 }

abbrev pub sizes_of : SizeRecord → Sizes
sizes_of r = record { natural = record { width = r.natural_width; height = r.natural_height }; allotted = record { width = r.width; height = r.height } }

abbrev pub below_in : SizeRecord → ℕ
below_in r = r.below

-- the sizes in the entries that the answer counts
abbrev pub sizes_listed : Outcome Collected (List SizeRecord) → List Sizes
sizes_listed o = map sizes_of (take o.answer.count o.memory)

-- and the numbers of nodes below
abbrev pub below_listed : Outcome Collected (List SizeRecord) → List ℕ
below_listed o = map below_in (take o.answer.count o.memory)

-- an accepted call: its settings and tree, and that its list now has their sizes and counts
pub record SizesCollected (bs ts : List ℕ) (l : List SizeRecord) (o : Outcome Collected (List SizeRecord)) : Type 0 where
  pub settings : Settings
  pub tree : Tree
  pub input : input_of bs ts ≡ given settings tree
  pub room : nodes tree ≤ length l
  pub count : o.answer.count ≡ nodes tree
  pub sizes : sizes_listed o ≡ tree_sizes settings tree
  pub counts : below_listed o ≡ belows tree
