-- What the functions of this crate require and ensure, beyond the definitions; no theorem mentions it.
use Rattle.std.specs.Prelude.{◌≡◌, ℕ, ◌+◌, ◌≤◌, List, ◌++◌, ltb, take, drop, replicate}
use Rattle.std.proofs.lemmas.List.Edits.{sets}
use Rattle.common.specs.Choice.{pick}
use Rattle.common.specs.Outcome.{Outcome}
use Rattle.settings.specs.declared.Settings.{Settings}
use Rattle.tree.specs.Tree.{Tree, Trees, nodes, nodes*}
use Rattle.tree.specs.Promises.{Encodes, EncodesAll}
use Rattle.sizes.specs.Input.{Input, refused, given}
use Rattle.collector.specs.declared.Collected.{Collected}
use Rattle.collector.specs.declared.SizeRecord.{SizeRecord}
use Rattle.collector.specs.declared.LentSizes.{LentSizes}
use Rattle.collector.specs.declared.Sizing.{Sizing}
use Rattle.collector.specs.Records.{records_of, no_collected, collect_of}
use Rattle.collector.specs.Promises.{no_size_record}

-- s begins with a tree, whose nodes from `node` on fit a list of the length len
pub record ReadyBranch (s : List ℕ) (node len : ℕ) : Type 0 where
  pub tree : Tree
  pub is : Encodes tree s
  pub room : node + nodes tree ≤ len
  pub few : node + nodes tree ≤ 512

-- s is trees, whose nodes fit it
pub record ReadyBranches (s : List ℕ) (node len : ℕ) : Type 0 where
  pub trees : Trees
  pub are : EncodesAll trees s
  pub room : node + nodes* trees ≤ len
  pub few : node + nodes* trees ≤ 512

-- the next node, and the list, which was b₀, with the counts of n nodes from `node` on
pub record CountsBelow (node n : ℕ) (counts : List ℕ) (r : ℕ) (b₀ b : List ℕ) : Type 0 where
  pub next : r ≡ node + n
  pub stored : b ≡ sets b₀ node counts

-- where the first `room` entries of a list are lent, with the others after them
abbrev pub lent_with : Outcome Collected (List SizeRecord) → List SizeRecord → LentSizes
lent_with o rest = record { answer = o.answer; list = o.memory ++ rest }

abbrev pub lent_of : Input → List SizeRecord → ℕ → LentSizes
lent_of x l room = lent_with (collect_of x (take room l)) (drop room l)

abbrev pub no_records : List SizeRecord
no_records = replicate 512 no_size_record

-- the records of all nodes in an array of 512
abbrev pub record_array : Settings → Tree → List SizeRecord
record_array s t = records_of s t ++ drop (nodes t) no_records

-- the answer, and the records to write
abbrev pub refused_sizing : ℕ → Sizing
refused_sizing k = record { answer = no_collected k; records = no_records }

unfoldable pub sizing_of : Input → ℕ → Sizing
sizing_of (refused k) len = refused_sizing k
sizing_of (given s t) len = pick (ltb len (nodes t)) (refused_sizing 8) (record { answer = record { number = 0; count = nodes t }; records = record_array s t })

-- the records to write fit their array and a list of `len` entries
pub record FitsList (len : ℕ) (p : Sizing) : Type 0 where
  pub few : p.answer.count ≤ 512
  pub short : p.answer.count ≤ len
