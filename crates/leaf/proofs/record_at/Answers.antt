use native.Mathlib.Omega.{arith}
use Rattle.entries.proofs.EntryParts.{long, in_list, in_entry, few}
use Rattle.leaf.proofs.Records.{few_v, record_is}
use Rattle.leaf.proofs.record_at.Goals as goal

pub entry_at-e-requires : goal.entry_at-e-requires
entry_at-e-requires c = omega (arith, long c.requires.begins)

pub list_at-requires : goal.list_at-requires
list_at-requires c = (
  omega (arith, in_entry c.requires.begins _ c.entry_at-e.ensures),
  omega (arith, few c.requires.begins _ c.entry_at-e.ensures, few_v c.requires.begins _ c.entry_at-e.ensures),
)

pub overflow_add-e : goal.overflow_add-e
overflow_add-e c = omega (arith, few c.requires.begins _ c.entry_at-e.ensures)

pub list_at-requires-2 : goal.list_at-requires-2
list_at-requires-2 c = (
  omega (arith, in_entry c.requires.begins _ c.entry_at-e.ensures),
  few_v c.requires.begins _ c.entry_at-e.ensures,
)

pub allotted_at-requires : goal.allotted_at-requires
allotted_at-requires c = in_list c.requires.begins _ c.entry_at-e.ensures

pub returns : goal.returns
returns c = λ q.
    record_is q.begins _ c.entry_at-e.ensures _ c.allotted_at.ensures.value _
    c.flags_of.ensures _ _ c.list_at.ensures c.list_at-2.ensures
