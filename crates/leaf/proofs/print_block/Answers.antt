use native.Mathlib.Omega.{arith}
use mathlib.Core.Path.{◌≡◌, refl, sym}
use lib.ListN.{length, length-set}
use lib.Seq.{length-take-le}
use borrow.Author.Rules.{rules}
use Rattle.entries.proofs.EntryParts.{long, in_list, in_entry}
use Rattle.frame.proofs.Printers.{print_refused}
use Rattle.leaf.proofs.Alone.{line_low, bytes_low, print_no_room, ends_room, paints, alone_whole}
use Rattle.leaf.proofs.print_block.Goals as goal
use Rattle.leaf.proofs.print_block.Goals.{After-end_lines}

-- the output keeps its length
same : (c : After-end_lines) → length c.end_lines.new.out ≡ length c.args.out.now
same c = search rules

pub entry_at-e-requires : goal.entry_at-e-requires
entry_at-e-requires c = omega (arith, long c.requires.begins)

pub overflow_add-end : goal.overflow_add-end
overflow_add-end c = omega (arith, in_entry c.requires.begins _ c.entry_at-e.ensures)

pub overflow_add-end-2 : goal.overflow_add-end-2
overflow_add-end-2 c = omega (arith, in_entry c.requires.begins _ c.entry_at-e.ensures)

pub allotted_at-size-requires : goal.allotted_at-size-requires
allotted_at-size-requires c = in_list c.requires.begins _ c.entry_at-e.ensures

pub overflow_add-stride : goal.overflow_add-stride
overflow_add-stride c =
    let size = c.allotted_at-size.ensures in
    omega (arith, line_low c.requires.begins _ c.entry_at-e.ensures _ size.value _ c.flags_of-flags.ensures size.small _ c.block_width-width.ensures)

pub overflow_mul-height : goal.overflow_mul-height
overflow_mul-height c =
    let size = c.allotted_at-size.ensures in
    omega (
      arith,
      bytes_low c.requires.begins _ c.entry_at-e.ensures _ size.value _ c.flags_of-flags.ensures size.small _ c.block_width-width.ensures _
          c.block_height-height.ensures,
    )

pub returns-then-out-n : goal.returns-then-out-n
returns-then-out-n c = λ q.
    let size = c.allotted_at-size.ensures in
    print_refused c.refused.ensures
    (print_no_room q.begins _ c.entry_at-e.ensures _ size.value _ c.flags_of-flags.ensures size.small _ c.block_width-width.ensures _
    c.block_height-height.ensures q.fits _ c.saturating_sub-n.ensures _ c.if-out-n.true)

pub end_lines-requires : goal.end_lines-requires
end_lines-requires c =
    let q = c.requires in
    let size = c.allotted_at-size.ensures in
    ends_room q.begins _ c.entry_at-e.ensures _ size.value _ c.flags_of-flags.ensures size.small _ c.block_width-width.ensures _
    c.block_height-height.ensures q.fits _ c.saturating_sub-n.ensures _ c.if-out-n.false

pub bounds-leaf-2 : goal.bounds-leaf-2
bounds-leaf-2 c = omega (arith, long c.requires.begins)

pub slice_bounds-paint_leaves-end : goal.slice_bounds-paint_leaves-end
slice_bounds-paint_leaves-end c = rw length-set (in_entry c.requires.begins _ c.entry_at-e.ensures)

pub slice_bounds-paint_leaves-end-2 : goal.slice_bounds-paint_leaves-end-2
slice_bounds-paint_leaves-end-2 c = sym (length-take-le _ _ (rw length-set (in_entry c.requires.begins _ c.entry_at-e.ensures)))

pub paint_leaves-requires : goal.paint_leaves-requires
paint_leaves-requires c =
    let q = c.requires in
    let size = c.allotted_at-size.ensures in
    paints q.begins _ c.entry_at-e.ensures _ size.value _ c.flags_of-flags.ensures size.small _ c.block_width-width.ensures _
    c.block_height-height.ensures q.fits _ c.saturating_sub-n.ensures q.short c.args.out.now c.if-out-n.false _
    (same (goal.at.paint_leaves-requires c).After-end_lines) _ refl

pub returns : goal.returns
returns c = λ q.
    let out = c.args.out.now in
    let size = c.allotted_at-size.ensures in
    let keeps = same (goal.at.returns c).After-end_lines in
    let p = paints q.begins _ c.entry_at-e.ensures _ size.value _ c.flags_of-flags.ensures size.small _ c.block_width-width.ensures _
    c.block_height-height.ensures q.fits _ c.saturating_sub-n.ensures q.short out c.if-out-n.false _ keeps _ refl in
    alone_whole q.begins _ c.entry_at-e.ensures _ size.value _ c.flags_of-flags.ensures size.small _ c.block_width-width.ensures _
    c.block_height-height.ensures q.fits _ c.saturating_sub-n.ensures q.short out c.if-out-n.false _ keeps _ refl _ _ c.end_lines.ensures
    (c.paint_leaves.ensures p)
