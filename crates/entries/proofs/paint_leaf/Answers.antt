use mathlib.Core.Path.{◌≡◌, ◌∙◌}
use native.Mathlib.Omega.{arith}
use lib.ListN.{drop, length-drop}
use borrow.Author.Rules.{part_to_end}
use Rattle.tree.specs.Bytes.{length_at}
use Rattle.entries.proofs.EntryParts.{long, in_tree, in_list, in_entry, few, count_is, base_is, paintable, painted_is}
use Rattle.entries.proofs.paint_leaf.Goals as goal

pub entry_at-e-requires : goal.entry_at-e-requires
entry_at-e-requires c = omega (arith, long c.requires.begins)

pub overflow_add-middle : goal.overflow_add-middle
overflow_add-middle c = omega (arith, in_entry c.requires.begins _ c.entry_at-e.ensures)

pub overflow_add-end : goal.overflow_add-end
overflow_add-end c = omega (
  arith,
  in_entry c.requires.begins _ c.entry_at-e.ensures,
)

pub overflow_add-text : goal.overflow_add-text
overflow_add-text c = omega (
  arith,
  in_tree c.requires.begins _ c.entry_at-e.ensures,
)

pub slice_bounds-length_at-count : goal.slice_bounds-length_at-count
slice_bounds-length_at-count c = omega (
  arith,
  in_tree c.requires.begins _ c.entry_at-e.ensures,
)

pub slice_bounds-length_at-start : goal.slice_bounds-length_at-start
slice_bounds-length_at-start c = omega (arith, in_tree c.requires.begins _ c.entry_at-e.ensures)

pub length_at-requires : goal.length_at-requires
length_at-requires c = let a = c.args in
    let at = c.entry_at-e.result.spot.at in
    rw (part_to_end a.tree.now at, length-drop at a.tree.now)
    (omega (
      arith,
      in_tree c.requires.begins _
          c.entry_at-e.ensures,
    ))

pub overflow_add-stop : goal.overflow_add-stop
overflow_add-stop c = omega (
  arith,
  in_tree c.requires.begins _
      c.entry_at-e.ensures,
  c.length_at.ensures.small,
)

pub natural_at-requires : goal.natural_at-requires
natural_at-requires c = in_list c.requires.begins _
    c.entry_at-e.ensures

pub allotted_at-requires : goal.allotted_at-requires
allotted_at-requires c = in_list c.requires.begins _
    c.entry_at-e.ensures

pub slice_bounds-paint_block-end : goal.slice_bounds-paint_block-end
slice_bounds-paint_block-end c = let a = c.args in
    let at = c.entry_at-e.result.spot.at in
    let n : c.length_at.result ≡ length_at (drop at a.tree.now) = c.length_at.ensures.value ∙ rw (part_to_end a.tree.now at) in
    omega (arith, in_tree c.requires.begins _ c.entry_at-e.ensures)

pub slice_bounds-paint_block-end-2 : goal.slice_bounds-paint_block-end-2
slice_bounds-paint_block-end-2 c = omega (
  arith,
  in_entry c.requires.begins _
      c.entry_at-e.ensures,
)

pub offset_bounds-leaf-middle : goal.offset_bounds-leaf-middle
offset_bounds-leaf-middle c = omega (
  arith,
  few c.requires.begins _
      c.entry_at-e.ensures,
)

pub slice_bounds-paint_block-end-3 : goal.slice_bounds-paint_block-end-3
slice_bounds-paint_block-end-3 c = omega (arith, in_entry c.requires.begins _ c.entry_at-e.ensures)

pub paint_block-requires : goal.paint_block-requires
paint_block-requires c = let a = c.args in
    rw (base_is c.requires.begins _ c.entry_at-e.ensures _
    (c.length_at.ensures.value ∙ rw (part_to_end a.tree.now c.entry_at-e.result.spot.at)) _ _ c.natural_at.ensures.value
    c.allotted_at.ensures.value _ c.flags_of.ensures) (paintable c.requires.begins _ c.entry_at-e.ensures _
    (c.length_at.ensures.value ∙ rw (part_to_end a.tree.now c.entry_at-e.result.spot.at)) _ _ c.natural_at.ensures.value
    c.allotted_at.ensures.value _ c.flags_of.ensures c.requires.short c.allotted_at.ensures.small _ _ _ c.requires.asks.fits
    c.requires.asks.apart c.requires.asks.room)

pub returns : goal.returns
returns c = λ q.
    let a = c.args in (
      count_is q.begins _ c.entry_at-e.ensures,
      c.paint_block.ensures ∙ painted_is q.begins _ c.entry_at-e.ensures _
          (c.length_at.ensures.value ∙ rw (part_to_end a.tree.now c.entry_at-e.result.spot.at)) _ _
          c.natural_at.ensures.value c.allotted_at.ensures.value _ c.flags_of.ensures a.out.now,
    )
