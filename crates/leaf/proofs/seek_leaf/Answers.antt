use mathlib.Core.Path.{◌≡◌, sym, ◌∙◌}
use Prim.Native.Nat.{◌≤◌}
use lib.ListN.{length}
use lib.Seq.{length-take-le}
use borrow.Author.Rules.{rules}
use Rattle.walk.proofs.Inputs.{Taken, taken, call_large, call_stride, FitsSheet, walk_ready, list_end_in}
use Rattle.leaf.proofs.Calls.{refuses_input, refuses_large, lists, seeks_hit, misses}
use Rattle.leaf.proofs.seek_leaf.Goals as goal
use Rattle.leaf.proofs.seek_leaf.Goals.{Else-m-ne0, Else-is_large, After-walk_tree-n}

-- what is known once the sizes were measured
took : (c : Else-m-ne0) → let m = c.measure_tree-m in Taken c.args.settings.now c.args.tree.now m.result m.new.list
took c =
    let m = c.measure_tree-m in
    let size : length m.new.list ≡ 2048 = search rules in
    taken _ _ _ _ _ m.ensures.value m.ensures.list c.if-m-ne0.false size

-- and once the sheet is not too large
module _ (c : Else-is_large) (k : let m = c.measure_tree-m in Taken c.args.settings.now c.args.tree.now m.result m.new.list) where
  fits : let m = c.measure_tree-m in FitsSheet c.args.settings.now c.args.tree.now m.result m.new.list c.frame_of-f.result.stride
  fits =
      let size = c.natural_at.ensures.value in
      let frame = c.frame_of-f.ensures in
      record { took = k; large = sym (call_large k size frame) ∙ sym c.is_large.ensures ∙ c.if-is_large.false; stride_is = call_stride k size frame }

-- the entries end in the list that was lent
module _ (c : After-walk_tree-n) (k : let m = c.measure_tree-m in FitsSheet c.args.settings.now c.args.tree.now m.result m.new.list c.frame_of-f.result.stride)
  where
    front : c.walk_tree-n.result ≤ length c.walk_tree-n.new.leaves
    front = let g = c.separator.ensures.value in list_end_in k _ _ g c.requires _ _ _ (c.walk_tree-n.ensures (walk_ready k _ _ g c.requires))

pub returns-then-m-ne0-clause-seeks : goal.returns-then-m-ne0-clause-seeks
returns-then-m-ne0-clause-seeks c = refuses_input _ _ _ _ c.measure_tree-m.ensures.value c.if-m-ne0.true

pub returns-then-is_large-clause-seeks : goal.returns-then-is_large-clause-seeks
returns-then-is_large-clause-seeks c =
    let k = took (goal.at.returns-then-is_large-clause-seeks c).Else-m-ne0 in
    let large = sym (call_large k c.natural_at.ensures.value c.frame_of-f.ensures) ∙ sym c.is_large.ensures ∙ c.if-is_large.true in
    rw c.number.ensures (refuses_large _ _ _ _ _ k.input large)

pub walk_tree-n-requires : goal.walk_tree-n-requires
walk_tree-n-requires c =
    let p = goal.at.walk_tree-n-requires c in
    walk_ready (fits p.Else-is_large (took p.Else-m-ne0)) _ _ c.separator.ensures.value c.requires

pub slice_bounds-find_leaf-end : goal.slice_bounds-find_leaf-end
slice_bounds-find_leaf-end c =
    let p = goal.at.slice_bounds-find_leaf-end c in
    front p.After-walk_tree-n (fits p.Else-is_large (took p.Else-m-ne0))

pub slice_bounds-find_leaf-end-2 : goal.slice_bounds-find_leaf-end-2
slice_bounds-find_leaf-end-2 c =
    let p = goal.at.slice_bounds-find_leaf-end-2 c in
    sym (length-take-le _ _ (front p.After-walk_tree-n (fits p.Else-is_large (took p.Else-m-ne0))))

pub find_leaf-found-requires : goal.find_leaf-found-requires
find_leaf-found-requires c =
    let p = goal.at.find_leaf-found-requires c in
    let k = fits p.Else-is_large (took p.Else-m-ne0) in
    let g = c.separator.ensures.value in
    lists k _ _ g c.requires _ _ _ (c.walk_tree-n.ensures (walk_ready k _ _ g c.requires))

pub returns-else-found-clause-seeks : goal.returns-else-found-clause-seeks
returns-else-found-clause-seeks c =
    let p = goal.at.returns-else-found-clause-seeks c in
    let k = fits p.Else-is_large (took p.Else-m-ne0) in
    let g = c.separator.ensures.value in
    let w = c.walk_tree-n.ensures (walk_ready k _ _ g c.requires) in
    rw c.number-else-found.ensures
    (misses k _ _ g c.requires _ _ _ w _ _ (c.find_leaf-found.ensures (lists k _ _ g c.requires _ _ _ w)) c.if-found.false)

pub returns-then-found-clause-seeks : goal.returns-then-found-clause-seeks
returns-then-found-clause-seeks c =
    let p = goal.at.returns-then-found-clause-seeks c in
    let k = fits p.Else-is_large (took p.Else-m-ne0) in
    let g = c.separator.ensures.value in
    let w = c.walk_tree-n.ensures (walk_ready k _ _ g c.requires) in
    seeks_hit k _ _ g c.requires _ _ _ w _ _ (c.find_leaf-found.ensures (lists k _ _ g c.requires _ _ _ w)) c.if-found.true
