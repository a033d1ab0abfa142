use mathlib.Core.Path.{◌≡◌, refl, ap, ◌∙◌}
use native.Mathlib.Omega.{arith}
use Prim.Native.Nat.{◌+◌}
use lib.ListN.{drop}
use borrow.Author.Rules.{part_to_end}
use Rattle.tree.specs.declared.front.Front.{Front}
use Rattle.tree.specs.Bytes.{axis_of}
use Rattle.tree.specs.Clauses.{front_of}
use Rattle.sizes.proofs.Sides.{sides_under}
use Rattle.walk.proofs.Pieces.{end_there, cuts_there}
use Rattle.walk.proofs.steps.Group.prepare_child.Goals as goal

pub overflow_add-end : goal.overflow_add-end
overflow_add-end c = let a = c.args in
    omega (arith, end_there a.s.now a.g.at _ c.read_front-t.ensures, c.requires.in_bytes)

pub overflow_cast-extent : goal.overflow_cast-extent
overflow_cast-extent c = let a = c.args in
    omega (arith, c.along-extent.ensures, sides_under (axis_of a.self.across) _ c.allotted_at-z.ensures.small)

pub returns : goal.returns
returns c = let a = c.args in
    let f : c.read_front-t.result ≡ front_of (drop a.g.at a.s.now) =
    c.read_front-t.ensures ∙ ap front_of (part_to_end a.s.now a.g.at) in
    let small = sides_under (axis_of a.self.across) _ c.allotted_at-z.ensures.small in
    let cut = cuts_there a.along.now _ a.g.from _ _
    c.requires.in_along
    c.cut_in-cut.ensures in
    record {
      leaf_is = ap (λ (x : Front). x.leaf) f;
      across_is = ap (λ (x : Front). x.across) f;
      end_is = ap (λ (x : Front). a.g.at + x.end) f;
      last_is = refl;
      extent_is = c.along-extent.ensures ∙ rw c.allotted_at-z.ensures.value;
      other_is = c.beside.ensures ∙ rw c.allotted_at-z.ensures.value;
      extent_small = rw c.along-extent.ensures small.0;
      other_small = rw c.beside.ensures small.1;
      flags_are = c.child_flags.ensures;
      cuts = cut.0;
      front = cut.1;
    }
