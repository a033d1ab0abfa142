use Rattle.std.proofs.Common.{◌≡◌, arith}
use Rattle.std.proofs.lemmas.Result.{err_from_is_err_and}
use Rattle.tree.specs.Planning.{header_in}
use Rattle.tree.specs.Bytes.{Element}
use Rattle.tree.proofs.Steps.{header_is, element_refused, element_cell, element_range}
use Rattle.tree.proofs.read_cell.Goals as goal
use Rattle.tree.proofs.read_cell.Goals.{In_ok-tag}

front : (c : In_ok-tag) → let a = c.args in let h = c.in_ok-tag.field-0 in
    header_in a.planning a.s.now a.depth a.count ≡ Element h.tag h.len
front c = header_is _ _ _ _ _ c.in_ok-tag.ensures.value

pub returns-in_err-tag : goal.returns-in_err-tag
returns-in_err-tag c = let p = err_from_is_err_and c.from_residual.result c.from_residual.ensures.1 in
    rw (p.1, p.2) (element_refused _ _ _ _ _ c.in_err-tag.ensures.value)

pub returns-in-1 : goal.returns-in-1
returns-in-1 c = let h = c.in_ok-tag.ensures.fits in record {
  is = element_cell _ _ _ _ _ _ (front (goal.at.returns-in-1 c).In_ok-tag) _ c.in-1.is c.if-is_text.ensures;
  low = omega arith;
  whole = h.whole;
  before = h.before;
}

pub returns-in-1-2 : goal.returns-in-1-2
returns-in-1-2 c = element_cell _ _ _ _ _ _ (front (goal.at.returns-in-1-2 c).In_ok-tag) _ c.in-1.is c.if-is_text.ensures

pub returns-in-4 : goal.returns-in-4
returns-in-4 c = let h = c.in_ok-tag.ensures.fits in record {
  is = element_range _ _ _ _ _ _ (front (goal.at.returns-in-4 c).In_ok-tag) _ c.in-4.is c.if-is_range.ensures;
  low = omega arith;
  whole = h.whole;
  before = h.before;
}

pub returns-in-4-2 : goal.returns-in-4-2
returns-in-4-2 c = element_range _ _ _ _ _ _ (front (goal.at.returns-in-4-2 c).In_ok-tag) _ c.in-4.is c.if-is_range.ensures
