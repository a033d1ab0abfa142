use mathlib.Core.Path.{refl, ◌∙◌}
use native.Mathlib.Omega.{arith}
use Rattle.typed.proofs.Written.{front_text, writing_none, spot_bounds, text_good, writing_more, writing_all}
use Rattle.typed.proofs.write.write_spots.Goals as goal

pub loop-i-init : goal.loop-i-init
loop-i-init c = λ ns r. writing_none _ _ _ _ ns r _

pub overflow_add-inside : goal.overflow_add-inside
overflow_add-inside c =
    let b = spot_bounds _ _ _ _ _ c.requires.is _ _ _ _ _ (c.loop-i.invariant c.requires.of c.requires.is) c.loop-i-test.true in
    omega (arith, c.requires.is.fits)

pub offset_bounds-sizes-s : goal.offset_bounds-sizes-s
offset_bounds-sizes-s c =
    let b = spot_bounds _ _ _ _ _ c.requires.is _ _ _ _ _ (c.loop-i.invariant c.requires.of c.requires.is) c.loop-i-test.true in
    omega (arith, c.requires.is.fits)

pub bounds-sizes-s : goal.bounds-sizes-s
bounds-sizes-s c =
    let b = spot_bounds _ _ _ _ _ c.requires.is _ _ _ _ _ (c.loop-i.invariant c.requires.of c.requires.is) c.loop-i-test.true in
    omega (arith, c.requires.is.fits)

pub overflow_add-inside-in-loop-i : goal.overflow_add-inside-in-loop-i
overflow_add-inside-in-loop-i c =
    let b = spot_bounds _ _ _ _ _ c.requires.is _ _ _ _ _ (c.loop-i.invariant c.requires.of c.requires.is) c.loop-i-test.true in
    omega (arith, c.requires.is.fits)

pub overflow_add-p : goal.overflow_add-p
overflow_add-p c =
    let b = spot_bounds _ _ _ _ _ c.requires.is _ _ _ _ _ (c.loop-i.invariant c.requires.of c.requires.is) c.loop-i-test.true in
    omega (arith, c.requires.is.fits)

pub overflow_sub-p : goal.overflow_sub-p
overflow_sub-p c =
    let b = spot_bounds _ _ _ _ _ c.requires.is _ _ _ _ _ (c.loop-i.invariant c.requires.of c.requires.is) c.loop-i-test.true in
    omega (arith, c.requires.is.fits)

pub put_front-requires : goal.put_front-requires
put_front-requires c =
    let b = spot_bounds _ _ _ _ _ c.requires.is _ _ _ _ _ (c.loop-i.invariant c.requires.of c.requires.is) c.loop-i-test.true in
    omega (arith, c.requires.is.fits)

pub overflow_add-sizes : goal.overflow_add-sizes
overflow_add-sizes c =
    let b = spot_bounds _ _ _ _ _ c.requires.is _ _ _ _ _ (c.loop-i.invariant c.requires.of c.requires.is) c.loop-i-test.true in
    omega (arith, c.requires.is.fits)

pub offset_bounds-sizes-s-in-loop-i : goal.offset_bounds-sizes-s-in-loop-i
offset_bounds-sizes-s-in-loop-i c =
    let b = spot_bounds _ _ _ _ _ c.requires.is _ _ _ _ _ (c.loop-i.invariant c.requires.of c.requires.is) c.loop-i-test.true in
    omega (arith, c.requires.is.fits)

pub bounds-sizes-s-in-loop-i : goal.bounds-sizes-s-in-loop-i
bounds-sizes-s-in-loop-i c =
    let b = spot_bounds _ _ _ _ _ c.requires.is _ _ _ _ _ (c.loop-i.invariant c.requires.of c.requires.is) c.loop-i-test.true in
    omega (arith, c.requires.is.fits)

pub overflow_add-sizes-in-loop-i : goal.overflow_add-sizes-in-loop-i
overflow_add-sizes-in-loop-i c =
    let b = spot_bounds _ _ _ _ _ c.requires.is _ _ _ _ _ (c.loop-i.invariant c.requires.of c.requires.is) c.loop-i-test.true in
    omega (arith, c.requires.is.fits)

pub bounds-sizes-s-in-loop-i-2 : goal.bounds-sizes-s-in-loop-i-2
bounds-sizes-s-in-loop-i-2 c =
    let b = spot_bounds _ _ _ _ _ c.requires.is _ _ _ _ _ (c.loop-i.invariant c.requires.of c.requires.is) c.loop-i-test.true in
    omega (arith, c.requires.is.fits)

pub overflow_add-sizes-in-loop-i-2 : goal.overflow_add-sizes-in-loop-i-2
overflow_add-sizes-in-loop-i-2 c =
    let b = spot_bounds _ _ _ _ _ c.requires.is _ _ _ _ _ (c.loop-i.invariant c.requires.of c.requires.is) c.loop-i-test.true in
    omega (arith, c.requires.is.fits)

pub offset_bounds-sizes-s-in-loop-i-2 : goal.offset_bounds-sizes-s-in-loop-i-2
offset_bounds-sizes-s-in-loop-i-2 c =
    let b = spot_bounds _ _ _ _ _ c.requires.is _ _ _ _ _ (c.loop-i.invariant c.requires.of c.requires.is) c.loop-i-test.true in
    omega (arith, c.requires.is.fits)

pub bounds-sizes-s-in-loop-i-3 : goal.bounds-sizes-s-in-loop-i-3
bounds-sizes-s-in-loop-i-3 c =
    let b = spot_bounds _ _ _ _ _ c.requires.is _ _ _ _ _ (c.loop-i.invariant c.requires.of c.requires.is) c.loop-i-test.true in
    omega (arith, c.requires.is.fits)

pub write_text-requires : goal.write_text-requires
write_text-requires c = rw c.put_front.auto.s
    (text_good _ _ _ _ _ c.requires.is _ _ _ _ _ (c.loop-i.invariant c.requires.of c.requires.is) c.loop-i-test.true _ refl c.loop-i.auto.out)

pub loop-i-preserved : goal.loop-i-preserved
loop-i-preserved c = λ ns r.
    let w = c.loop-i.invariant ns r in
    let b = spot_bounds _ _ _ _ _ r _ _ _ _ _ w c.loop-i-test.true in
    writing_more _ _ _ _ _ r _ _ _ _ _ w c.loop-i-test.true _ refl _ _
    (λ u h. c.write_text.ensures u h ∙ front_text _ _ _ _ _ u b.inside (rw c.tag.ensures at c.put_front.ensures)) refl

pub returns : goal.returns
returns c = λ ns r. writing_all ns _ _ _ _ _ (c.loop-i.invariant ns r) c.loop-i-test.false
