use Rattle.std.proofs.Common.{◌≡◌, ◌+◌, ◌-◌, ◌*◌, arith, rules, true, refl, ℕ, List, length, take, drop}
use borrow.Author.Rules.{part_to_end}
use Rattle.tree.specs.declared.front.Front.{Front}
use Rattle.tree.specs.Clauses.{front_of}
use Rattle.tree.proofs.Fronts.{front_asks}
use Rattle.tree.proofs.Passing.{Some, More, turn, over, InsideNext, inside_at, next_is}
use Rattle.sizes.specs.declared.Size.{Size}
use Rattle.sizes.specs.Clauses.{ReadyTrees, Allots, put_size, group_of, child_of, natural_at}
use Rattle.sizes.proofs.Allotted.{Turn, Kid, begins, kid_ready, child_low, has_part, index_low, next, ends, text_shorter, store_asks, leaf_gives}
use Rattle.sizes.proofs.Allotted.{group_ready, group_gives}
use Rattle.sizes.proofs.allot.+allot_group.Goals as goal
use Rattle.sizes.proofs.allot.+allot_group.Goals.{In-loop-at, then-t, else-t}

-- ---- inside the loop, and what is known there

-- the list where the loop begins: the group's own size is in it
abbrev list_at : (t : ℕ) → In-loop-at t → List ℕ
list_at t k = k.open_group-g.new.list

-- a description of the group that was opened
record Known (t : ℕ) (k : In-loop-at t) : Type 0 where
  z : Size
  own : List ℕ
  q : let a = k.args in ReadyTrees a.settings.now a.s.now a.across a.node z own
  le : list_at t k ≡ put_size own (4 * k.args.node + 2) z
  is : k.open_group-g.result ≡ group_of k.args.settings.now k.args.across q.trees z

abbrev known_at : (t : ℕ) (k : In-loop-at t) → Known t k
known_at t k =
    let d = k.open_group-g in
    record { z = k.args.z; own = k.args.list.now; q = k.requires; le = d.ensures.stored; is = d.ensures.value k.requires }

abbrev turn_at : (t : ℕ) (k : In-loop-at t) (x : Known t k) → let a = k.args in let m = k.loop-at in
    More (Turn a.settings.now a.s.now a.across a.node x.z x.own x.q (list_at t k) x.le m.at m.i m.child m.list)
turn_at t k x = let m = k.loop-at in turn k.args.s.now m.at _ (λ rest l. l.passing) (m.invariant x.z x.own x.q x.le x.is) k.loop-at-test.true

-- the bytes of the next child and of those after it
abbrev part_at : (t : ℕ) → In-loop-at t → List ℕ
part_at t k = let s = k.args.s.now in let at = k.loop-at.at in take (length s - at) (drop at s)

-- its front is read
inside : (t : ℕ) (k : In-loop-at t) (f : Front) → f ≡ front_of (part_at t k) → InsideNext k.args.s.now k.loop-at.at (part_at t k) f
inside t k f e =
    let s = k.args.s.now in
    let at = k.loop-at.at in
    inside_at s at (turn_at t k (known_at t k)).holds.passing _ (part_to_end s at) _ e

-- its sizes are known: the natural one, and the one that it is allotted
module _ (t : ℕ) (k : In-loop-at t) (x : Known t k) (n c : Size) (ne : n ≡ natural_at k.loop-at.list k.loop-at.child)
    (ce : c ≡ child_of k.open_group-g.result n k.loop-at.i) where
  abbrev kid_at : let m = k.loop-at in Kid k.args.settings.now (part_at t k) m.child c m.list
  kid_at =
      let m = k.loop-at in
      kid_ready _ _ _ _ _ _ x.q (list_at t k) x.le m.at m.i m.child m.list _ _ (turn_at t k x).holds _ x.is _ _ ne ce _ (part_to_end k.args.s.now m.at)

  module _ (f : Front) (fe : f ≡ front_of (part_at t k)) where
    abbrev leaf_done : f.leaf ≡ true → (l : List ℕ) → l ≡ put_size k.loop-at.list (4 * k.loop-at.child + 2) c
        → let m = k.loop-at in Allots k.args.settings.now kid_at.tree m.child c (m.child + 1) m.list l
    leaf_done b l e = leaf_gives _ _ _ _ _ kid_at _ fe b _ _ refl e

    -- a turn is done
    abbrev step : (r : ℕ) (l : List ℕ) → let m = k.loop-at in let a = k.args in Allots k.args.settings.now kid_at.tree m.child c r m.list l
        → Some (Turn a.settings.now a.s.now a.across a.node x.z x.own x.q (list_at t k) x.le (m.at + f.end) (m.i + 1) r l)
    step r l d =
        let m = k.loop-at in
        next _ _ _ _ _ _ x.q (list_at t k) x.le m.at m.i m.child m.list _ _ (turn_at t k x).holds _ x.is _ _ ne ce _ (part_to_end k.args.s.now m.at) _ _ d _ fe

-- ---- before the next child is allotted its size

pub natural_at-requires : goal.natural_at-requires
natural_at-requires t c =
    let k = (goal.at.natural_at-requires t c).In-loop-at in
    let m = c.loop-at in
    let x = known_at t k in
    let long : length m.list ≡ 2048 = search rules in
    child_low _ _ _ _ _ _ x.q (list_at t k) x.le m.at m.i m.child m.list _ _ (turn_at t k x).holds _ x.is long

pub read_front-t-requires : goal.read_front-t-requires
read_front-t-requires t c =
    let k = (goal.at.read_front-t-requires t c).In-loop-at in
    let s = c.args.s.now in
    let m = c.loop-at in
    front_asks _ _ (next_is s m.at (turn_at t k (known_at t k)).holds.passing _ (part_to_end s m.at))

pub child_size-size-requires : goal.child_size-size-requires
child_size-size-requires t c =
    let k = (goal.at.child_size-size-requires t c).In-loop-at in
    let m = c.loop-at in
    let x = known_at t k in
    (has_part _ _ _ _ _ _ x.q (list_at t k) x.le m.at m.i m.child m.list _ _ (turn_at t k x).holds _ x.is, c.natural_at.ensures.small)

pub overflow_add-i : goal.overflow_add-i
overflow_add-i t c =
    let k = (goal.at.overflow_add-i t c).In-loop-at in
    let m = c.loop-at in
    let x = known_at t k in
    omega (arith, index_low _ _ _ _ _ _ x.q (list_at t k) x.le m.at m.i m.child m.list _ _ (turn_at t k x).holds _ x.is)

-- ---- a leaf

pub store_allotted-requires : goal.store_allotted-requires
store_allotted-requires t c =
    let k = (goal.at.store_allotted-requires t c).In-loop-at in
    let x = known_at t k in
    store_asks _ _ _ _ _ (kid_at t k x _ _ c.natural_at.ensures.value c.child_size-size.ensures) _ c.read_front-t.ensures

pub overflow_add-child-then-t : goal.overflow_add-child-then-t
overflow_add-child-then-t t c =
    let k = (goal.at.overflow_add-child-then-t t c).In-loop-at in
    let x = known_at t k in
    omega (arith, (store_asks _ _ _ _ _ (kid_at t k x _ _ c.natural_at.ensures.value c.child_size-size.ensures) _ c.read_front-t.ensures).0)

-- ---- a group

pub slice_bounds-allot_group-end : goal.slice_bounds-allot_group-end
slice_bounds-allot_group-end t c =
    let k = (goal.at.slice_bounds-allot_group-end t c).In-loop-at in omega (arith, (inside t k _ c.read_front-t.ensures).high)

pub allot_group-child-requires : goal.allot_group-child-requires
allot_group-child-requires t c =
    let k = (goal.at.allot_group-child-requires t c).In-loop-at in
    let x = known_at t k in
    let y = kid_at t k x _ _ c.natural_at.ensures.value c.child_size-size.ensures in
    let v = c.read_front-t.ensures in
    let i = inside t k _ v in (
      omega (arith, c.decreases, text_shorter _ _ _ _ _ y _ v _ i.part),
      group_ready _ _ _ _ _ y _ v _ i.part c.if-t.false,
    )

-- ---- either

pub loop-at-preserved : goal.loop-at-preserved
loop-at-preserved t c = λ z own q le ge.
    let k = (goal.at.loop-at-preserved t c).In-loop-at in
    let x : Known t k = record { z = z; own = own; q = q; le = le; is = ge } in
    let ne = c.natural_at.ensures.value in
    let ce = c.child_size-size.ensures in
    let v = c.read_front-t.ensures in
    let y = kid_at t k x _ _ ne ce in
    let i = inside t k _ v in
    step t k x _ _ ne ce _ v _ _
    (elim c.if-t.branch [
      | then-t w ↦ rw (w.child-is, w.list-is) (leaf_done t k x _ _ ne ce _ v w.if-t.true _ w.store_allotted.ensures)
      | else-t w ↦ let h = w.if-t.false in
          rw (w.child-is, w.list-is)
          (group_gives _ _ _ _ _ y _ v _ i.part h _ _ (w.allot_group-child.ensures (group_ready _ _ _ _ _ y _ v _ i.part h)))
    ])

-- ---- all are allotted theirs

pub loop-at-init : goal.loop-at-init
loop-at-init t c = λ z own q le e. begins _ _ _ _ _ _ q _ le

pub returns : goal.returns
returns t c = λ q.
    let m = c.loop-at in
    let d = c.open_group-g in
    ends _ _ _ _ _ _ q _ d.ensures.stored m.at m.i m.child m.list
    (over c.args.s.now m.at _ (λ rest l. l.passing) (m.invariant _ _ q d.ensures.stored (d.ensures.value q)) c.loop-at-test.false)
