-- Split lists in arrays of 512 have at most 512 entries.
use mathlib.Core.Path.{◌≡◌, sym, ap, ◌∙◌}
use mathlib.Core.Bool.{Bool, true, false}
use Prim.Native.Nat.{ℕ, ◌≤◌}
use native.Mathlib.Omega.{arith}
use mathlib.Core.List.{List, []}
use lib.ListN.{length, length-append, length-replicate}
use lib.Dec.{leb}
use Rattle.common.specs.Choice.{pick}
use Rattle.common.specs.Arrays.{padded}
use Rattle.splits.specs.declared.SplitList.{SplitList}
use Rattle.splits.specs.declared.Positions.{Positions}
use Rattle.splits.specs.declared.CutParts.{CutParts}
use Rattle.splits.specs.declared.InPlaceCut.{InPlaceCut}
use Rattle.splits.specs.declared.ShortParts.{ShortParts}
use Rattle.splits.specs.Splits.{Cut, short_splits3, pair_of, Short, short_splits}
use Rattle.splits.specs.Lists.{list_of, split_list, position_list}
use Rattle.splits.specs.Cuts.{cut_answered, refused_cut, cut_of, in_place_cut, answered_short, refused_short, short_of}

padded_few : (l : List ℕ) → length (padded l) ≡ 512 → length l ≤ 512
padded_few l h = let k = simp (length-append, length-replicate) at h in omega arith

pub list_few : (x : SplitList) (l : List ℕ) → x ≡ split_list l → length x.pieces ≡ 512 → x.count ≤ 512
list_few x l e h = rw (ap (λ (y : SplitList). y.count) e) (padded_few l (sym (ap (λ (y : SplitList). length y.pieces) e) ∙ h))

position_few : (x : Positions) (l : List ℕ) → x ≡ position_list l → length x.entries ≡ 512 → x.count ≤ 512
position_few x l e h = rw (ap (λ (y : Positions). y.count) e) (padded_few l (sym (ap (λ (y : Positions). length y.entries) e) ∙ h))

-- ---- the lists of a cut

-- as many pieces as the list taken has
pair_few : (n : ℕ) (l : List ℕ) → n ≡ length l → (x : SplitList) → x ≡ split_list l → length x.pieces ≡ 512 → n ≤ 512
pair_few n l e x f h = rw (e, ← ap (λ (y : SplitList). y.count) f) (list_few x l f h)

cut_case : (b : Bool) (x : Cut) (k : CutParts) → k ≡ pick b (cut_answered x) refused_cut → length k.taken.pieces ≡ 512 → length k.left.pieces ≡ 512
    → (k.pair.taken ≤ 512) × (k.taken.count ≤ 512) × (k.left.count ≤ 512)
unfolding pair_of
cut_case true x k e h g = (
  pair_few _ x.taken (ap (λ (y : CutParts). y.pair.taken) e) _ (ap (λ (y : CutParts). y.taken) e) h,
  list_few _ x.taken (ap (λ (y : CutParts). y.taken) e) h,
  list_few _ x.left (ap (λ (y : CutParts). y.left) e) g,
)
cut_case false x k e h g = (
  pair_few _ [] (ap (λ (y : CutParts). y.pair.taken) e) _ (ap (λ (y : CutParts). y.taken) e) h,
  list_few _ [] (ap (λ (y : CutParts). y.taken) e) h,
  list_few _ [] (ap (λ (y : CutParts). y.left) e) g,
)

pub cut_few : (list : SplitList) (w : ℕ) (k : CutParts) → k ≡ cut_of list w → length k.taken.pieces ≡ 512 → length k.left.pieces ≡ 512
    → (k.pair.taken ≤ 512) × (k.taken.count ≤ 512) × (k.left.count ≤ 512)
unfolding cut_of
cut_few list w k e h g = cut_case (leb list.count 512) (short_splits3 (list_of list) w) k e h g

abbrev kept_by : Bool → Cut → SplitList → InPlaceCut
kept_by b x list = record {
  answer = record {
    number = (pick b (cut_answered x) refused_cut).number;
    split = (pick b (cut_answered x) refused_cut).split;
    pair = (pick b (cut_answered x) refused_cut).pair;
    taken = (pick b (cut_answered x) refused_cut).taken;
  };
  list = pick b (pick b (cut_answered x) refused_cut).left list;
}

kept_case : (b : Bool) (x : Cut) (list : SplitList) (k : InPlaceCut) → k ≡ kept_by b x list → list.count ≤ 512 → length k.answer.taken.pieces ≡ 512
    → length k.list.pieces ≡ 512
    → (k.answer.pair.taken ≤ 512) × (k.list.count ≤ 512) × (k.answer.taken.count ≤ 512)
unfolding pair_of
kept_case true x list k e few h g = (
  pair_few _ x.taken (ap (λ (y : InPlaceCut). y.answer.pair.taken) e) _ (ap (λ (y : InPlaceCut). y.answer.taken) e) h,
  list_few _ x.left (ap (λ (y : InPlaceCut). y.list) e) g,
  list_few _ x.taken (ap (λ (y : InPlaceCut). y.answer.taken) e) h,
)
kept_case false x list k e few h g = (
  pair_few _ [] (ap (λ (y : InPlaceCut). y.answer.pair.taken) e) _ (ap (λ (y : InPlaceCut). y.answer.taken) e) h,
  rw (ap (λ (y : InPlaceCut). y.list) e) few,
  list_few _ [] (ap (λ (y : InPlaceCut). y.answer.taken) e) h,
)

pub kept_few : (list : SplitList) (w : ℕ) (k : InPlaceCut) → k ≡ in_place_cut list w → list.count ≤ 512 → length k.answer.taken.pieces ≡ 512
    → length k.list.pieces ≡ 512
    → (k.answer.pair.taken ≤ 512) × (k.list.count ≤ 512) × (k.answer.taken.count ≤ 512)
unfolding in_place_cut cut_of
kept_few list w k e few h g = kept_case (leb list.count 512) (short_splits3 (list_of list) w) list k e few h g

short_case : (b : Bool) (x : Short) (k : ShortParts) → k ≡ pick b (answered_short x) refused_short → length k.positions.entries ≡ 512
    → length k.left.pieces ≡ 512
    → (k.positions.count ≤ 512) × (k.left.count ≤ 512)
short_case true x k e h g =
    (position_few _ x.positions (ap (λ (y : ShortParts). y.positions) e) h, list_few _ x.left (ap (λ (y : ShortParts). y.left) e) g)
short_case false x k e h g = (position_few _ [] (ap (λ (y : ShortParts). y.positions) e) h, list_few _ [] (ap (λ (y : ShortParts). y.left) e) g)

pub short_few : (list : SplitList) (w : ℕ) (k : ShortParts) → k ≡ short_of list w → length k.positions.entries ≡ 512 → length k.left.pieces ≡ 512
    → (k.positions.count ≤ 512) × (k.left.count ≤ 512)
unfolding short_of
short_few list w k e h g = short_case (leb list.count 512) (short_splits (list_of list) w) k e h g
