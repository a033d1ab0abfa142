-- The walk of an accepted input: it can start, and what it writes are the entries of the sheet's leaves.
use mathlib.Core.Path.{◌≡◌, ap, ◌∙◌}
use Prim.Native.Nat.{ℕ, ◌+◌, ◌*◌, ◌≤◌, ◌<◌}
use native.Mathlib.Omega.{arith}
use native.Mathlib.Nat.{mul-le-mul}
use mathlib.Core.Bool.{false}
use mathlib.Core.List.{List}
use lib.ListN.{length, take, length-take, length-drop}
use Rattle.common.specs.Every.{Every}
use Rattle.common.proofs.Every.{every_map}
use Rattle.settings.specs.declared.Settings.{Settings}
use Rattle.tree.specs.Tree.{Tree, none, more}
use Rattle.tree.specs.Bytes.{length_at}
use Rattle.tree.specs.Promises.{Encodes, EncodesAll}
use Rattle.sizes.specs.declared.Measured.{Measured}
use Rattle.sizes.specs.declared.Size.{Size}
use Rattle.sizes.specs.Sizes.{sep, natural}
use Rattle.sizes.specs.Input.{given, input_of}
use Rattle.sizes.specs.Clauses.{measured_of, size_list_of, natural_at, Allotted}
use Rattle.sizes.proofs.MeasuredInput.{Takes, takes, accepts, accepts_listed, accepts_root, size_list_length}
use Rattle.layout.specs.Walk.{leaves, inside_w, inside_h}
use Rattle.layout.proofs.Laid.{root_laid}
use Rattle.layout.proofs.Inside.{Inside, laid_inside}
use Rattle.entries.specs.Clauses.{Listing}
use Rattle.frame.specs.declared.Frame.{Frame}
use Rattle.frame.specs.Frame.{W, H, too_large}
use Rattle.frame.specs.Clauses.{frame_of, large_of}
use Rattle.frame.proofs.Sheets.{sheet_frame, frame_is, large_is, large_no}
use Rattle.walk.specs.Clauses.{LowLeaf, ReadyWalk, WalksTree}

-- ---- the walk of an accepted input can start

low_case : (l c w : ℕ) → l ≤ 160 → c ≤ 400 → w ≤ 401 → l * w + c < 65536
low_case l c w h k m = let p : l * w ≤ 160 * 401 = mul-le-mul h m in omega arith

module _ (s : Settings) (t : Tree) (large : too_large s t ≡ false) where
  pub small : (W s t ≤ 400) × (H s t ≤ 160)
  unfolding too_large
  small = large_no (W s t) (H s t) large

  inside : (inside_w s t ≤ 400) × (inside_h s t ≤ 160)
  unfolding W H
  inside = let n = small in (omega arith, omega arith)

  -- every leaf's first byte fits 16 bits
  pub leaves_low : (stride : ℕ) → stride ≡ W s t + 1 → Every (LowLeaf stride) (leaves s t)
  leaves_low stride e =
      every_map (Inside s 0 0 (inside_h s t) (inside_w s t)) (LowLeaf stride)
      (λ l x. low_case l.at.line l.at.column stride (omega (arith, x.below, inside)) (omega (arith, x.right, inside)) (omega (arith, small, e)))
      (leaves s t) (laid_inside (root_laid s t))

  -- the root ends where the bytes end
  pub root_whole : (ts : List ℕ) → Takes ts s t → EncodesAll (more t none) ts
  unfolding Encodes
  root_whole ts k = (k.got.is, length-drop (3 + length_at ts) ts ∙ omega (arith, k.got.ends))

  unfoldable pub tree_ready : (ts list : List ℕ) → Takes ts s t → Allotted s t (natural s t) 0 list → (gap stride len : ℕ) → gap ≡ sep s → stride ≡ W s t + 1
      → 5120 ≤ len → ReadyWalk ts list gap stride len
  tree_ready ts list k a gap stride len ge se room = record {
    settings = s;
    root = t;
    whole = root_whole ts k;
    short = omega (arith, k.got.short);
    gap_is = ge;
    stride_low = omega (arith, small, se);
    few = k.got.few;
    room = omega (arith, k.got.few);
    sizes_are = a;
    lows = leaves_low stride se;
  }

-- ---- in the calls' terms: m is what was measured, l the list

-- the input was accepted, and the list has the sizes of its tree
pub record Taken (bs ts : List ℕ) (m : Measured) (l : List ℕ) : Type 0 where
  pub tree : Tree
  pub input : input_of bs ts ≡ given m.settings tree
  pub listed : Allotted m.settings tree (natural m.settings tree) 0 l
  pub root : natural_at l 0 ≡ natural m.settings tree

pub taken : (bs ts : List ℕ) (m : Measured) (l₀ l : List ℕ) → m ≡ measured_of (input_of bs ts) → l ≡ size_list_of (input_of bs ts) l₀ → m.number ≡ 0
    → length l ≡ 2048 → Taken bs ts m l
taken bs ts m l₀ l e le h size =
    let a = accepts bs ts m l₀ l e le h in
    let size_is = size_list_length (input_of bs ts) l₀ l le in
    record { tree = a.tree; input = a.input; listed = accepts_listed bs ts m l₀ l a (omega arith); root = accepts_root bs ts m l₀ l a (omega arith) }

module _ {bs ts : List ℕ} {m : Measured} {l : List ℕ} (k : Taken bs ts m l) where
  pub call_takes : Takes ts m.settings k.tree
  call_takes = takes bs ts m.settings k.tree k.input

  module _ {z : Size} (ze : z ≡ natural_at l 0) {f : Frame} (fe : f ≡ frame_of m.settings z) where
    pub call_large : large_of f ≡ too_large m.settings k.tree
    call_large = rw fe (large_is m.settings k.tree z (ze ∙ k.root))

    pub call_frame : f ≡ sheet_frame m.settings k.tree
    call_frame = fe ∙ frame_is m.settings k.tree z (ze ∙ k.root)

    pub call_stride : f.stride ≡ W m.settings k.tree + 1
    unfolding W
    call_stride = ap (λ (y : Frame). y.stride) call_frame

-- and the sheet is small enough, its lines that many bytes apart
pub record FitsSheet (bs ts : List ℕ) (m : Measured) (l : List ℕ) (stride : ℕ) : Type 0 where
  pub took : Taken bs ts m l
  pub large : too_large m.settings took.tree ≡ false
  pub stride_is : stride ≡ W m.settings took.tree + 1

module _ {bs ts : List ℕ} {m : Measured} {list : List ℕ} {stride : ℕ} (k : FitsSheet bs ts m list stride) where
  module _ (gap len : ℕ) (ge : gap ≡ sep m.settings) (room : 5120 ≤ len) where
    unfoldable pub walk_ready : ReadyWalk ts list gap stride len
    unfolding tree_ready
    walk_ready = tree_ready m.settings k.took.tree k.large ts list (call_takes k.took) k.took.listed gap stride len ge k.stride_is room

    -- the entries were written
    module _ (r : ℕ) (l₀ l : List ℕ) (w : WalksTree ts list stride walk_ready r l₀ l) where
      front : take r l ≡ w.wrote.entries
      front = w.wrote.put.front_is

      pub list_end_in : r ≤ length l
      list_end_in =
          let n : length (take r l) ≡ length w.wrote.entries = ap length front in
          let e : r ≡ 0 + length w.wrote.entries = w.wrote.put.end_is in
          omega (arith, length-take r l)

      pub entries_listed : Listing m.settings stride ts list (leaves m.settings k.took.tree) (take r l)
      unfolding walk_ready
      entries_listed = rw front w.wrote.listing
