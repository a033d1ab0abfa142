-- A leaf's parts, from its entry.
use mathlib.Core.Path.{◌≡◌, refl, ap, ◌∙◌}
use Prim.Native.Nat.{ℕ, ◌+◌, ◌-◌, ◌*◌, ◌≤◌, ◌<◌}
use native.Mathlib.Omega.{arith}
use native.Mathlib.Nat.{add-sub_cancel_left}
use mathlib.Core.List.{List}
use lib.ListN.{length, take, drop, length-take}
use lib.Seq.{drop-drop}
use Rattle.settings.specs.declared.Settings.{Settings}
use Rattle.tree.specs.Bytes.{length_at}
use Rattle.sizes.specs.declared.Size.{Size}
use Rattle.sizes.specs.Sizes.{leaf_size}
use Rattle.sizes.specs.Listed.{allotted_at}
use Rattle.sizes.specs.Clauses.{SmallSize, natural_at, Fits}
use Rattle.block.specs.declared.Flags.{Flags}
use Rattle.block.specs.Block.{block, block_height, block_width}
use Rattle.paint.specs.Clauses.{pasted, Room, Paintable, leaf_with}
use Rattle.layout.specs.Walk.{Placed, leaf_of}
use Rattle.layout.specs.Clauses.{flags_number, flags_at}
use Rattle.layout.proofs.Digits.{flags_again}
use Rattle.entries.specs.declared.entry.Entry.{Entry}
use Rattle.entries.specs.Clauses.{entry_at, entry_length, base_of, BeginsEntry, painted}
use Rattle.entries.proofs.Listings.{entry_is, entry_long, part_h, part_v}

module _ {s : Settings} {stride : ℕ} {tree list : List ℕ} {l : Placed} {es : List ℕ} (b : BeginsEntry s stride tree list l es) where
  pub long : 8 + length l.at.horizontal + length l.at.vertical ≤ length es
  long = omega (arith, entry_long es stride b.at l b.rest b.is)

  module _ (e : Entry) (ee : e ≡ entry_at es) where
    is : e ≡ record {
      spot = record { node = l.at.node; at = b.at; base = base_of stride l; flags = flags_number l.at.flags };
      horizontal = length l.at.horizontal;
      vertical = length l.at.vertical;
      pair = l.at.pair;
    }
    is = ee ∙ entry_is es stride b.at l b.rest b.is

    at_is : e.spot.at ≡ b.at
    at_is = ap (λ (x : Entry). x.spot.at) is

    node_is : e.spot.node ≡ l.at.node
    node_is = ap (λ (x : Entry). x.spot.node) is

    -- the numbers are in the tree's bytes, in the list and in the entry
    pub in_tree : e.spot.at + 3 + length_at (drop e.spot.at tree) ≤ length tree
    in_tree = rw at_is b.stands.inside

    pub in_list : 4 * e.spot.node + 3 < length list
    in_list = rw node_is b.stands.sizes.inside

    pub in_entry : 8 + e.horizontal + e.vertical ≤ length es
    in_entry = rw is long

    pub count_is : 8 + e.horizontal + e.vertical ≡ entry_length es
    count_is = rw ee

    pub few : e.horizontal ≤ 512
    few = rw is b.stands.few_h

    -- the parts
    h_is : take (8 + e.horizontal - 8) (drop 8 es) ≡ l.at.horizontal
    h_is = part_h es stride b.at l b.rest b.is (8 + e.horizontal) (rw is)

    v_is : take (8 + e.horizontal + e.vertical - (8 + e.horizontal)) (drop (8 + e.horizontal) es) ≡ l.at.vertical
    v_is = part_v es stride b.at l b.rest b.is (8 + e.horizontal) (8 + e.horizontal + e.vertical) (rw is) (rw is)

    module _ (n : ℕ) (ne : n ≡ length_at (drop e.spot.at tree)) where
      text_is : take (e.spot.at + 3 + n - (e.spot.at + 3)) (drop (e.spot.at + 3) tree) ≡ l.text
      text_is = rw (add-sub_cancel_left (e.spot.at + 3) n, ne, ← drop-drop 3 e.spot.at tree, at_is) b.stands.text_is

      text_short : length tree < 65536 → length l.text < 65536
      text_short short = rw (← b.stands.text_is, length-take) (omega (arith, b.stands.inside, short))

      module _ (nat z : Size) (nate : nat ≡ natural_at list e.spot.node) (ze : z ≡ allotted_at list e.spot.node) (f : Flags)
          (fe : f ≡ flags_at e.spot.flags) where
        nat_is : nat ≡ leaf_size s l.text
        nat_is = nate ∙ rw node_is b.stands.sizes.natural_is

        pub z_is : z ≡ l.at.size
        z_is = ze ∙ rw node_is b.stands.sizes.allotted_is

        abbrev text : List ℕ
        text = take (e.spot.at + 3 + n - (e.spot.at + 3)) (drop (e.spot.at + 3) tree)

        abbrev h : List ℕ
        h = take (8 + e.horizontal - 8) (drop 8 es)

        abbrev v : List ℕ
        v = take (8 + e.horizontal + e.vertical - (8 + e.horizontal)) (drop (8 + e.horizontal) es)

        pub flags_are : f ≡ l.at.flags
        flags_are = fe ∙ ap (λ (x : Entry). flags_at x.spot.flags) is ∙ flags_again l.at.flags

        pub base_is : e.spot.base ≡ base_of stride l
        base_is = ap (λ (x : Entry). x.spot.base) is

        pub paintable : length tree < 65536 → SmallSize z → (base apart len : ℕ) → Fits (leaf_size s l.text) l.at.size
            → block_width s l.at.size l.at.flags ≤ apart
            → Room base apart (block_height s l.at.size l.at.flags) (block_width s l.at.size l.at.flags) len
            → Paintable s text nat z f h v base apart len
        paintable short small base apart len fits a room =
            let w : z.width < 65536 = small.wide in
            let t : z.height < 65536 = small.tall in
            rw (text_is, nat_is, flags_are, h_is, v_is) (record {
              natural_is = refl;
              fits = rw z_is fits;
              text_small = text_short short;
              width_small = w;
              height_small = t;
              few_horizontal = b.stands.few_h;
              few_vertical = b.stands.few_v;
              apart = rw z_is a;
              room = rw z_is room;
            })

        pub leaf_is : leaf_with text z f h v ≡ leaf_of l
        leaf_is = rw (text_is, z_is, flags_are, h_is, v_is)

        pub painted_is : (o : List ℕ) → pasted o e.spot.base stride (block s (leaf_with text z f h v)) ≡ painted s stride o l
        painted_is o = rw (base_is, leaf_is)
