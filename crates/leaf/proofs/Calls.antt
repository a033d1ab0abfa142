-- What both calls answer, from the sizes that were measured, the walk and the leaf that was found.
use mathlib.Core.Path.{◌≡◌, refl, sym, ap, ◌∙◌}
use Prim.Native.Nat.{ℕ, ◌-◌, ◌≤◌}
use native.Mathlib.Omega.{arith}
use mathlib.Core.Bool.{true, false}
use mathlib.Core.List.{List, ◌++◌, append_assoc}
use mathlib.Core.Option.{Option, some, none}
use lib.ListN.{length, take, drop, length-take, take-append-drop}
use lib.Seq.{drop-append-le}
use Rattle.settings.specs.declared.Settings.{Settings}
use Rattle.tree.specs.Tree.{Tree}
use Rattle.sizes.specs.declared.Measured.{Measured}
use Rattle.sizes.specs.Sizes.{sep}
use Rattle.sizes.specs.Input.{Input, given, input_of}
use Rattle.sizes.specs.Clauses.{measured_of}
use Rattle.sizes.proofs.MeasuredInput.{refuses}
use Rattle.layout.specs.Walk.{Placed, leaves}
use Rattle.layout.proofs.Fit.{LeafFits, leaves_fit}
use Rattle.entries.specs.declared.FoundEntry.{FoundEntry}
use Rattle.entries.specs.Clauses as entries
use Rattle.entries.specs.Clauses.{Lists, FindsEntry, BeginsEntry, entry_of}
use Rattle.frame.specs.Frame.{too_large}
use Rattle.walk.specs.Clauses.{WalksTree}
use Rattle.walk.proofs.Inputs.{call_takes, FitsSheet, walk_ready, entries_listed}
use Rattle.leaf.specs.Answers.{leaf_numbered, leaf_record_of, leaf_print_of}
use Rattle.leaf.specs.Clauses.{Refuses, ShowsLeaf, Meets, Leads}
use Rattle.leaf.proofs.Parts.{part_of}
use Rattle.leaf.proofs.Records.{shows_part}
use Rattle.leaf.proofs.LeafNumbers.{numbered_is, numbered_every}

-- ---- what is refused

module _ (bs ts : List ℕ) (n : ℕ) where
  pub refuses_input : (m : Measured) → m ≡ measured_of (input_of bs ts) → (m.number ≡ 0 → ⊥) → Refuses (input_of bs ts) n m.number
  unfolding leaf_record_of leaf_print_of
  refuses_input m e h = let r = refuses bs ts m e h in record { record_is = rw r; print_is = λ o. rw r }

  module _ (s : Settings) (t : Tree) (i : input_of bs ts ≡ given s t) where
    pub refuses_large : too_large s t ≡ true → Refuses (input_of bs ts) n 6
    unfolding leaf_record_of leaf_print_of
    refuses_large h = record { record_is = rw (i, h); print_is = λ o. rw (i, h) }

    refuses_none : too_large s t ≡ false → leaf_numbered n (leaves s t) ≡ none → Refuses (input_of bs ts) n 9
    unfolding leaf_record_of leaf_print_of
    refuses_none h e = record { record_is = rw (i, h, e); print_is = λ o. rw (i, h, e) }

    meets_leaf : too_large s t ≡ false → (tree list es : List ℕ) (x : ShowsLeaf tree list es s) → leaf_numbered n (leaves s t) ≡ some x.leaf
        → Meets (input_of bs ts) n tree list es s
    unfolding leaf_record_of leaf_print_of
    meets_leaf h tree list es x e = record { shows = x; record_is = rw (i, h, e); print_is = λ o. rw (i, h, e) }

-- ---- as the calls have it: the sheet is small enough, and the entries were written

module _ {bs ts : List ℕ} {m : Measured} {list : List ℕ} {stride : ℕ} (k : FitsSheet bs ts m list stride) where
  module _ (gap len : ℕ) (ge : gap ≡ sep m.settings) (room : 5120 ≤ len) where
    module _ (r : ℕ) (l₀ l : List ℕ) (w : WalksTree ts list stride (walk_ready k gap len ge room) r l₀ l) where
      unfoldable pub lists : Lists (take r l)
      lists = record {
        settings = m.settings;
        stride = stride;
        tree = ts;
        list = list;
        leaves = leaves m.settings k.took.tree;
        listing = entries_listed k gap len ge room r l₀ l w;
      }

      -- a leaf was sought
      module _ (n : ℕ) (f : FoundEntry) (fe : FindsEntry (take r l) lists f (entries.entry_leaf n lists.leaves)) where
        fe₁ : FindsEntry (take r l) lists f (leaf_numbered n (leaves m.settings k.took.tree))
        unfolding lists
        fe₁ = rw (numbered_is n (leaves m.settings k.took.tree)) at fe

        begins_there : (e : ℕ) (p : Placed) → e ≤ length (take r l) → BeginsEntry m.settings stride ts list p (drop e (take r l))
            → BeginsEntry m.settings stride ts list p (drop e l)
        begins_there e p i b =
            let d : drop e l ≡ drop e (take r l) ++ drop r l = ap (λ (z : List ℕ). drop e z) (sym (take-append-drop r l))
            ∙ drop-append-le e (take r l) (drop r l) i in
            record {
              at = b.at;
              rest = b.rest ++ drop r l;
              is = d
                  ∙ rw (b.is, append_assoc (entry_of stride b.at p) b.rest (drop r l));
              stands = b.stands;
            }

        hit_case : (x : Option Placed) → leaf_numbered n (leaves m.settings k.took.tree) ≡ x → FindsEntry (take r l) lists f x → f.hit ≡ true
            → (f.entry ≤ length l) × Meets (input_of bs ts) n ts list (drop f.entry l) m.settings
        unfolding lists
        hit_case none e y g = let z : true ≡ false = sym g ∙ ap (λ (k : FoundEntry). k.hit) y in let d : ◌≡◌ {A = ℕ} 0 1 = cc in absurd (omega arith)
        hit_case (some p) e y g =
            let i : f.entry ≤ length (take r l) = omega (arith, y.within) in (
              omega (arith, length-take r l),
              meets_leaf bs ts n m.settings k.took.tree k.took.input k.large ts list (drop f.entry l)
                  (record {
                    leaf = p;
                    stride = stride;
                    begins = begins_there f.entry p i y.begins;
                    fits = numbered_every (LeafFits m.settings) n p (leaves m.settings k.took.tree) (leaves_fit m.settings k.took.tree) e;
                    short = omega (arith, (call_takes k.took).got.short);
                  }) e,
            )

        miss_case : (x : Option Placed) → leaf_numbered n (leaves m.settings k.took.tree) ≡ x → FindsEntry (take r l) lists f x → f.hit ≡ false
            → Refuses (input_of bs ts) n 9
        miss_case none e y g = refuses_none bs ts n m.settings k.took.tree k.took.input k.large e
        miss_case (some p) e y g = let z : true ≡ false = sym y.hit ∙ g in let d : ◌≡◌ {A = ℕ} 0 1 = cc in absurd (omega arith)

        pub seeks_hit : f.hit ≡ true → Leads (input_of bs ts) n ts (record { settings = m.settings; entry = f.entry }) list l
        seeks_hit g =
            let x = hit_case (leaf_numbered n (leaves m.settings k.took.tree)) refl fe₁ g in
            record { meets = x.1; within = x.0 }

        pub misses : f.hit ≡ false → Refuses (input_of bs ts) n 9
        misses g = miss_case (leaf_numbered n (leaves m.settings k.took.tree)) refl fe₁ g

-- ---- the leaf in the part of the entries that begins with its own

pub met : {i : Input} {n : ℕ} {tree list : List ℕ} {s : Settings} (es : List ℕ) (e len : ℕ) → length es ≡ len → Meets i n tree list (drop e es) s
    → Meets i n tree list (take (len - e) (drop e es)) s
met es e len h m = record { shows = shows_part _ (part_of es e len h) m.shows; record_is = m.record_is; print_is = m.print_is }
