-- `plan_reached`: each end of a planning tree is the size of some choice.
use mathlib.Core.Path.{◌≡◌, refl, ap, ◌∙◌}
use Prim.Native.Nat.{ℕ, zero, suc, ◌-◌, ◌≤◌}
use native.Mathlib.Omega.{arith}
use mathlib.Core.Bool.{Bool, true, false}
use mathlib.Core.List.{List, [], ◌∷◌, ◌++◌, map}
use lib.ListN.{length, replicate, length-replicate}
use Rattle.common.specs.Choice.{pick}
use Rattle.common.specs.Sums.{greatest}
use Rattle.settings.specs.declared.Settings.{Settings}
use Rattle.tree.specs.Tree as tree
use Rattle.tree.specs.Tree.{Tree, Trees}
use Rattle.tree.specs.Reading.{is_text}
use Rattle.tree.specs.Promises.{Texts, Texts*, GoodRange, Allowed, Allowed*}
use Rattle.tree.specs.Planning.{Plan, Plans}
use Rattle.text.specs.Text.{onto, lines, line_lengths, text_width, text_height}
use Rattle.sizes.specs.Sizes.{leaf_size, natural, naturals}
use Rattle.plan.specs.Promises.{WithinRange, Chooses, Chooses*}
use Rattle.plan.specs.Ends.{no_plans?, range_size, end_size, end_sizes}

-- ---- a text of any width and line count

-- w letters, then h - 1 line feeds
unfoldable pub text_of : ℕ → ℕ → List ℕ
text_of w h = replicate w 65 ++ replicate (h - 1) 10

feed_bytes : (k : ℕ) → line_lengths (replicate k 10) ≡ 0 ∷ replicate k 0
unfolding line_lengths lines
feed_bytes zero = refl
feed_bytes (suc k) = ap (λ (l : List ℕ). 0 ∷ l) (feed_bytes k)

onto_lengths : (b n : ℕ) (ns : List ℕ) (ls : List (List ℕ)) → map length ls ≡ n ∷ ns → map length (onto b ls) ≡ suc n ∷ ns
unfolding onto
onto_lengths b n ns [] e = let z : ◌≡◌ {A = ℕ} 0 1 = cc in absurd (omega arith)
onto_lengths b n ns (l ∷ ls) e = let p : length l ≡ n = cc in let q : map length ls ≡ ns = cc in rw (p, q)

letters : (w k : ℕ) → line_lengths (replicate w 65 ++ replicate k 10) ≡ w ∷ replicate k 0
unfolding line_lengths lines
letters zero k = feed_bytes k
letters (suc w) k = onto_lengths 65 w (replicate k 0) (lines (replicate w 65 ++ replicate k 10)) (letters w k)

zeros_greatest : (k : ℕ) → greatest (replicate k 0) ≡ 0
unfolding greatest
zeros_greatest zero = refl
zeros_greatest (suc k) = omega (arith, zeros_greatest k)

pub text_width_lem : (w h : ℕ) → text_width (text_of w h) ≡ w
unfolding text_width text_of greatest
text_width_lem w h = ap greatest (letters w (h - 1)) ∙ omega (arith, zeros_greatest (h - 1))

pub text_of_height : (w h : ℕ) → 1 ≤ h → text_height (text_of w h) ≡ h
unfolding text_height text_of
text_of_height w h k = ap length (letters w (h - 1)) ∙ omega (arith, length-replicate {A = ℕ} (h - 1) 0)

feeds_text : (k : ℕ) → is_text (replicate k 10) ≡ true
unfolding is_text
feeds_text zero = refl
feeds_text (suc k) = feeds_text k

letters_text : (w k : ℕ) → is_text (replicate w 65 ++ replicate k 10) ≡ true
unfolding is_text
letters_text zero k = feeds_text k
letters_text (suc w) k = letters_text w k

pub text_allowed : (w h : ℕ) → is_text (text_of w h) ≡ true
unfolding text_of
text_allowed w h = letters_text w (h - 1)

-- ---- the choice at an end

within_case : (most : Bool) (a b c d : ℕ) → GoodRange a b c d → WithinRange a b c d (text_of (pick most b a) (pick most d c))
within_case true a b c d g =
    record {
      least_width_lem = omega (arith, text_width_lem b d, g.widths);
      greatest_width_lem = omega (arith, text_width_lem b d);
      least_lines = omega (arith, text_of_height b d (omega (arith, g.some, g.lines)), g.lines);
      greatest_lines = omega (arith, text_of_height b d (omega (arith, g.some, g.lines)));
    }
within_case false a b c d g =
    record {
      least_width_lem = omega (arith, text_width_lem a c);
      greatest_width_lem = omega (arith, text_width_lem a c, g.widths);
      least_lines = omega (arith, text_of_height a c g.some);
      greatest_lines = omega (arith, text_of_height a c g.some, g.lines);
    }

lines_low : (most : Bool) (a b c d : ℕ) → GoodRange a b c d → 1 ≤ pick most d c
lines_low true a b c d g = omega (arith, g.some, g.lines)
lines_low false a b c d g = g.some

range_size_lem : (s : Settings) (w h : ℕ) → 1 ≤ h → leaf_size s (text_of w h) ≡ range_size s w h
unfolding leaf_size range_size
range_size_lem s w h k = rw (text_width_lem w h, text_of_height w h k)

-- a choice of allowed texts whose size is that end, in both directions
pub record EndReached (s : Settings) (most : Bool) (p : Plan) : Type 0 where
  pub tree : Tree
  pub chooses : Chooses p tree
  pub texts : Texts tree
  pub size : natural s tree ≡ end_size s most p

record EndsReached (s : Settings) (most : Bool) (ps : Plans) : Type 0 where
  trees : Trees
  chooses : Chooses* ps trees
  texts : Texts* trees
  sizes : naturals s trees ≡ end_sizes s most ps
  empty : tree.empty? trees ≡ no_plans? ps

mutual
  unfolding Chooses Texts Allowed natural end_size no_plans? tree.empty?

  pub plan_reached : (s : Settings) (most : Bool) (p : Plan) → Allowed true p → EndReached s most p
  plan_reached s most (Plan.cell t) k = record { tree = tree.cell t; chooses = refl; texts = k; size = refl }
  plan_reached s most (Plan.range a b c d) k =
      let w = pick most b a in
      let h = pick most d c in
      record {
        tree = tree.cell (text_of w h);
        chooses = within_case most a b c d k.1;
        texts = text_allowed w h;
        size = range_size_lem s w h (lines_low most a b c d k.1);
      }
  plan_reached s most (Plan.group x ps) k =
      let r = ends_reached s most ps k in
      record { tree = tree.group x r.trees; chooses = (refl, r.chooses); texts = r.texts; size = rw (r.empty, r.sizes) }

  ends_reached : (s : Settings) (most : Bool) (ps : Plans) → Allowed* true ps → EndsReached s most ps
  ends_reached s most Plans.none k = record { trees = tree.none; chooses = tt; texts = tt; sizes = refl; empty = refl }
  ends_reached s most (Plans.more p ps) k =
      let r = plan_reached s most p k.0 in
      let q = ends_reached s most ps k.1 in
      record {
        trees = tree.more r.tree q.trees;
        chooses = (r.chooses, q.chooses);
        texts = (r.texts, q.texts);
        sizes = rw (r.size, q.sizes);
        empty = refl;
      }
