-- The answers of the calls on sizes, places, folds, plans and letters for a tree whose texts are replaced byte for byte, with the same line feeds.
use mathlib.Core.Path.{◌≡◌, refl, ap, ap₂}
use Prim.Native.Nat.{ℕ, suc}
use mathlib.Core.Bool.{Bool}
use mathlib.Core.List.{List, ◌∷◌, ◌++◌}
use lib.Dec.{eqb}
use Rattle.settings.specs.declared.Settings.{Settings}
use Rattle.tree.specs.Tree.{Axis, across, down, Tree, Trees, cell, group, none, more}
use Rattle.tree.specs.Planning.{Plan, Plans}
use Rattle.sizes.specs.declared.Size.{Size}
use Rattle.sizes.specs.Sizes.{natural}
use Rattle.collector.specs.Below.{belows, belows*}
use Rattle.places.specs.declared.anchor.Anchor.{Anchor}
use Rattle.places.specs.Locating.{locate, locate_in}
use Rattle.fold.specs.Answers.{cells?, listed_trees, list?}
use Rattle.plan.specs.Ends.{no_plans?, end_size, end_sizes}
use Rattle.widen.specs.Widening.{needs, needs*}
use Rattle.blank.specs.Alike.{recast, recast*}
use Rattle.blank.specs.Blank.{cell_flags, cell_flags*}
use Rattle.alike.specs.Pairs.{plan_recast, plan_recast*}
use Rattle.alike.proofs.ReplacedBytes.{empty_recast, count_recast, nodes_recast, nodes*_recast, natural_recast, leaf_size_recast}

module _ (f : ℕ → ℕ) (keep : (b : ℕ) → eqb (f b) 10 ≡ eqb b 10) where
  -- ---- the nodes below each node

  mutual
    unfolding belows recast

    pub belows_recast : (t : Tree) → belows (recast f t) ≡ belows t
    belows_recast (cell x) = refl
    belows_recast (group a ts) = rw (nodes*_recast f keep ts, belows*_recast ts)

    belows*_recast : (ts : Trees) → belows* (recast* f ts) ≡ belows* ts
    belows*_recast none = refl
    belows*_recast (more t ts) = ap₂ (λ (x y : List ℕ). x ++ y) (belows_recast t) (belows*_recast ts)

  -- ---- which nodes are Cells

  mutual
    unfolding cell_flags recast

    pub flags_recast : (t : Tree) → cell_flags (recast f t) ≡ cell_flags t
    flags_recast (cell x) = refl
    flags_recast (group a ts) = ap (λ (l : List ℕ). 0 ∷ l) (flags*_recast ts)

    flags*_recast : (ts : Trees) → cell_flags* (recast* f ts) ≡ cell_flags* ts
    flags*_recast none = refl
    flags*_recast (more t ts) = ap₂ (λ (x y : List ℕ). x ++ y) (flags_recast t) (flags*_recast ts)

  -- ---- the walk that answers places

  module _ (gap : ℕ) (sizes : List ℕ) where
    mutual
      unfolding locate recast

      pub locate_recast : (t : Tree) (node : ℕ) (p : Anchor) → locate gap sizes (recast f t) node p ≡ locate gap sizes t node p
      locate_recast (cell x) = λ node p. refl
      locate_recast (group a ts) = λ node p. rw (empty_recast f keep ts, locate*_recast ts a (suc node) p 0)

      locate*_recast : (ts : Trees) (a : Axis) (node : ℕ) (b : Anchor) (offset : ℕ)
          → locate_in gap sizes (recast* f ts) a node b offset ≡ locate_in gap sizes ts a node b offset
      locate*_recast none = λ a node b offset. refl
      locate*_recast (more t ts) = λ a node b offset. rw (empty_recast f keep ts, nodes_recast f keep t, locate_recast t, locate*_recast ts)

  -- ---- lists that can be folded

  cells_recast : (ts : Trees) → cells? (recast* f ts) ≡ cells? ts
  unfolding cells? recast
  cells_recast none = refl
  cells_recast (more (cell x) ts) = cells_recast ts
  cells_recast (more (group a us) ts) = refl

  pub listed_recast : (t : Tree) → listed_trees (recast f t) ≡ recast* f (listed_trees t)
  unfolding listed_trees recast
  listed_recast (cell x) = refl
  listed_recast (group across ts) = refl
  listed_recast (group down ts) = refl

  pub list_recast : (t : Tree) → list? (recast f t) ≡ list? t
  unfolding list?
  list_recast t = rw (listed_recast t, cells_recast (listed_trees t), count_recast f keep (listed_trees t))

  module _ (s : Settings) where
    -- ---- the letters that widen the sheet

    mutual
      unfolding needs recast

      pub needs_recast : (t : Tree) (slack : ℕ) → needs s slack (recast f t) ≡ needs s slack t
      needs_recast (cell x) = λ slack. refl
      needs_recast (group a ts) = λ slack.
          let e : natural s (group a (recast* f ts)) ≡ natural s (group a ts) = natural_recast f keep s (group a ts) in
          rw (e) (ap (λ (l : List ℕ). 0 ∷ l) (needs*_recast ts a slack (natural s (group a ts)).width))

      needs*_recast : (ts : Trees) (a : Axis) (slack w : ℕ) → needs* s a slack w (recast* f ts) ≡ needs* s a slack w ts
      needs*_recast none = λ a slack w. refl
      needs*_recast (more t ts) = λ a slack w. rw (natural_recast f keep s t, needs_recast t, needs*_recast ts)

    -- ---- both ends of a plan

    no_plans_recast : (ps : Plans) → no_plans? (plan_recast* f ps) ≡ no_plans? ps
    unfolding no_plans? plan_recast
    no_plans_recast Plans.none = refl
    no_plans_recast (Plans.more p ps) = refl

    mutual
      unfolding end_size plan_recast

      pub end_recast : (most : Bool) (p : Plan) → end_size s most (plan_recast f p) ≡ end_size s most p
      end_recast most (Plan.cell x) = leaf_size_recast f keep s x
      end_recast most (Plan.range a b c d) = refl
      end_recast most (Plan.group x ps) = rw (no_plans_recast ps, ends_recast most ps)

      ends_recast : (most : Bool) (ps : Plans) → end_sizes s most (plan_recast* f ps) ≡ end_sizes s most ps
      ends_recast most Plans.none = refl
      ends_recast most (Plans.more p ps) = ap₂ (λ (z : Size) (zs : List Size). z ∷ zs) (end_recast most p) (ends_recast most ps)
