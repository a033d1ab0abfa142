-- What depends on a tree through its mask alone is equal for alike trees.
use mathlib.Core.Path.{◌≡◌, refl, sym, ap, ◌∙◌}
use mathlib.Core.Logic.{◌⊎◌, inl, inr}
use Prim.Native.Nat.{ℕ}
use native.Mathlib.Omega.{arith}
use mathlib.Core.Bool.{Bool, true, false}
use lib.Dec.{eqb}
use borrow.Author.Tests.{ne_eqb, eqb-true}
use Rattle.common.specs.Choice.{pick}
use Rattle.settings.specs.declared.Settings.{Settings}
use Rattle.tree.specs.Tree.{Tree}
use Rattle.blank.specs.Alike.{covered, masked, Alike}
use Rattle.alike.proofs.Blocks.{Surround}

-- ---- line feeds stay, and nothing else becomes one

pub covered_keeps : (v : ℕ) → (v ≡ 10 → ⊥) → (b : ℕ) → eqb (covered v b) 10 ≡ eqb b 10
unfolding covered
covered_keeps v h b = go (eqb b 10)
  where
    go : (c : Bool) → eqb (pick c 10 v) 10 ≡ c
    go true = refl
    go false = ne_eqb v 10 h

pub mask_keeps : (b : ℕ) → eqb (covered 1 b) 10 ≡ eqb b 10
mask_keeps = covered_keeps 1 (λ e. omega arith)

-- ---- the masked tree's byte m against the tree's own byte b

abbrev pub Under : ℕ → ℕ → Type 0
Under m b = (m ≡ 1) ⊎ (m ≡ b)

pub under_own : (b : ℕ) → Under (covered 1 b) b
unfolding covered
under_own b = go (eqb b 10) refl
  where
    go : (c : Bool) → eqb b 10 ≡ c → Under (pick c 10 1) b
    go true e = inr (sym (eqb-true b 10 e))
    go false e = inl refl

pub under_surround : (s : Settings) → Surround Under s
under_surround s = record { marks = λ i. inr refl; fills = λ i. inr refl; edges = λ i. inr refl; space = inr refl; feed = inr refl }

-- two bytes under one mask that is not 1
pub outside_mask : (m a b : ℕ) → Under m a → Under m b → (m ≡ 1 → ⊥) → a ≡ b
outside_mask m a b (inl e) q h = absurd (h e)
outside_mask m a b (inr e) (inl d) h = absurd (h d)
outside_mask m a b (inr e) (inr d) h = sym e ∙ d

-- ---- alike trees

pub alike_by : {A : Type 0} (g : Tree → A) → ((t : Tree) → g (masked t) ≡ g t) → (t u : Tree) → Alike t u → g t ≡ g u
unfolding Alike
alike_by g e t u h = sym (e t) ∙ ap g h ∙ e u
