-- What the sizes that were measured show of the input.
use mathlib.Core.Path.{◌≡◌, refl, sym, ap, ◌∙◌}
use Prim.Native.Nat.{ℕ, ◌≤◌}
use native.Mathlib.Omega.{arith}
use mathlib.Core.List.{List}
use lib.ListN.{length}
use lib.Seq.{sets, length-sets}
use Rattle.settings.specs.declared.Settings.{Settings}
use Rattle.settings.specs.Reading.{Parsed, read_settings}
use Rattle.settings.specs.Promises.{Ranges}
use Rattle.settings.proofs.Ranges.{settings_small}
use Rattle.tree.specs.Tree.{Tree, nodes}
use Rattle.tree.specs.Reading.{ReadOne, read_tree}
use Rattle.tree.specs.Promises.{GotTree}
use Rattle.tree.proofs.Sound.{tree_sound, tree_refusal}
use Rattle.sizes.specs.declared.Measured.{Measured}
use Rattle.sizes.specs.Input.{Input, refused, given, input_of, settings_input}
use Rattle.sizes.specs.Sizes.{natural, tree_sizes}
use Rattle.sizes.specs.Listed.{flat}
use Rattle.sizes.specs.Clauses.{measured_of, size_list_of, natural_at, Allotted}
use Rattle.sizes.proofs.WholeTree.{sizes_listed, here_of}

-- an accepted input
pub record Takes (ts : List ℕ) (s : Settings) (t : Tree) : Type 0 where
  pub size : ℕ
  pub count : ℕ
  pub ranges : Ranges s
  pub got : GotTree ts t size count

takes_case : (bs ts : List ℕ) (s : Settings) (t : Tree) (p : Parsed) (r : ReadOne) → read_settings bs ≡ p → read_tree ts ≡ r → settings_input p r ≡ given s t
    → Takes ts s t
takes_case bs ts s t Parsed.refused r pe re e = let z : ◌≡◌ {A = ℕ} 0 1 = cc in absurd (omega arith)
takes_case bs ts s t (Parsed.read s₁) (ReadOne.refused k) pe re e = let z : ◌≡◌ {A = ℕ} 0 1 = cc in absurd (omega arith)
takes_case bs ts s t (Parsed.read s₁) (ReadOne.one t₁ size n) pe re e =
    let es : s₁ ≡ s = cc in
    let et : t₁ ≡ t = cc in
    record { size = size; count = n; ranges = rw es at (settings_small bs s₁ pe); got = rw et at (tree_sound ts t₁ size n re) }

pub takes : (bs ts : List ℕ) (s : Settings) (t : Tree) → input_of bs ts ≡ given s t → Takes ts s t
unfolding input_of
takes bs ts s t e = takes_case bs ts s t (read_settings bs) (read_tree ts) refl refl e

-- a refusal of the input is 1 to 5
number_case : (bs ts : List ℕ) (k : ℕ) (p : Parsed) (r : ReadOne) → read_tree ts ≡ r → settings_input p r ≡ refused k → (1 ≤ k) × (k ≤ 5)
number_case bs ts k Parsed.refused r re e = let z : 1 ≡ k = cc in (omega arith, omega arith)
number_case bs ts k (Parsed.read s) (ReadOne.refused j) re e = let z : j ≡ k = cc in (omega (arith, tree_refusal ts j re), omega (arith, tree_refusal ts j re))
number_case bs ts k (Parsed.read s) (ReadOne.one t size n) re e = let z : ◌≡◌ {A = ℕ} 0 1 = cc in absurd (omega arith)

pub input_refusal : (bs ts : List ℕ) (k : ℕ) → input_of bs ts ≡ refused k → (1 ≤ k) × (k ≤ 5)
unfolding input_of
input_refusal bs ts k e = number_case bs ts k (read_settings bs) (read_tree ts) refl e

-- ---- in the terms of a caller of `measure_tree`

pub record Accepts (bs ts : List ℕ) (m : Measured) (l₀ l : List ℕ) : Type 0 where
  pub tree : Tree
  pub input : input_of bs ts ≡ given m.settings tree
  pub count : m.count ≡ nodes tree
  pub few : nodes tree ≤ 512
  pub list : l ≡ sets l₀ 0 (flat (tree_sizes m.settings tree))

-- the list keeps its length
pub size_list_length : (i : Input) (l₀ l : List ℕ) → l ≡ size_list_of i l₀ → length l ≡ length l₀
size_list_length (refused k) l₀ l e = ap length e
size_list_length (given s t) l₀ l e = ap length e ∙ length-sets l₀ 0 (flat (tree_sizes s t))

module _ (bs ts : List ℕ) (m : Measured) (l₀ l : List ℕ) where
  accepts_case : (i : Input) → input_of bs ts ≡ i → m ≡ measured_of i → l ≡ size_list_of i l₀ → m.number ≡ 0 → Accepts bs ts m l₀ l
  accepts_case (refused k) ie e le h = let z : k ≡ 0 = sym (ap (λ (y : Measured). y.number) e) ∙ h in absurd (omega (arith, input_refusal bs ts k ie))
  accepts_case (given s t) ie e le h =
      let es : m.settings ≡ s = ap (λ (y : Measured). y.settings) e in
      record { tree = t; input = rw es ie; count = ap (λ (y : Measured). y.count) e; few = (takes bs ts s t ie).got.few; list = rw es le }

  pub accepts : m ≡ measured_of (input_of bs ts) → l ≡ size_list_of (input_of bs ts) l₀ → m.number ≡ 0 → Accepts bs ts m l₀ l
  accepts e le h = accepts_case (input_of bs ts) refl e le h

  -- the list holds the sizes of the tree's nodes
  pub accepts_listed : (a : Accepts bs ts m l₀ l) → length l₀ ≡ 2048 → Allotted m.settings a.tree (natural m.settings a.tree) 0 l
  accepts_listed a h = rw a.list (sizes_listed m.settings a.tree l₀ (omega (arith, a.few)))

  -- and the root's natural size
  pub accepts_root : (a : Accepts bs ts m l₀ l) → length l₀ ≡ 2048 → natural_at l 0 ≡ natural m.settings a.tree
  accepts_root a h = (here_of m.settings a.tree _ 0 l (accepts_listed a h)).natural_is

refuses_case : (bs ts : List ℕ) (m : Measured) (i : Input) → input_of bs ts ≡ i → m ≡ measured_of i → (m.number ≡ 0 → ⊥) → input_of bs ts ≡ refused m.number
refuses_case bs ts m (refused k) ie e h = ie ∙ ap refused (sym (ap (λ (y : Measured). y.number) e))
refuses_case bs ts m (given s t) ie e h = absurd (h (ap (λ (y : Measured). y.number) e))

pub refuses : (bs ts : List ℕ) (m : Measured) → m ≡ measured_of (input_of bs ts) → (m.number ≡ 0 → ⊥) → input_of bs ts ≡ refused m.number
refuses bs ts m e h = refuses_case bs ts m (input_of bs ts) refl e h
