-- The bytes of two trees, or of two planning trees, that are alike (document 02, 14), and what the readers answer for them.
use Rattle.std.specs.Prelude.{◌≡◌, ℕ, ◌+◌, ◌≤◌, true, List, [], ◌∷◌, map, length, get_or, take, drop}
use Rattle.std.proofs.Math.Option.{some}
use Rattle.common.specs.Outcome.{Outcome}
use Rattle.settings.specs.declared.Settings.{Settings}
use Rattle.settings.specs.Reading.{settings_end}
use Rattle.tree.specs.Tree.{Axis, Tree}
use Rattle.tree.specs.Bytes.{length_at, tag_of}
use Rattle.tree.specs.Reading.{is_text, ReadOne}
use Rattle.tree.specs.Promises.{Texts, Encodes, contents, PlanEncodes}
use Rattle.tree.specs.Planning.{Plan, Plans}
use Rattle.text.specs.Text.{line_lengths}
use Rattle.sizes.specs.Input.{Input, refused, given, input_of}
use Rattle.drafts.specs.Store.{tag_in, fields_of}
use Rattle.plan.specs.Answers.{PlanInput}
use Rattle.drafts.specs.Promises.{DraftCall, save, forget, return}
use Rattle.blank.specs.Alike.{covered, Alike}

-- ---- bytes, of a tree or not

-- what is behind the element at the front of s
abbrev pub after_element : List ℕ → List ℕ
after_element s = drop (3 + length_at s) s

-- both begin with a whole element, of one tag and one length
pub record SameFront (s r : List ℕ) : Type 0 where
  pub tag : get_or s 0 0 ≡ get_or r 0 0
  pub long : length_at s ≡ length_at r
  pub whole : 3 + length_at s ≤ length s
  pub other_whole : 3 + length_at r ≤ length r

-- Two byte strings "that differ only inside Cells' texts, each text having in both the same number of lines, line for line of the same length": whole elements,
-- one after the other, that do, and then the same bytes, whatever they are. They need not be a tree: a reader may refuse both, anywhere. Of two texts that
-- differ both hold a forbidden byte, or neither.
pub data AlikeBytes : List ℕ → List ℕ → Type 0 where
  same : (s : List ℕ) → AlikeBytes s s
  -- an element of any tag with equal contents; a Cell; a Row or a Column whose contents differ in this way
  kept : {s r : List ℕ} → SameFront s r → contents s ≡ contents r → AlikeBytes (after_element s) (after_element r) → AlikeBytes s r
  cell : {s r : List ℕ} → SameFront s r → get_or s 0 0 ≡ 1 → line_lengths (contents s) ≡ line_lengths (contents r) → is_text (contents s) ≡ is_text (contents r)
      → AlikeBytes (after_element s) (after_element r) → AlikeBytes s r
  group : {s r : List ℕ} (a : Axis) → SameFront s r → get_or s 0 0 ≡ tag_of a → AlikeBytes (contents s) (contents r)
      → AlikeBytes (after_element s) (after_element r)
      → AlikeBytes s r

-- ---- the bytes of two trees: they are alike as bytes (`trees_alike`)

-- s is the bytes of the tree t, of any size, and no text holds a forbidden byte
pub record TreeBytes (s : List ℕ) (t : Tree) : Type 0 where
  pub is : Encodes t s
  pub ends : 3 + length_at s ≡ length s
  pub texts : Texts t

pub record AlikeTrees (p q : List ℕ) : Type 0 where
  pub tree : Tree
  pub other : Tree
  pub first : TreeBytes p tree
  pub second : TreeBytes q other
  pub alike : Alike tree other

-- ---- planning trees: so are their bytes (`plans_alike`)

unfoldable mutual
  pub plan_recast : (ℕ → ℕ) → Plan → Plan
  plan_recast f (Plan.cell t) = Plan.cell (map f t)
  plan_recast f (Plan.range a b c d) = Plan.range a b c d
  plan_recast f (Plan.group x ps) = Plan.group x (plan_recast* f ps)

  pub plan_recast* : (ℕ → ℕ) → Plans → Plans
  plan_recast* f Plans.none = Plans.none
  plan_recast* f (Plans.more p ps) = Plans.more (plan_recast f p) (plan_recast* f ps)

unfoldable pub plan_masked : Plan → Plan
unfolding plan_recast covered
plan_masked p = plan_recast (covered 1) p

-- every text has allowed bytes only; a range may be any
unfoldable mutual
  pub PlanTexts : Plan → Type 0
  PlanTexts (Plan.cell text) = is_text text ≡ true
  PlanTexts (Plan.range a b c d) = Unit {0}
  PlanTexts (Plan.group x ps) = PlanTexts* ps

  pub PlanTexts* : Plans → Type 0
  PlanTexts* Plans.none = Unit {0}
  PlanTexts* (Plans.more p ps) = PlanTexts p × PlanTexts* ps

pub record PlanBytes (s : List ℕ) (p : Plan) : Type 0 where
  pub is : PlanEncodes p s
  pub ends : 3 + length_at s ≡ length s
  pub texts : PlanTexts p

pub record AlikePlans (p q : List ℕ) : Type 0 where
  pub plan : Plan
  pub other : Plan
  pub first : PlanBytes p plan
  pub second : PlanBytes q other
  pub alike : plan_masked plan ≡ plan_masked other

-- ---- what is read: the same refusal, or alike trees of as many bytes and nodes

pub data SameRead : ReadOne → ReadOne → Type 0 where
  both_refused : (k : ℕ) → SameRead (ReadOne.refused k) (ReadOne.refused k)
  both_read : (t u : Tree) (z n : ℕ) → Alike t u → SameRead (ReadOne.one t z n) (ReadOne.one u z n)

-- what the calls get
pub data SameInput : Input → Input → Type 0 where
  both_refused : (k : ℕ) → SameInput (refused k) (refused k)
  both_given : (s : Settings) (t u : Tree) → Alike t u → SameInput (given s t) (given s u)

pub data SamePlanInput : PlanInput → PlanInput → Type 0 where
  both_refused : (k : ℕ) → SamePlanInput (PlanInput.refused k) (PlanInput.refused k)
  both_given : (s : Settings) (p q : Plan) → plan_masked p ≡ plan_masked q → SamePlanInput (PlanInput.given s p) (PlanInput.given s q)

-- ---- the program's input: equal settings, and the bytes of alike trees behind them

pub record AlikeInputs (i j : List ℕ) : Type 0 where
  pub settings : take (settings_end i) i ≡ take (settings_end j) j
  pub trees : AlikeBytes (drop (settings_end i) i) (drop (settings_end j) j)

-- what the program gets
abbrev pub program_input : List ℕ → Input
program_input i = input_of (take (settings_end i) i) (drop (settings_end i) i)

-- ---- drafts

pub record SameField (f g : List ℕ) : Type 0 where
  pub tag : tag_in f ≡ tag_in g
  pub long : length f ≡ length g
  pub draft : AlikeBytes (drop 3 f) (drop 3 g)

pub data SameFields : List (List ℕ) → List (List ℕ) → Type 0 where
  none : SameFields [] []
  more : {f g : List ℕ} {fs gs : List (List ℕ)} → SameField f g → SameFields fs gs → SameFields (f ∷ fs) (g ∷ gs)

-- two stores of one length, with the same names in the same order, of drafts that are alike
pub record FormedStores (o r : List ℕ) : Type 0 where
  pub fields : List (List ℕ)
  pub others : List (List ℕ)
  pub reads : fields_of o ≡ some fields
  pub other_reads : fields_of r ≡ some others
  pub same : SameFields fields others
  pub long : length o ≡ length r

-- such stores, or twice the same one, of the right form or not
pub data AlikeStores : List ℕ → List ℕ → Type 0 where
  one_store : (o : List ℕ) → AlikeStores o o
  two_stores : {o r : List ℕ} → FormedStores o r → AlikeStores o r

-- the same number, and stores that are alike again
pub record SameStoreAnswer (x y : Outcome ℕ (List ℕ)) : Type 0 where
  pub number : x.answer ≡ y.answer
  pub stores : AlikeStores x.memory y.memory

-- two calls of one kind under one name, with bytes that are alike and as much memory lent; two series of such calls
pub data SameCall : DraftCall → DraftCall → Type 0 where
  both_save : (n : ℕ) {p q : List ℕ} → AlikeBytes p q → SameCall (save n p) (save n q)
  both_forget : (n : ℕ) → SameCall (forget n) (forget n)
  both_return : (n : ℕ) (out other : List ℕ) → length out ≡ length other → SameCall (return n out) (return n other)

pub data SameCalls : List DraftCall → List DraftCall → Type 0 where
  no_calls : SameCalls [] []
  more_calls : {c d : DraftCall} {cs ds : List DraftCall} → SameCall c d → SameCalls cs ds → SameCalls (c ∷ cs) (d ∷ ds)
