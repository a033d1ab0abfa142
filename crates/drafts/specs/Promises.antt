-- Definitions used in the statements of the theorems about drafts (document 02, 12).
use Rattle.std.specs.Prelude.{◌≡◌, ℕ, ◌≤◌, ◌+◌, List, [], ◌∷◌, ◌++◌, length, replicate, eqb, true, false}
use Rattle.std.proofs.Math.Option.{some, Option, none}
use Rattle.common.specs.Choice.{pick}
use Rattle.common.specs.Outcome.{Outcome}
use Rattle.tree.specs.Tree.{Tree}
use Rattle.tree.specs.Reading.{ReadOne, read_tree}
use Rattle.tree.specs.Bytes.{length_at}
use Rattle.drafts.specs.Store.{fields_of, save_of, forget_of, return_of, is_tag, tag_in, has_tag, field_bytes}

pub data DraftCall : Type 0 where
  save : ℕ → List ℕ → DraftCall
  forget : ℕ → DraftCall
  return : ℕ → List ℕ → DraftCall

-- the name that a call has
unfoldable pub name_in : DraftCall → ℕ
name_in (save n tree) = n
name_in (forget n) = n
name_in (return n out) = n

-- bytes that the tree reader accepts
pub record TreeRead (bytes : List ℕ) : Type 0 where
  pub tree_is : Tree
  pub size : ℕ
  pub nodes : ℕ
  pub reads : read_tree bytes ≡ ReadOne.one tree_is size nodes
  pub short : length bytes ≤ 32768

-- a store of the right form, of n bytes
pub record OfForm (n : ℕ) (s : List ℕ) : Type 0 where
  pub fields : List (List ℕ)
  pub reads : fields_of s ≡ some fields
  pub long : length s ≡ n

-- the number of a call, and the store after it; a return leaves the store as it is
unfoldable pub answer_to : List ℕ → DraftCall → Outcome ℕ (List ℕ)
unfolding save_of forget_of return_of
answer_to o (save n tree) = save_of o n tree
answer_to o (forget n) = forget_of o n
answer_to o (return n out) = record { answer = (return_of o n out).answer.number; memory = o }

-- the store after the calls, one after the other, refused ones included
unfoldable pub store_after : List ℕ → List DraftCall → List ℕ
unfolding answer_to
store_after o [] = o
store_after o (c ∷ cs) = store_after (answer_to o c).memory cs

-- the tree of the last accepted save under the name k, not forgotten since: before the call m, after it
unfoldable pub noted : ℕ → ℕ → DraftCall → Option (List ℕ) → Option (List ℕ)
noted k number (save n tree) m = pick (eqb n k) (pick (eqb number 0) (some tree) m) m
noted k number (forget n) m = pick (eqb n k) (pick (eqb number 0) none m) m
noted k number (return n out) m = m

unfoldable pub last_saved : ℕ → List ℕ → List DraftCall → Option (List ℕ) → Option (List ℕ)
unfolding answer_to noted
last_saved k o [] m = m
last_saved k o (c ∷ cs) m = last_saved k (answer_to o c).memory cs (noted k (answer_to o c).answer c m)

-- one whole field
pub record Field (f : List ℕ) : Type 0 where
  pub tag : is_tag (tag_in f) ≡ true
  pub ends : 3 + length_at f ≡ length f

-- fields with different tags
abbrev pub Fields : List (List ℕ) → Type 0
Fields [] = Unit {0}
Fields (f ∷ fs) = Field f × (has_tag (tag_in f) fs ≡ false) × Fields fs

pub record Formed (s : List ℕ) (fs : List (List ℕ)) : Type 0 where
  pub good : Fields fs
  pub zeros : ℕ
  pub is : s ≡ field_bytes fs ++ replicate zeros 0
