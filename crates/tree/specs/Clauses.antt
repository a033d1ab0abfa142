-- What the functions of this crate require and ensure, beyond the definitions; no theorem mentions it.
use Rattle.std.specs.Prelude.{ℕ, ◌+◌, ◌≤◌, ◌<◌, true, false, Bool, List, get_or, length, eqb, ◌≡◌, Result, Ok, Err}
use Rattle.common.specs.Choice.{pick}
use Rattle.common.specs.Refusals.{number_of, refusal_of}
use Rattle.common.specs.declared.refusal.Refusal.{Refusal}
use Rattle.tree.specs.declared.front.Front.{Front}
use Rattle.tree.specs.declared.Header.{Header}
use Rattle.tree.specs.declared.ElementBegun.{ElementBegun}
use Rattle.tree.specs.declared.ElementBegun.TheVariants.{Leaf, Group}
use Rattle.tree.specs.declared.ReadTree.{ReadTree}
use Rattle.tree.specs.Bytes as bytes
use Rattle.tree.specs.Bytes.{length_at, Fault, Element}
use Rattle.tree.specs.Planning.{header_in, PlanOne, PlanAll, element_in, sequence_in}

-- what the front of an element shows: a Cell, or a Row or a Column without children, is a leaf
abbrev pub front_of : List ℕ → Front
front_of s =
    pick (eqb (get_or s 0 0) 1) (record { leaf = true; across = false; end = 3 + length_at s })
    (pick (eqb (length_at s) 0) (record { leaf = true; across = false; end = 3 + length_at s })
    (record { leaf = false; across = eqb (get_or s 0 0) 2; end = 3 + length_at s }))

-- what `read_header` answers
abbrev pub header_answer : bytes.Header → Result Header Refusal
header_answer (Fault k) = Err (refusal_of k)
header_answer (Element tag len) = Ok (record { tag = tag; len = len })

-- what holds of a header that is not refused; where tag 4 is accepted, its length is four
pub record HeaderFits (s : List ℕ) (depth count : ℕ) (h : Header) : Type 0 where
  pub whole : 3 + h.len ≤ length s
  pub deep : depth ≤ 16
  pub before : count < 512
  pub four : h.tag ≡ 4 → h.len ≡ 4

-- one element read: its bytes, and the nodes seen so far
pub record Step : Type 0 where
  pub size : ℕ
  pub count : ℕ

abbrev pub step_in : PlanOne → Result Step Refusal
step_in (PlanOne.refused k) = Err (refusal_of k)
step_in (PlanOne.one p size count) = Ok (record { size = size; count = count })

-- the answer for the contents of an element of this size, as one for the element
abbrev pub step_of : ℕ → Result ℕ Refusal → Result Step Refusal
step_of size (Err k) = Err k
step_of size (Ok count) = Ok (record { size = size; count = count })

-- r is what the definitions read of the element at the front of s, with fuel for each byte
abbrev pub ElementIs : Bool → ℕ → ℕ → List ℕ → Result Step Refusal → Type 0
ElementIs planning depth count s r = (f : ℕ) → length s < f → r ≡ step_in (element_in planning f depth count s)

abbrev pub nodes_in : PlanAll → Result ℕ Refusal
nodes_in (PlanAll.refused k) = Err (refusal_of k)
nodes_in (PlanAll.all ps count) = Ok count

-- the same of the elements up to the end of s
abbrev pub ElementsAre : Bool → ℕ → ℕ → List ℕ → Result ℕ Refusal → Type 0
ElementsAre planning depth count s r = (f : ℕ) → length s + 1 < f → r ≡ nodes_in (sequence_in planning f depth count s)

-- the front of a Row or a Column that ends at `end`, read and accepted
pub record GroupFront (planning : Bool) (depth count : ℕ) (s : List ℕ) (end : ℕ) : Type 0 where
  pub tag : ℕ
  pub len : ℕ
  pub header : header_in planning s depth count ≡ Element tag len
  pub no_cell : tag ≡ 1 → ⊥
  pub no_range : tag ≡ 4 → ⊥
  pub end_is : end ≡ 3 + len
  pub whole : end ≤ length s
  pub deep : depth ≤ 16
  pub before : count < 512

-- a Cell or a range of this size, read whole
pub record LeafRead (planning : Bool) (depth count : ℕ) (s : List ℕ) (size : ℕ) : Type 0 where
  pub is : ElementIs planning depth count s (Ok (record { size = size; count = count + 1 }))
  pub low : 3 ≤ size
  pub whole : size ≤ length s
  pub before : count < 512

-- what `read_cell` has read is the element's result
abbrev pub begun_fits : Bool → ℕ → ℕ → List ℕ → Result ElementBegun Refusal → Type 0
begun_fits planning depth count s (Err k) = ElementIs planning depth count s (Err k)
begun_fits planning depth count s (Ok (Leaf size)) = LeafRead planning depth count s size
begun_fits planning depth count s (Ok (Group end)) = GroupFront planning depth count s end

abbrev pub read_nodes : PlanOne → Result ℕ Refusal
read_nodes (PlanOne.refused k) = Err (refusal_of k)
read_nodes (PlanOne.one p size count) = Ok count

-- an answer by its number
abbrev pub numbered : Result ℕ Refusal → ReadTree
numbered (Err r) = record { number = number_of r; nodes = 0 }
numbered (Ok count) = record { number = 0; nodes = count }

abbrev pub plan_answer : PlanOne → ReadTree
plan_answer (PlanOne.refused k) = record { number = k; nodes = 0 }
plan_answer (PlanOne.one p size count) = record { number = 0; nodes = count }
