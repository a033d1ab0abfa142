-- What the measuring of a planning tree's ends requires and ensures.
use Rattle.std.specs.Prelude.{◌≡◌, ℕ, Bool, false, List, get_or}
use Rattle.common.specs.Choice.{pick}
use Rattle.settings.specs.declared.Settings.{Settings}
use Rattle.tree.specs.Bytes.{axis_of}
use Rattle.tree.specs.Planning.{Plan, Plans}
use Rattle.tree.specs.Promises.{PlanEncodes, PlanEncodesAll}
use Rattle.sizes.specs.declared.Size.{Size}
use Rattle.sizes.specs.Clauses.{SizeUnder}
use Rattle.plan.specs.Ends.{no_plans?, range_size, end_size}

-- a size of at most 21 bits: 42 for each byte of a planning tree
abbrev pub ShortSize : Size → Type 0
ShortSize z = SizeUnder 2097152 z

-- and with what is around the root: it has 32 bits
abbrev pub Wide : Size → Type 0
Wide z = SizeUnder 4294967296 z

-- the end of a range with these four bytes
abbrev pub end_of : Settings → Bool → List ℕ → Size
end_of s most r = range_size s (pick most (get_or r 1 0) (get_or r 0 0)) (pick most (get_or r 3 0) (get_or r 2 0))

-- the bytes begin with a plan whose size at that end is short
pub record ReadyPlan (s : Settings) (most : Bool) (bytes : List ℕ) : Type 0 where
  pub plan : Plan
  pub is : PlanEncodes plan bytes
  pub short : ShortSize (end_size s most plan)

-- the bytes are the children, at least one, of a group whose size at that end is short
pub record ReadyPlans (s : Settings) (most a : Bool) (bytes : List ℕ) : Type 0 where
  pub plans : Plans
  pub are : PlanEncodesAll plans bytes
  pub some : no_plans? plans ≡ false
  pub short : ShortSize (end_size s most (Plan.group (axis_of a) plans))
