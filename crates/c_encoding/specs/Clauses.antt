-- What the functions of this crate require and ensure, beyond the definitions; no theorem mentions it.
use Rattle.std.specs.Prelude.{ℕ, zero, suc, ◌≤◌, ◌<◌, List, [], ◌∷◌, drop, get_or}
use Rattle.common.specs.Choice.{pick}
use Rattle.settings.specs.declared.Settings.{Settings}
use Rattle.settings.specs.Defaults.{alignment_number, priority_number}
use Rattle.leaf.specs.declared.LeafRecord.{LeafRecord}

-- the last five of them
abbrev pub choice_numbers : Settings → List ℕ
choice_numbers s =
    alignment_number s.horizontal ∷ alignment_number s.vertical ∷ pick s.line_mode 1 0
    ∷ priority_number s.width_priority ∷ priority_number s.height_priority ∷ []

-- four numbers of a list and one of another, alternately, n times
unfoldable pub fives : ℕ → List ℕ → List ℕ → List ℕ
fives zero l m = []
fives (suc n) l m = get_or l 0 0 ∷ get_or l 1 0 ∷ get_or l 2 0 ∷ get_or l 3 0 ∷ get_or m 0 0 ∷ fives n (drop 4 l) (drop 1 m)

-- a record whose numbers fit 16 bits
pub record SmallRecord (r : LeafRecord) : Type 0 where
  pub node : r.node < 65536
  pub wide : r.size.width < 65536
  pub tall : r.size.height < 65536
  pub horizontal : r.horizontal.count ≤ 512
  pub vertical : r.vertical.count ≤ 512
  pub pair : r.pair.taken < 65536
