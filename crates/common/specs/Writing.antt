-- What a function that writes answers.
use Rattle.std.specs.Prelude.{◌≡◌, ℕ, List}

-- where it stopped, and the list afterwards
pub record Wrote {A : Type 0} (r end : ℕ) (after is : List A) : Type 0 where
  pub end_is : r ≡ end
  pub out_is : after ≡ is
