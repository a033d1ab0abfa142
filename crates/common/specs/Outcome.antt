-- What a call with lent memory does.

-- what it answers, and what the memory then holds
pub record Outcome (A M : Type 0) : Type 0 where
  pub answer : A
  pub memory : M
