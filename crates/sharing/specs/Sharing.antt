-- How a group's spare space is shared among its children (document 01, "Size records": Spare), and the answer of the sharing helper (its table: 11).
use Rattle.std.specs.Prelude.{ℕ, suc, ◌+◌, ◌/◌, ◌%◌, ltb, eqb}
use Rattle.common.specs.Choice.{pick}
use Rattle.settings.specs.declared.Priority.{Priority}
use Rattle.sharing.specs.declared.Shared.{Shared}

-- the part of `spare` that child i of n gets
unfoldable pub share : ℕ → ℕ → Priority → ℕ → ℕ
share spare n Priority.First i = pick (eqb i 0) spare 0
share spare n Priority.Last i = pick (eqb (suc i) n) spare 0
share spare n Priority.List i = spare / n + pick (ltb i (spare % n)) 1 0

-- the part of child i of n, or 11 where there is no such child: i ≥ n, as for every i where n is 0
abbrev pub share_of : ℕ → ℕ → Priority → ℕ → Shared
share_of spare n p i = pick (ltb i n) (record { number = 0; part = share spare n p i }) (record { number = 11; part = 0 })
