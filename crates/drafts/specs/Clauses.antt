-- A store scanned for a tag.
use Rattle.std.specs.Prelude.{ℕ, ◌+◌, List, [], ◌∷◌, length, eqb, Option, Some, None, Result, Ok, Err}
use Rattle.std.proofs.Math.Option.{Option as Maybe, some, none}
use Rattle.common.specs.Choice.{pick}
use Rattle.common.specs.Refusals.{number_of, refusal_of}
use Rattle.common.specs.declared.refusal.Refusal.{Refusal}
use Rattle.tree.specs.Bytes.{length_at}
use Rattle.drafts.specs.Store.{is_name, tag_for, whole_field, tag_in, field_bytes}
use Rattle.drafts.specs.declared.scan.FieldAt.{FieldAt}
use Rattle.drafts.specs.declared.scan.Scan.{Scan}
use Rattle.drafts.specs.declared.Returned.{Returned}

-- the bytes of the field at the front of s
abbrev pub field_size : List ℕ → Option ℕ
field_size s = pick (whole_field s) (Some (3 + length_at s)) None

-- where the field of that tag is, in fields that start at i
unfoldable pub field_from : ℕ → ℕ → List (List ℕ) → Option FieldAt
field_from k i [] = None
field_from k i (f ∷ fs) = pick (eqb (tag_in f) k) (Some (record { at = i; size = length f })) (field_from k (i + length f) fs)

-- the bytes that the fields take, and where the field looked for is
abbrev pub scan_of : ℕ → Maybe (List (List ℕ)) → Option Scan
scan_of k none = None
scan_of k (some fs) = Some (record { used = length (field_bytes fs); spot = field_from k 0 fs })

-- a store opened for a name: 18, then 19 for the name
abbrev pub opened_of : ℕ → Maybe (List (List ℕ)) → Result Scan Refusal
opened_of n none = Err (refusal_of 18)
opened_of n (some fs) = pick (is_name n) (Ok (record { used = length (field_bytes fs); spot = field_from (tag_for n) 0 fs })) (Err (refusal_of 19))

-- the number and the count that an answer has
abbrev pub returned_as : Result ℕ Refusal → Returned
returned_as (Ok n) = record { number = 0; count = n }
returned_as (Err k) = record { number = number_of k; count = 0 }
