-- A store of drafts (request 12): fields of hex tag 20 to 27, two-byte length with the high byte first, the tree's bytes, back to back, each name at most once,
-- then zero bytes to the store's end. The bytes of a field include its tag and length.
use Rattle.std.specs.Prelude.{ℕ, zero, suc, ◌+◌, ◌-◌, Bool, true, false, List, [], ◌∷◌, ◌++◌, length, get_or, take, drop, replicate, ltb, leb, eqb}
use Rattle.std.proofs.Math.Option.{Option, some, none}
use Rattle.common.specs.Choice.{pick}
use Rattle.common.specs.Outcome.{Outcome}
use Rattle.tree.specs.Bytes.{length_at}
use Rattle.tree.specs.Accepted.{element}
use Rattle.tree.specs.Reading.{ReadOne, read_tree}
use Rattle.drafts.specs.declared.Returned.{Returned}

-- ---- names: hex 41 to 48, A to H, for the tags hex 20 to 27

unfoldable pub is_name : ℕ → Bool
is_name n = pick (ltb n 65) false (ltb n 73)

unfoldable pub tag_for : ℕ → ℕ
tag_for n = n - 33

unfoldable pub is_tag : ℕ → Bool
is_tag b = pick (ltb b 32) false (ltb b 40)

-- ---- fields

unfoldable pub all_zero : List ℕ → Bool
all_zero [] = true
all_zero (b ∷ s) = pick (eqb b 0) (all_zero s) false

abbrev pub tag_in : List ℕ → ℕ
tag_in f = get_or f 0 0

-- a field with that tag
unfoldable pub has_tag : ℕ → List (List ℕ) → Bool
has_tag k [] = false
has_tag k (f ∷ fs) = pick (eqb (tag_in f) k) true (has_tag k fs)

-- s begins with a whole field
unfoldable pub whole_field : List ℕ → Bool
unfolding is_tag
whole_field s = pick (ltb (length s) 3) false (pick (is_tag (tag_in s)) (leb (3 + length_at s) (length s)) false)

-- a field before others: its name is not among theirs
abbrev pub field_then : List ℕ → Option (List (List ℕ)) → Option (List (List ℕ))
field_then f none = none
field_then f (some fs) = pick (has_tag (tag_in f) fs) none (some (f ∷ fs))

-- by fuel, one more than the bytes of s
unfoldable pub read_fields : ℕ → List ℕ → Option (List (List ℕ))
unfolding all_zero whole_field has_tag
read_fields zero s = none
read_fields (suc fuel) [] = some []
read_fields (suc fuel) (b ∷ s) = elim (eqb b 0) [
  | true ↦ pick (all_zero s) (some []) none
  | false ↦ elim (whole_field (b ∷ s)) [
    | true ↦ field_then (take (3 + length_at (b ∷ s)) (b ∷ s)) (read_fields fuel (drop (3 + length_at (b ∷ s)) (b ∷ s)))
    | false ↦ none
  ]
]

-- the fields of a store, or none where it is not of the right form
unfoldable pub fields_of : List ℕ → Option (List (List ℕ))
unfolding read_fields
fields_of s = read_fields (length s + 1) s

unfoldable pub field_bytes : List (List ℕ) → List ℕ
field_bytes [] = []
field_bytes (f ∷ fs) = f ++ field_bytes fs

-- the store of n bytes with these fields
unfoldable pub store_of : ℕ → List (List ℕ) → List ℕ
unfolding field_bytes
store_of n fs = field_bytes fs ++ replicate (n - length (field_bytes fs)) 0

-- the fields without that tag, and the draft with it
unfoldable pub without_tag : ℕ → List (List ℕ) → List (List ℕ)
without_tag k [] = []
without_tag k (f ∷ fs) = pick (eqb (tag_in f) k) fs (f ∷ without_tag k fs)

unfoldable pub draft_of : ℕ → List (List ℕ) → Option (List ℕ)
draft_of k [] = none
draft_of k (f ∷ fs) = pick (eqb (tag_in f) k) (some (drop 3 f)) (draft_of k fs)

-- ---- saving and forgetting: the number, and the store afterwards

-- 20 where the other fields, 3 and the tree exceed the store
abbrev pub save_tree : List ℕ → List (List ℕ) → ℕ → List ℕ → ReadOne → Outcome ℕ (List ℕ)
save_tree o fs k tree (ReadOne.refused n) = record { answer = n; memory = o }
save_tree o fs k tree (ReadOne.one t z n) =
    pick (ltb (length o) (length (field_bytes (without_tag k fs)) + (3 + length tree))) (record { answer = 20; memory = o })
    (record { answer = 0; memory = store_of (length o) (without_tag k fs ++ (element k tree ∷ [])) })

abbrev pub save_in : List ℕ → Option (List (List ℕ)) → ℕ → List ℕ → Outcome ℕ (List ℕ)
save_in o none n tree = record { answer = 18; memory = o }
save_in o (some fs) n tree = pick (is_name n) (save_tree o fs (tag_for n) tree (read_tree tree)) (record { answer = 19; memory = o })

unfoldable pub save_of : List ℕ → ℕ → List ℕ → Outcome ℕ (List ℕ)
unfolding fields_of store_of without_tag is_name tag_for
save_of o n tree = save_in o (fields_of o) n tree

abbrev pub forget_in : List ℕ → Option (List (List ℕ)) → ℕ → Outcome ℕ (List ℕ)
forget_in o none n = record { answer = 18; memory = o }
forget_in o (some fs) n =
    pick (is_name n) (pick (has_tag (tag_for n) fs) (record { answer = 0; memory = store_of (length o) (without_tag (tag_for n) fs) })
    (record { answer = 19; memory = o }))
    (record { answer = 19; memory = o })

unfoldable pub forget_of : List ℕ → ℕ → Outcome ℕ (List ℕ)
unfolding fields_of store_of without_tag is_name tag_for has_tag
forget_of o n = forget_in o (fields_of o) n

-- ---- returning: the answer, and the lent tree buffer afterwards

abbrev pub no_return : ℕ → List ℕ → Outcome Returned (List ℕ)
no_return k out = record { answer = record { number = k; count = 0 }; memory = out }

-- 8 where the buffer is shorter than the tree; its bytes past the tree stay
abbrev pub return_found : Option (List ℕ) → List ℕ → Outcome Returned (List ℕ)
return_found none out = no_return 19 out
return_found (some tree) out =
    pick (ltb (length out) (length tree)) (no_return 8 out)
    (record { answer = record { number = 0; count = length tree }; memory = tree ++ drop (length tree) out })

abbrev pub return_in : Option (List (List ℕ)) → ℕ → List ℕ → Outcome Returned (List ℕ)
return_in none n out = no_return 18 out
return_in (some fs) n out = pick (is_name n) (return_found (draft_of (tag_for n) fs) out) (no_return 19 out)

unfoldable pub return_of : List ℕ → ℕ → List ℕ → Outcome Returned (List ℕ)
unfolding fields_of draft_of is_name tag_for
return_of o n out = return_in (fields_of o) n out
