-- Typed lists for each number of `read_typed`, computed on the definitions.
use Rattle.std.specs.Prelude.{refl, ℕ, zero, suc, ◌*◌, List, [], ◌∷◌, ◌++◌, replicate}
use Rattle.tree.specs.Accepted.{bytes_of}
use Rattle.text.specs.Text.{lines, onto}
use Rattle.typed.specs.Text.{byte_of, text_from}
use Rattle.typed.specs.Line.{without_return, spaces, same_bytes, plain_line, one_line_of}
use Rattle.typed.specs.Scan.{place_fault, scan_from}
use Rattle.typed.specs.Typed.{push, trees_at, typed_of}
use Rattle.outcomes.specs.Promises.{Met, of_typed, typed_number}

-- `row` at level d, and n more, each in the one before
nested_rows : ℕ → ℕ → List ℕ
nested_rows d zero = []
nested_rows d (suc n) = replicate (2 * d) 32 ++ (114 ∷ 111 ∷ 119 ∷ 10 ∷ nested_rows (suc d) n)

-- n texts `a` at level 1
texts : ℕ → List ℕ
texts zero = []
texts (suc n) = 10 ∷ 32 ∷ 32 ∷ 97 ∷ texts n

pub typed_met : Met typed_number of_typed
unfolding nested_rows texts typed_of scan_from place_fault one_line_of plain_line without_return spaces same_bytes text_from byte_of lines onto trees_at push
    bytes_of
typed_met = record {
  inputs =
      (97 ∷ [], replicate 4 0)
      ∷ (replicate 131073 32, [])
      ∷ (9 ∷ [], [])
      ∷ (92 ∷ [], [])
      ∷ (32 ∷ 97 ∷ [], [])
      ∷ (97 ∷ 10 ∷ 97 ∷ [], [])
      ∷ (32 ∷ 32 ∷ 97 ∷ [], [])
      ∷ (nested_rows 0 17, [])
      ∷ (114 ∷ 111 ∷ 119 ∷ texts 512, [])
      ∷ (replicate 32766 97, [])
      ∷ ([], [])
      ∷ (97 ∷ [], [])
      ∷ [];
  each = refl;
}
