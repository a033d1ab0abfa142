-- Some typed lists, computed on the definition.
use mathlib.Core.Path.{◌≡◌, refl}
use mathlib.Core.List.{[], ◌∷◌}
use Rattle.tree.specs.Accepted.{bytes_of}
use Rattle.text.specs.Text.{lines, onto}
use Rattle.typed.specs.Text.{byte_of, text_from}
use Rattle.typed.specs.Line.{without_return, spaces, same_bytes, plain_line, one_line_of}
use Rattle.typed.specs.Scan.{place_fault, scan_from}
use Rattle.typed.specs.Typed.{push, trees_at, typed_refusal, typed_accepted, typed_of}

-- `ab`
cell_ab : typed_of (97 ∷ 98 ∷ []) (9 ∷ 9 ∷ 9 ∷ 9 ∷ 9 ∷ 9 ∷ []) ≡ typed_accepted (1 ∷ 0 ∷ 2 ∷ 97 ∷ 98 ∷ []) (9 ∷ 9 ∷ 9 ∷ 9 ∷ 9 ∷ 9 ∷ [])
unfolding typed_of scan_from place_fault one_line_of plain_line without_return spaces same_bytes text_from byte_of lines onto trees_at push bytes_of
cell_ab = refl

-- `row`, and below it a Cell whose text is a line feed, with a carriage return at each line's end
row_feed : typed_of (114 ∷ 111 ∷ 119 ∷ 13 ∷ 10 ∷ 32 ∷ 32 ∷ 92 ∷ 110 ∷ 13 ∷ 10 ∷ []) (9 ∷ 9 ∷ 9 ∷ 9 ∷ 9 ∷ 9 ∷ 9 ∷ [])
    ≡ typed_accepted (2 ∷ 0 ∷ 4 ∷ 1 ∷ 0 ∷ 1 ∷ 10 ∷ []) (9 ∷ 9 ∷ 9 ∷ 9 ∷ 9 ∷ 9 ∷ 9 ∷ [])
unfolding typed_of scan_from place_fault one_line_of plain_line without_return spaces same_bytes text_from byte_of lines onto trees_at push bytes_of
row_feed = refl

-- `'row` is a Cell
quoted : typed_of (39 ∷ 114 ∷ 111 ∷ 119 ∷ []) (9 ∷ 9 ∷ 9 ∷ 9 ∷ 9 ∷ 9 ∷ []) ≡ typed_accepted (1 ∷ 0 ∷ 3 ∷ 114 ∷ 111 ∷ 119 ∷ []) (9 ∷ 9 ∷ 9 ∷ 9 ∷ 9 ∷ 9 ∷ [])
unfolding typed_of scan_from place_fault one_line_of plain_line without_return spaces same_bytes text_from byte_of lines onto trees_at push bytes_of
quoted = refl

-- `a` and below it an indented `b`: line 2, column 3
below_cell : typed_of (97 ∷ 10 ∷ 32 ∷ 32 ∷ 98 ∷ []) (9 ∷ 9 ∷ []) ≡ typed_refusal 35 2 3 (9 ∷ 9 ∷ [])
unfolding typed_of scan_from place_fault one_line_of plain_line without_return spaces same_bytes text_from byte_of lines onto trees_at push bytes_of
below_cell = refl

-- a tab in front of `a`, under `row`: line 2, column 1
tab : typed_of (114 ∷ 111 ∷ 119 ∷ 10 ∷ 9 ∷ 97 ∷ []) (9 ∷ 9 ∷ []) ≡ typed_refusal 31 2 1 (9 ∷ 9 ∷ [])
unfolding typed_of scan_from place_fault one_line_of plain_line without_return spaces same_bytes text_from byte_of lines onto trees_at push bytes_of
tab = refl

-- an empty list: no node, line 1
empty_list : typed_of [] [] ≡ typed_refusal 39 1 1 []
unfolding typed_of scan_from place_fault one_line_of plain_line without_return spaces same_bytes text_from byte_of lines onto trees_at push bytes_of
empty_list = refl

-- `a` and a backslash, with a carriage return behind it: one past the line's end
last_backslash : typed_of (97 ∷ 92 ∷ 13 ∷ []) [] ≡ typed_refusal 32 1 3 []
unfolding typed_of scan_from place_fault one_line_of plain_line without_return spaces same_bytes text_from byte_of lines onto trees_at push bytes_of
last_backslash = refl
