-- What is wrong with a typed list, in words, and numbers as people read them.
use Rattle.std.specs.Prelude.{ℕ, zero, suc, ◌+◌, ◌/◌, ◌%◌, List, [], ◌∷◌, ◌++◌, eqb, ltb}
use Rattle.common.specs.Choice.{pick}

-- ---- numbers

-- a number's decimal digits, `places` of them at the most
unfoldable pub digits : ℕ → ℕ → List ℕ
digits zero n = []
digits (suc places) n = pick (ltb n 10) ((48 + n) ∷ []) (digits places (n / 10) ++ ((48 + n % 10) ∷ []))

-- a line and a column are 131,073 at the most (`fault_small`, typed/proofs/FaultBounds.antt): six digits are all
abbrev pub decimal : ℕ → List ℕ
decimal n = digits 6 n

-- ---- words

-- `the list has over 131,072 bytes`
abbrev pub words30 : List ℕ
words30 = 116 ∷ 104 ∷ 101 ∷ 32 ∷ 108 ∷ 105 ∷ 115 ∷ 116 ∷ 32 ∷ 104 ∷ 97 ∷ 115 ∷ 32 ∷ 111 ∷ 118 ∷ 101 ∷ 114 ∷ 32 ∷ 49 ∷ 51 ∷ 49 ∷ 44 ∷ 48 ∷ 55 ∷ 50 ∷ 32 ∷ 98
    ∷ 121 ∷ 116 ∷ 101 ∷ 115 ∷ []

-- `only ASCII letters, digits, signs and spaces are allowed here: no tab, no accent`
abbrev pub words31 : List ℕ
words31 = 111 ∷ 110 ∷ 108 ∷ 121 ∷ 32 ∷ 65 ∷ 83 ∷ 67 ∷ 73 ∷ 73 ∷ 32 ∷ 108 ∷ 101 ∷ 116 ∷ 116 ∷ 101 ∷ 114 ∷ 115 ∷ 44 ∷ 32 ∷ 100 ∷ 105 ∷ 103 ∷ 105 ∷ 116 ∷ 115 ∷ 44
    ∷ 32 ∷ 115 ∷ 105 ∷ 103 ∷ 110 ∷ 115 ∷ 32 ∷ 97 ∷ 110 ∷ 100 ∷ 32 ∷ 115 ∷ 112 ∷ 97 ∷ 99 ∷ 101 ∷ 115 ∷ 32 ∷ 97 ∷ 114 ∷ 101 ∷ 32 ∷ 97 ∷ 108 ∷ 108 ∷ 111 ∷ 119
    ∷ 101 ∷ 100 ∷ 32 ∷ 104 ∷ 101 ∷ 114 ∷ 101 ∷ 58 ∷ 32 ∷ 110 ∷ 111 ∷ 32 ∷ 116 ∷ 97 ∷ 98 ∷ 44 ∷ 32 ∷ 110 ∷ 111 ∷ 32 ∷ 97 ∷ 99 ∷ 99 ∷ 101 ∷ 110 ∷ 116 ∷ []

-- `only n or a backslash is allowed after a backslash`
abbrev pub words32 : List ℕ
words32 = 111 ∷ 110 ∷ 108 ∷ 121 ∷ 32 ∷ 110 ∷ 32 ∷ 111 ∷ 114 ∷ 32 ∷ 97 ∷ 32 ∷ 98 ∷ 97 ∷ 99 ∷ 107 ∷ 115 ∷ 108 ∷ 97 ∷ 115 ∷ 104 ∷ 32 ∷ 105 ∷ 115 ∷ 32 ∷ 97 ∷ 108
    ∷ 108 ∷ 111 ∷ 119 ∷ 101 ∷ 100 ∷ 32 ∷ 97 ∷ 102 ∷ 116 ∷ 101 ∷ 114 ∷ 32 ∷ 97 ∷ 32 ∷ 98 ∷ 97 ∷ 99 ∷ 107 ∷ 115 ∷ 108 ∷ 97 ∷ 115 ∷ 104 ∷ []

-- `a level is two spaces, and this line begins with an odd number of them`
abbrev pub words33 : List ℕ
words33 = 97 ∷ 32 ∷ 108 ∷ 101 ∷ 118 ∷ 101 ∷ 108 ∷ 32 ∷ 105 ∷ 115 ∷ 32 ∷ 116 ∷ 119 ∷ 111 ∷ 32 ∷ 115 ∷ 112 ∷ 97 ∷ 99 ∷ 101 ∷ 115 ∷ 44 ∷ 32 ∷ 97 ∷ 110 ∷ 100 ∷ 32
    ∷ 116 ∷ 104 ∷ 105 ∷ 115 ∷ 32 ∷ 108 ∷ 105 ∷ 110 ∷ 101 ∷ 32 ∷ 98 ∷ 101 ∷ 103 ∷ 105 ∷ 110 ∷ 115 ∷ 32 ∷ 119 ∷ 105 ∷ 116 ∷ 104 ∷ 32 ∷ 97 ∷ 110 ∷ 32 ∷ 111 ∷ 100
    ∷ 100 ∷ 32 ∷ 110 ∷ 117 ∷ 109 ∷ 98 ∷ 101 ∷ 114 ∷ 32 ∷ 111 ∷ 102 ∷ 32 ∷ 116 ∷ 104 ∷ 101 ∷ 109 ∷ []

-- `a second root: indent every line after the first`
abbrev pub words34 : List ℕ
words34 = 97 ∷ 32 ∷ 115 ∷ 101 ∷ 99 ∷ 111 ∷ 110 ∷ 100 ∷ 32 ∷ 114 ∷ 111 ∷ 111 ∷ 116 ∷ 58 ∷ 32 ∷ 105 ∷ 110 ∷ 100 ∷ 101 ∷ 110 ∷ 116 ∷ 32 ∷ 101 ∷ 118 ∷ 101 ∷ 114
    ∷ 121 ∷ 32 ∷ 108 ∷ 105 ∷ 110 ∷ 101 ∷ 32 ∷ 97 ∷ 102 ∷ 116 ∷ 101 ∷ 114 ∷ 32 ∷ 116 ∷ 104 ∷ 101 ∷ 32 ∷ 102 ∷ 105 ∷ 114 ∷ 115 ∷ 116 ∷ []

-- `too deep: only a row or column has lines inside it, and these are one level deeper`
abbrev pub words35 : List ℕ
words35 = 116 ∷ 111 ∷ 111 ∷ 32 ∷ 100 ∷ 101 ∷ 101 ∷ 112 ∷ 58 ∷ 32 ∷ 111 ∷ 110 ∷ 108 ∷ 121 ∷ 32 ∷ 97 ∷ 32 ∷ 114 ∷ 111 ∷ 119 ∷ 32 ∷ 111 ∷ 114 ∷ 32 ∷ 99 ∷ 111 ∷ 108
    ∷ 117 ∷ 109 ∷ 110 ∷ 32 ∷ 104 ∷ 97 ∷ 115 ∷ 32 ∷ 108 ∷ 105 ∷ 110 ∷ 101 ∷ 115 ∷ 32 ∷ 105 ∷ 110 ∷ 115 ∷ 105 ∷ 100 ∷ 101 ∷ 32 ∷ 105 ∷ 116 ∷ 44 ∷ 32 ∷ 97 ∷ 110
    ∷ 100 ∷ 32 ∷ 116 ∷ 104 ∷ 101 ∷ 115 ∷ 101 ∷ 32 ∷ 97 ∷ 114 ∷ 101 ∷ 32 ∷ 111 ∷ 110 ∷ 101 ∷ 32 ∷ 108 ∷ 101 ∷ 118 ∷ 101 ∷ 108 ∷ 32 ∷ 100 ∷ 101 ∷ 101 ∷ 112 ∷ 101
    ∷ 114 ∷ []

-- `over 16 levels`
abbrev pub words36 : List ℕ
words36 = 111 ∷ 118 ∷ 101 ∷ 114 ∷ 32 ∷ 49 ∷ 54 ∷ 32 ∷ 108 ∷ 101 ∷ 118 ∷ 101 ∷ 108 ∷ 115 ∷ []

-- `over 512 rows, columns and texts`
abbrev pub words37 : List ℕ
words37 = 111 ∷ 118 ∷ 101 ∷ 114 ∷ 32 ∷ 53 ∷ 49 ∷ 50 ∷ 32 ∷ 114 ∷ 111 ∷ 119 ∷ 115 ∷ 44 ∷ 32 ∷ 99 ∷ 111 ∷ 108 ∷ 117 ∷ 109 ∷ 110 ∷ 115 ∷ 32 ∷ 97 ∷ 110 ∷ 100 ∷ 32
    ∷ 116 ∷ 101 ∷ 120 ∷ 116 ∷ 115 ∷ []

-- `the list is too long: with this line its tree has over 32,768 bytes`
abbrev pub words38 : List ℕ
words38 = 116 ∷ 104 ∷ 101 ∷ 32 ∷ 108 ∷ 105 ∷ 115 ∷ 116 ∷ 32 ∷ 105 ∷ 115 ∷ 32 ∷ 116 ∷ 111 ∷ 111 ∷ 32 ∷ 108 ∷ 111 ∷ 110 ∷ 103 ∷ 58 ∷ 32 ∷ 119 ∷ 105 ∷ 116 ∷ 104
    ∷ 32 ∷ 116 ∷ 104 ∷ 105 ∷ 115 ∷ 32 ∷ 108 ∷ 105 ∷ 110 ∷ 101 ∷ 32 ∷ 105 ∷ 116 ∷ 115 ∷ 32 ∷ 116 ∷ 114 ∷ 101 ∷ 101 ∷ 32 ∷ 104 ∷ 97 ∷ 115 ∷ 32 ∷ 111 ∷ 118 ∷ 101
    ∷ 114 ∷ 32 ∷ 51 ∷ 50 ∷ 44 ∷ 55 ∷ 54 ∷ 56 ∷ 32 ∷ 98 ∷ 121 ∷ 116 ∷ 101 ∷ 115 ∷ []

-- `the list is empty: no line has a row, a column or a text`
abbrev pub words39 : List ℕ
words39 = 116 ∷ 104 ∷ 101 ∷ 32 ∷ 108 ∷ 105 ∷ 115 ∷ 116 ∷ 32 ∷ 105 ∷ 115 ∷ 32 ∷ 101 ∷ 109 ∷ 112 ∷ 116 ∷ 121 ∷ 58 ∷ 32 ∷ 110 ∷ 111 ∷ 32 ∷ 108 ∷ 105 ∷ 110 ∷ 101
    ∷ 32 ∷ 104 ∷ 97 ∷ 115 ∷ 32 ∷ 97 ∷ 32 ∷ 114 ∷ 111 ∷ 119 ∷ 44 ∷ 32 ∷ 97 ∷ 32 ∷ 99 ∷ 111 ∷ 108 ∷ 117 ∷ 109 ∷ 110 ∷ 32 ∷ 111 ∷ 114 ∷ 32 ∷ 97 ∷ 32 ∷ 116 ∷ 101
    ∷ 120 ∷ 116 ∷ []

-- `the sheet has over 400 columns or over 160 lines`
abbrev pub words_large : List ℕ
words_large = 116 ∷ 104 ∷ 101 ∷ 32 ∷ 115 ∷ 104 ∷ 101 ∷ 101 ∷ 116 ∷ 32 ∷ 104 ∷ 97 ∷ 115 ∷ 32 ∷ 111 ∷ 118 ∷ 101 ∷ 114 ∷ 32 ∷ 52 ∷ 48 ∷ 48 ∷ 32 ∷ 99 ∷ 111 ∷ 108
    ∷ 117 ∷ 109 ∷ 110 ∷ 115 ∷ 32 ∷ 111 ∷ 114 ∷ 32 ∷ 111 ∷ 118 ∷ 101 ∷ 114 ∷ 32 ∷ 49 ∷ 54 ∷ 48 ∷ 32 ∷ 108 ∷ 105 ∷ 110 ∷ 101 ∷ 115 ∷ []

-- by the number: 30 to 39, and 6 of the sheet, which alone is left
unfoldable pub fault_words : ℕ → List ℕ
fault_words k =
    pick (eqb k 30) words30
    (pick (eqb k 31) words31
    (pick (eqb k 32) words32
    (pick (eqb k 33) words33
    (pick (eqb k 34) words34
    (pick (eqb k 35) words35
    (pick (eqb k 36) words36
    (pick (eqb k 37) words37
    (pick (eqb k 38) words38
    (pick (eqb k 39) words39
    words_large)))))))))

-- `line `, `, column `, `: `
abbrev pub line_text : List ℕ
line_text = 108 ∷ 105 ∷ 110 ∷ 101 ∷ 32 ∷ []

abbrev pub column_text : List ℕ
column_text = 44 ∷ 32 ∷ 99 ∷ 111 ∷ 108 ∷ 117 ∷ 109 ∷ 110 ∷ 32 ∷ []

abbrev pub colon_text : List ℕ
colon_text = 58 ∷ 32 ∷ []

-- where the fault is; one of the whole list has no place
unfoldable pub place_text : ℕ → ℕ → List ℕ
unfolding digits
place_text l c = pick (eqb l 0) [] (line_text ++ (decimal l ++ (column_text ++ (decimal c ++ colon_text))))

-- `line L, column C: `, the words and 0A
unfoldable pub fault_text : ℕ → ℕ → ℕ → List ℕ
unfolding place_text fault_words
fault_text k l c = place_text l c ++ (fault_words k ++ (10 ∷ []))
