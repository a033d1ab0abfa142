-- Settings and tree in one input: what comes after the longest tree changes nothing.
use mathlib.Core.Path.{◌≡◌, refl, sym, ap, ◌∙◌}
use Prim.Native.Nat.{ℕ, ◌-◌, ◌≤◌, ◌<◌, min}
use native.Mathlib.Omega.{arith}
use mathlib.Core.Bool.{Bool, true, false}
use mathlib.Core.List.{List}
use lib.ListN.{length, take, drop, get_or, length-take, length-drop, drop_of_length-le}
use lib.Seq.{take_all, take-length, take-nil, drop-length, take-take, get_or-take}
use lib.Dec.{ltb, eqb}
use borrow.Author.Tests.{ltb-true, ltb-false, lt-ltb}
use Rattle.common.specs.Choice.{pick}
use Rattle.settings.specs.Reading.{settings_end}
use Rattle.tree.specs.Reading.{ReadOne, read_tree}
use Rattle.sizes.specs.Input.{input_of}
use Rattle.program.specs.Program.{printed_of, refused_text, program_of}

too_long : (l : List ℕ) → 32768 < length l → read_tree l ≡ ReadOne.refused 2
unfolding read_tree
too_long l h = rw (lt-ltb 32768 (length l) h)

-- the settings end at 31 or at 42, and where they end is seen in that front
end_case : (b : Bool) → pick b 42 31 ≤ 42
end_case true = omega arith
end_case false = omega arith

end_small : (b : List ℕ) → settings_end b ≤ 42
unfolding settings_end
end_small b = end_case (eqb (get_or b 31 0) 17)

end_front : (b : List ℕ) → settings_end (take 32811 b) ≡ settings_end b
unfolding settings_end
end_front b = rw (get_or-take 32811 b 31 0 (omega arith))

cut_front : (b : List ℕ) (e : ℕ) → e ≤ 42 → 32811 < length b
    → printed_of refused_text (input_of (take e (take 32811 b)) (drop e (take 32811 b))) ≡ printed_of refused_text (input_of (take e b) (drop e b))
unfolding input_of
cut_front b e small h =
    rw (
      take-take e 32811 b (omega arith),
      too_long (drop e (take 32811 b)) (simp (length-drop, length-take) (omega arith)),
      too_long (drop e b) (simp length-drop (omega arith)),
    )

front_case : (b : List ℕ) (x : Bool) → ltb 32811 (length b) ≡ x → program_of (take 32811 b) ≡ program_of b
unfolding program_of
front_case b true e = rw (end_front b) (cut_front b (settings_end b) (end_small b) (ltb-true _ _ e))
front_case b false e = ap program_of (take_all 32811 b (ltb-false _ _ e))

pub program_front : (b : List ℕ) → program_of (take 32811 b) ≡ program_of b
program_front b = front_case b (ltb 32811 (length b)) refl

-- and so for a buffer of that many
pub buffer_front : (buffer : List ℕ) → 32811 ≡ length buffer → (b : List ℕ) → program_of (take (length buffer) b) ≡ program_of b
buffer_front buffer e b = rw (← e) (program_front b)

-- ---- a front of n elements, or all if there are fewer, and the rest

parts_case : (n : ℕ) (l : List ℕ) (k : ℕ) → k ≡ min n (length l) → (b : Bool) → ltb (length l) n ≡ b
    → (take k l ≡ take n l) × (take (length l - k) (drop k l) ≡ drop n l)
parts_case n l k e true h =
    let few : length l < n = ltb-true (length l) n h in
    let all : k ≡ length l = omega arith in (
      rw all (take-length l ∙ sym (take_all n l (omega arith))),
      rw (all, drop-length l, drop_of_length-le l {i = n} (omega arith), take-nil),
    )
parts_case n l k e false h =
    let many : n ≤ length l = ltb-false (length l) n h in
    let is : k ≡ n = omega arith in
    (rw is, rw is (take_all (length l - n) (drop n l) (omega (arith, length-drop n l))))

parts : (n : ℕ) (l : List ℕ) (k : ℕ) → k ≡ min n (length l) → (take k l ≡ take n l) × (take (length l - k) (drop k l) ≡ drop n l)
parts n l k e = parts_case n l k e (ltb (length l) n) refl

-- settings and tree, as the input is cut
pub program_parts : (input : List ℕ) (k : ℕ) → k ≡ min (settings_end input) (length input)
    → printed_of refused_text (input_of (take k input) (take (length input - k) (drop k input))) ≡ program_of input
unfolding program_of
program_parts input k e = let p = parts (settings_end input) input k e in rw (p.0, p.1)
