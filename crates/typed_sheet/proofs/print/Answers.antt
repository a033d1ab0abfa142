-- What is written is the front of the buffer, which is the program's output.
use Rattle.std.proofs.Common.{◌≡◌, ℕ, ◌+◌, ◌≤◌, List, arith, length, take, drop, ap, ◌∙◌}
use Rattle.std.proofs.lemmas.List.Edits.{sets, sets-eq}
use lib.Seq.{length-sets, take-append_seam}
use Rattle.typed_sheet.proofs.print.Goals as goal

front : (n : ℕ) (out old xs : List ℕ) → n ≡ length xs → out ≡ sets old 0 xs → n ≤ length out → take n out ≡ xs
front n out old xs end is within =
    let long : length out ≡ length old = ap length is ∙ length-sets old 0 xs in
    let fits : 0 + length xs ≤ length old = omega (arith, end, long, within) in
    ap (take n) is ∙ ap (λ k. take k (sets old 0 xs)) end ∙ ap (take (length xs)) (sets-eq xs old 0 fits)
    ∙ take-append_seam xs (drop (0 + length xs) old)

pub returns : goal.returns
returns g c =
    let n = c.answer_typed-n in
    let within : n.result ≤ length n.new.out = omega (arith, n.ensures.within.0, n.ensures.within.1) in
    rw (← front n.result n.new.out _ _ n.ensures.wrote.end_is n.ensures.wrote.out_is within) c.write_answer.ensures
