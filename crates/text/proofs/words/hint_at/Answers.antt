use Rattle.std.proofs.Common.{ℕ, ◌+◌, ◌%◌, arith}
use Rattle.text.proofs.Lanes.{low_word}
use Rattle.text.proofs.Loads.{eight_none}
use Rattle.text.proofs.words.hint_at.Goals as goal

pub returns : goal.returns
returns c = λ e. let a = c.args in
    let x = c.load.result in
    let t : ℕ = (x + 0xf4f4_f4f4_f4f4_f4f5) % 18446744073709551616 in
    eight_none a.s.now a.at x (omega arith) c.load.ensures (low_word x t (omega arith) (omega arith) e)
