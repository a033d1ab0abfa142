use Rattle.std.proofs.Common.{◌≡◌, length, arith, eqb-true}
use Rattle.text.proofs.Measured.{short_size}
use Rattle.text.proofs.measure.is_short.Goals as goal

pub returns-then-text-lt8 : goal.returns-then-text-lt8
returns-then-text-lt8 c = λ e. let t = c.args.text.now in let k : c.next_feed_bytewise.result ≡ length t = eqb-true _ _ e in
    short_size t (omega (arith, c.next_feed_bytewise.ensures))
