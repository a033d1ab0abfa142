use Rattle.text.proofs.Lanes.{word_marks}
use Rattle.text.proofs.words.marks.Goals as goal

pub returns : goal.returns
returns c = word_marks c.args.x
