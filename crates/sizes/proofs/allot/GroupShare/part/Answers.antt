use Rattle.sharing.proofs.Shares.{share_low}
use Rattle.sizes.proofs.allot.GroupShare.part.Goals as goal

pub returns-else-self-eq0-clause-low : goal.returns-else-self-eq0-clause-low
returns-else-self-eq0-clause-low c = let g = c.args.self in
    rw c.share_of.ensures (share_low g.spare g.children g.priority c.args.i (c.requires.there c.if-self-eq0.false))
