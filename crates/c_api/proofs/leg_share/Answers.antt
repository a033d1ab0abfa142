use Rattle.c_encoding.proofs.Parts.{share_word, part_stays, part_comes}
use Rattle.c_api.proofs.leg_share.Goals as goal

pub returns-then-s-ne0 : goal.returns-then-s-ne0
returns-then-s-ne0 c = let a = c.args in
    record {
      value = share_word a.spare a.n _ _ a.index 0 _ c.share-s.ensures c.priority_of-p.ensures _ c.pack.ensures;
      shown = part_stays a.spare a.n _ _ a.index _ _ c.share-s.ensures c.priority_of-p.ensures c.if-s-ne0.true;
    }

pub returns : goal.returns
returns c = let h = c.if-s-ne0.false in
    let a = c.args in record {
      value = share_word a.spare a.n _ _ a.index 0 _ c.share-s.ensures c.priority_of-p.ensures _ (rw h c.pack-2.ensures);
      shown = part_comes a.spare a.n _ _ a.index _ _ c.share-s.ensures c.priority_of-p.ensures h;
    }
