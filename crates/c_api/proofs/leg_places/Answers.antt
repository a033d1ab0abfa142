use Rattle.c_encoding.proofs.Places.{read_stays, read_comes}
use Rattle.c_api.proofs.leg_places.Goals as goal

pub returns-then-r-ne0 : goal.returns-then-r-ne0
returns-then-r-ne0 c = record {
  value = rw (c.pack.ensures, c.find_places-r.ensures.value);
  listed = c.find_places-r.ensures.listed;
  told = read_stays _ _ c.find_places-r.ensures.value _ c.if-r-ne0.true;
}

pub returns : goal.returns
returns c = record {
  value = rw (c.pack-2.ensures, c.find_places-r.ensures.value);
  listed = c.find_places-r.ensures.listed;
  told = read_comes _ _ c.find_places-r.ensures.value _ c.if-r-ne0.false;
}
