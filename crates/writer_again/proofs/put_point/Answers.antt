-- `writer_again::put_point` meets its contract.
use Rattle.writer_again.proofs.Filled.{two_sets}
use Rattle.writer_again.proofs.put_point.Goals as goal

pub returns : goal.returns
returns c = let a = c.args in two_sets a.coordinates.now a.at _ _ _ _ c.write_place.ensures c.write_place-2.ensures
