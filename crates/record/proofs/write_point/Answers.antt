-- `record::write_point` meets its contract.
use Rattle.record.proofs.Written.{point_stored}
use Rattle.record.proofs.write_point.Goals as goal

pub returns : goal.returns
returns c = point_stored _ _ _ _ _ _ _ _ c.write_place.ensures c.write_place-2.ensures c.write_number.ensures c.write_number-2.ensures
