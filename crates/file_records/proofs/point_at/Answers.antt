-- `file_records::point_at` meets its contract.
use Rattle.file_records.proofs.Made.{point_made}
use Rattle.file_records.proofs.point_at.Goals as goal

pub returns : goal.returns
returns c = point_made c.args.at c.args.file.now _ _ _ _ c.coordinate.ensures c.coordinate-2.ensures c.place_at.ensures c.place_at-2.ensures
