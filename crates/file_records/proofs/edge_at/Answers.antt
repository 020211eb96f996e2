-- `file_records::edge_at` meets its contract.
use Rattle.file_records.proofs.Made.{edge_made}
use Rattle.file_records.proofs.edge_at.Goals as goal

pub returns : goal.returns
returns c = edge_made c.args.at c.args.file.now _ _ _ _ _ _ c.number2.ensures c.number2-2.ensures c.number2-3.ensures c.number2-4.ensures c.point_at.ensures c.point_at-2.ensures
