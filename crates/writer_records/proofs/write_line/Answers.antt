-- `writer_records::write_line` meets its contract.
use Rattle.writer_records.proofs.StoredLaws.{line_stored_lem}
use Rattle.writer_records.proofs.write_line.Goals as goal

pub returns : goal.returns
returns c = line_stored_lem _ _ _ _ _ _ _ c.write_head.ensures c.write_coordinates.ensures
