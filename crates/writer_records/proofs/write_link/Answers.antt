-- `writer_records::write_link` meets its contract.
use Rattle.writer_records.proofs.StoredLaws.{link_stored_lem}
use Rattle.writer_records.proofs.write_link.Goals as goal

pub returns : goal.returns
returns c = link_stored_lem _ _ _ _ _ _ _ _ c.requires.1 c.write_head.ensures c.write_segments.ensures c.write_coordinates.ensures
