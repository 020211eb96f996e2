-- `writer_records::write_head` meets its contract.
use Rattle.writer_records.proofs.StoredLaws.{head_stored}
use Rattle.writer_records.proofs.write_head.Goals as goal

pub returns : goal.returns
returns c = head_stored _ _ _ _ _ _ c.write_number.ensures c.write_number-2.ensures
