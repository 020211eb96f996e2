-- `writer_records::write_settings` meets its contract.
use Rattle.file_records.specs.Meaning.{settings_of}
use Rattle.writer_records.proofs.FileLaws.{settings_stored}
use Rattle.writer_records.proofs.write_settings.Goals as goal

pub returns : goal.returns
returns c =
    settings_stored _ _ _ _ _ _ (settings_of c.args.s)
    c.write_head.ensures
    (rw c.from.ensures at c.write_number.ensures)
    (rw c.from-2.ensures at c.write_number-2.ensures)
    (rw c.from-3.ensures at c.write_number-3.ensures)
    (rw c.from-4.ensures at c.write_number-4.ensures)
