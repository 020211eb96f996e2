-- `writer_records::write_file` meets its contract.
use native.Mathlib.Omega.{arith}
use Rattle.writer_records.proofs.FileLaws.{lines_room, links_room, file_stored}
use Rattle.writer_records.proofs.write_file.Goals as goal

pub write_settings-requires : goal.write_settings-requires
write_settings-requires c = omega (arith, c.requires.room)

pub write_lines-end-requires : goal.write_lines-end-requires
write_lines-end-requires c = lines_room _ _ c.requires _ c.write_settings.ensures

pub write_links-requires : goal.write_links-requires
write_links-requires c = links_room _ _ c.requires _ _ _ c.write_settings.ensures c.write_lines-end.ensures

pub returns : goal.returns
returns c = file_stored _ _ c.requires _ _ _ _ c.write_settings.ensures c.write_lines-end.ensures c.write_links.ensures
