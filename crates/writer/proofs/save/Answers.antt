-- `writer::save` meets its contract.
use mathlib.Core.Path.{refl}
use Rattle.std.proofs.lemmas.Result.{err_from_is_err_and}
use Rattle.writer_records.specs.Handed.{handed}
use Rattle.writer.proofs.SaveLaws.{saved_refused, numbered, saved_room, saved_few, saved_written, saved_one}
use Rattle.writer.proofs.save.Goals as goal

pub returns-in_err-first_refusal-clause-saved : goal.returns-in_err-first_refusal-clause-saved
returns-in_err-first_refusal-clause-saved c =
    let a = c.args in
    let p = err_from_is_err_and c.from_residual.result c.from_residual.ensures.1 in
    rw (p.1, p.2) (saved_refused (handed a.drawing.now) a.destination.now _ c.in_err-first_refusal.ensures (numbered _))

pub write_file-requires : goal.write_file-requires
write_file-requires c =
    let a = c.args in
    saved_room (handed a.drawing.now) a.destination.now _ c.in_ok-first_refusal.ensures refl

pub file_size-requires : goal.file_size-requires
file_size-requires c =
    let a = c.args in
    saved_few (handed a.drawing.now) a.destination.now _ c.in_ok-first_refusal.ensures refl

pub returns-clause-saved : goal.returns-clause-saved
returns-clause-saved c =
    let a = c.args in
    saved_written (handed a.drawing.now) a.destination.now _ c.in_ok-first_refusal.ensures refl _ _ c.write_file.ensures c.file_size.ensures

pub returns-clause-one_file : goal.returns-clause-one_file
returns-clause-one_file c =
    let a = c.args in
    saved_one (handed a.drawing.now) a.destination.now _ c.in_ok-first_refusal.ensures refl _ _ c.write_file.ensures c.file_size.ensures c.have_64_bits.ensures c.have_64_bits-2.ensures
