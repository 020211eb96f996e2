-- `writer_again::save_again` meets its contract.
use mathlib.Core.Path.{◌∙◌}
use Rattle.lists.specs.Members.{All}
use Rattle.writer_spec.specs.OneFile.{Byte}
use Rattle.lists.proofs.Members.{all_by_place}
use Rattle.writer_again.proofs.Again.{refused_again, savable_again, accepted_again, writes_cleaned}
use Rattle.writer_again.proofs.save_again.Goals as goal

pub returns-in-Err-clause-saved : goal.returns-in-Err-clause-saved
returns-in-Err-clause-saved c =
    let a = c.args in
    refused_again a.file.now a.destination.now _ c.in-Err.ensures

pub save_arrays-requires : goal.save_arrays-requires
save_arrays-requires c = savable_again c.args.file.now _ c.in-Ok.ensures

pub returns-in-Ok : goal.returns-in-Ok
returns-in-Ok c =
    let a = c.args in
    let b : All Byte a.file.now = all_by_place Byte 0 a.file.now (λ i. (c.type_inv.file i).fits) in
    let saved = c.save_arrays.ensures ∙ accepted_again a.file.now _ c.in-Ok.ensures b a.destination.now in
    record { saved = saved; cleaned = writes_cleaned a.file.now a.destination.now b c.save_arrays.result c.save_arrays.new.destination saved }
