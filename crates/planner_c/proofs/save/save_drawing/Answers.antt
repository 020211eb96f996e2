-- `planner_c::save::save_drawing` meets its contract.
use mathlib.Core.Path.{◌∙◌}
use Rattle.writer_spec.specs.Given.{Given, given}
use Rattle.planner_c.specs.Saved.{settings_given}
use Rattle.planner_c.proofs.SavedLaws.{refused_destination, refused_saved, refused_no_file, written_destination, written_saved}
use Rattle.planner_c.proofs.save.save_drawing.Goals as goal

pub returns-in-Ok : goal.returns-in-Ok
returns-in-Ok c =
    let a = c.args in
    let g : Given = given (settings_given a.width a.height a.pairing a.flags) a.sizes.now a.coordinates.now a.segments.now a.ends.now in
    let s = c.in-Ok.ensures in
    record { answer = written_saved g a.destination.now _ _ s.saved; destination = written_destination g a.destination.now _ _ s.saved; one_file = λ z. s.one_file }

pub returns-in-Err : goal.returns-in-Err
returns-in-Err c =
    let a = c.args in
    let g : Given = given (settings_given a.width a.height a.pairing a.flags) a.sizes.now a.coordinates.now a.segments.now a.ends.now in
    let is = c.in-Err.ensures.saved in
    let n = c.from.ensures ∙ c.number.ensures in
    record {
      answer = refused_saved g a.destination.now _ _ is _ n;
      destination = refused_destination g a.destination.now _ _ is _ n;
      one_file = refused_no_file g a.destination.now _ _ is _ n;
    }
