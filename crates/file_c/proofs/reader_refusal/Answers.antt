-- The number of the verdict.
use mathlib.Core.Path.{sym, ap, ◌∙◌}
use Rattle.drawing_spec.specs.Refusal.{refusal_of}
use Rattle.file.specs.Reading.{Accepted}
use Rattle.file_c.proofs.reader_refusal.Goals as goal

pub returns-in-Ok : goal.returns-in-Ok
returns-in-Ok c = let a : Accepted c.args.file.now c.read_into.new.drawing = c.in-Ok.ensures in ap refusal_of (sym a.verdict_is)

pub returns-in-Err : goal.returns-in-Err
returns-in-Err c = c.from.ensures ∙ c.number.ensures ∙ ap refusal_of (sym c.in-Err.ensures)
