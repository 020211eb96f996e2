-- `file_records::place_at` meets its contract.
use mathlib.Core.Path.{ap, ◌∙◌}
use Rattle.grid.specs.Grid.{read_place, place_at}
use Rattle.file_records.proofs.place_at.Goals as goal

pub returns : goal.returns
returns c = c.place_number.ensures ∙ ap place_at (c.read_place.ensures ∙ ap read_place c.number8.ensures)
