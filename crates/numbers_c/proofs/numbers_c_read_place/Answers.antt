-- `numbers_c_read_place` meets its contract: both of its calls say what they answer.
use mathlib.Core.Path.{ap, ◌∙◌}
use Rattle.grid.specs.Grid.{place_at}
use Rattle.numbers_c.proofs.numbers_c_read_place.Goals as goal

pub returns : goal.returns
returns c = c.place_number.ensures ∙ ap place_at c.read_place.ensures
