-- `file_records::on_grid` meets its contract.
use Prim.Native.Nat.{ℕ}
use mathlib.Core.Path.{ap, ◌∙◌}
use Rattle.grid.specs.Grid.{read_place, on_grid}
use Rattle.file_records.proofs.on_grid.Goals as goal

pub returns : goal.returns
returns c = c.on_grid.ensures ∙ ap (λ (n : ℕ). on_grid (read_place n)) c.number8.ensures
