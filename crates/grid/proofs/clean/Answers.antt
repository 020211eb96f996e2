-- `grid::clean` meets its contract.
use mathlib.Core.Path.{sym, ap, ◌∙◌}
use Rattle.grid.specs.Grid.{clean}
use Rattle.grid.proofs.Back.{clean_minus, clean_other}
use Rattle.grid.proofs.clean.Goals as goal

pub returns-then-minus_zero : goal.returns-then-minus_zero
returns-then-minus_zero c = sym (ap clean c.if-minus_zero.true ∙ clean_minus)

pub returns-else-minus_zero : goal.returns-else-minus_zero
returns-else-minus_zero c = sym (clean_other c.args.bits c.if-minus_zero.false)
