-- `repair_table::row_of` meets its contract.
use Rattle.repair_table.proofs.Turns.{row_fits, square_small, power_small}
use native.Mathlib.Omega.{arith}
use Rattle.repair_table.proofs.row_of.Goals as goal

pub overflow_mul-result : goal.overflow_mul-result
overflow_mul-result c = omega (arith, row_fits c.args.n c.args.i c.requires.0, square_small c.args.n c.requires.1, power_small c.args.n c.requires.1)

pub overflow_add-result : goal.overflow_add-result
overflow_add-result c = omega (arith, row_fits c.args.n c.args.i c.requires.0, square_small c.args.n c.requires.1, power_small c.args.n c.requires.1)

pub returns : goal.returns
returns c = omega (arith, row_fits c.args.n c.args.i c.requires.0, square_small c.args.n c.requires.1, power_small c.args.n c.requires.1)
