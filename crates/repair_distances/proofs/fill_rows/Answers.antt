-- Where no rows are left, all are right.
use Rattle.std.proofs.Common.{arith}
use Rattle.repair_distances.proofs.fill_rows.Goals as goal

pub returns-else-rows_left : goal.returns-else-rows_left
returns-else-rows_left c = λ i j h l. c.sweep_rows-first.ensures.1 i j (omega (arith, c.if-rows_left.false)) l
