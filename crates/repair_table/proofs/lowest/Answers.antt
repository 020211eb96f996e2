-- The place of the lowest bit is below n, and its power is in the mask (`lowest_is`).
use Rattle.repair_table.proofs.Turns.{lowest_is}
use native.Mathlib.Omega.{arith}
use lib.Count.{trailing_le}
use Rattle.repair_table.proofs.lowest.Goals as goal

pub overflow_cast-result : goal.overflow_cast-result
overflow_cast-result c = omega (arith, trailing_le 64 c.args.m)

pub returns : goal.returns
returns c = lowest_is _ _ c.requires.0 c.requires.1 c.requires.2
