-- The entry is a number that is not negative.
use Rattle.std.proofs.Common.{◌+◌, get_or, arith}
use Rattle.std.specs.Float.{nan, binary64}
use Rattle.sums.specs.Key.{Nonneg}
use Rattle.sums.proofs.KeyLaws.{nonneg_number}
use Rattle.sums.proofs.Bits.{bits_top}
use Rattle.repair_greedy.proofs.DistancesCost.cost_to.Goals as goal
use Rattle.repair_greedy.proofs.DistancesCost.cost_to.Goals.{After-from-2}

entry : (c : After-from-2) → Nonneg binary64 (get_or c.args.self.now.table.now (c.args.start + c.from-2.result) nan)
entry c = c.requires.0.numbers _ (omega (arith, c.requires.0.inside c.from.result))

pub float_to_bits-result : goal.float_to_bits-result
float_to_bits-result c = nonneg_number binary64 _ (entry (goal.at.float_to_bits-result c).After-from-2)

pub returns-clause-small : goal.returns-clause-small
returns-clause-small c = bits_top _ (entry (goal.at.returns-clause-small c).After-from-2)
