-- Its bytes, each by its weight.
use native.Mathlib.Omega.{arith}
use Rattle.file_records.proofs.Numbers.{number_four}
use Rattle.file_records.proofs.number4.Goals as goal

pub returns : goal.returns
returns c = omega (arith, number_four c.args.at c.args.file.now)
