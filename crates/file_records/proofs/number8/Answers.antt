-- Its bytes, each by its weight.
use native.Mathlib.Omega.{arith}
use Rattle.file_records.proofs.Numbers.{number_eight}
use Rattle.file_records.proofs.number8.Goals as goal

pub returns : goal.returns
returns c = omega (arith, number_eight c.args.at c.args.file.now)
