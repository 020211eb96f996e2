-- `file_records::number2` meets its contract: its two bytes.
use native.Mathlib.Omega.{arith}
use Rattle.file_records.proofs.Numbers.{number_two}
use Rattle.file_records.proofs.number2.Goals as goal

pub returns : goal.returns
returns c = omega (arith, number_two c.args.at c.args.file.now)
