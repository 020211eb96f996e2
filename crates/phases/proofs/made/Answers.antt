-- `phases::made` meets its contract.
use mathlib.Core.Path.{refl}
use Rattle.phases.proofs.made.Goals as goal

pub returns : goal.returns
unfolding lib.Ieee.of_bits
returns c = refl
