-- `phases::refused` meets its contract.
use mathlib.Core.Path.{refl}
use Rattle.phases.proofs.refused.Goals as goal

pub returns : goal.returns
unfolding lib.Ieee.of_bits
returns c = rw c.from.ensures refl
