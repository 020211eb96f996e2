-- `writer_again::put_ends` meets its contract.
use mathlib.Core.Path.{refl}
use Rattle.writer_again.proofs.Filled.{four_sets}
use Rattle.writer_again.proofs.put_ends.Goals as goal

pub returns : goal.returns
returns c = let a = c.args in four_sets a.ends.now a.at _ _ _ _ _ _ _ _ refl refl refl refl
