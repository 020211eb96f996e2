-- `file_drawing::arrays::no_link` meets its contract: a float constant is its bit pattern, and the pattern 0 is +0.
use mathlib.Core.Path.{refl}
use lib.Ieee
use Rattle.file_drawing.proofs.arrays.no_link.Goals as goal

pub returns : goal.returns
unfolding Ieee.of_bits
returns c = refl
