-- `length_vectors::bits` meets its contract: no length is a NaN, so it has bits.
use lib.Dec.{lit≤}
use Rattle.grid.specs.Grid.{grid_exponent}
use Rattle.length.proofs.LengthLaws.{length_number}
use Rattle.length_vectors.proofs.bits.Goals as goal

pub float_to_bits-result : goal.float_to_bits-result
float_to_bits-result c = rw c.length.ensures.value (length_number grid_exponent (lit≤ tt) _ c.ranges.n.fits)
