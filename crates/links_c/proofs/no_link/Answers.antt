-- Zeros, bit for bit.
use Rattle.std.proofs.Common.{refl}
use lib.Ieee
use Rattle.links_c.proofs.no_link.Goals as goal

pub returns : goal.returns
unfolding Ieee.of_bits
returns c = refl
