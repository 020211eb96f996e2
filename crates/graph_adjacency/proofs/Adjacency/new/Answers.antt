-- Arrays of zeros are those that hold no edges.
use Rattle.std.proofs.Common.{refl}
use Rattle.graph_adjacency.proofs.Adjacency.new.Goals as goal

pub returns : goal.returns
unfolding lib.Ieee.of_bits
returns c = refl
