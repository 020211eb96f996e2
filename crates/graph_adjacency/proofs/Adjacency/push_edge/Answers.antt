-- The stores are those of `push`.
use Rattle.std.proofs.Common.{refl}
use Rattle.graph_adjacency.specs.Lists.{push}
use Rattle.graph_adjacency.proofs.Adjacency.push_edge.Goals as goal

pub returns : goal.returns
unfolding push
returns c = refl
