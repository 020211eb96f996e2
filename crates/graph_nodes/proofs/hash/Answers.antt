-- A remainder is below what it is of.
use Rattle.std.proofs.Common.{refl, arith}
use Rattle.graph_nodes.specs.Table.{hash_of}
use Rattle.graph_nodes.proofs.hash.Goals as goal

pub returns : goal.returns
unfolding hash_of
returns c = (refl, omega arith)
