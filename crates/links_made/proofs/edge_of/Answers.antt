use Rattle.links_made.specs.Filled.{edge_in}
use Rattle.links_made.proofs.edge_of.Goals as goal

pub returns : goal.returns
unfolding edge_in
returns c = cc
