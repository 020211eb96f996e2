-- The nodes of the arrays are those of the graph.
use Rattle.std.proofs.Common.{◌∙◌}
use Rattle.limits.specs.Limits.{most_nodes}
use Rattle.graph_arrays.proofs.NodeList.{nodes_most}
use Rattle.repair_greedy.proofs.Costs.{held_most}
use Rattle.repair_greedy.proofs.Same.{greedy_is}
use Rattle.repair_greedy.proofs.greedy_pairs.Goals as goal

pub nearest_pairs-requires : goal.nearest_pairs-requires
nearest_pairs-requires c = (held_most _ _ _ c.requires.0, nodes_most _ _ _ _ c.requires.1 c.requires.0.few, c.requires.2)

pub returns : goal.returns
returns c =
    let e = c.nearest_pairs.ensures in
    (e.0 ∙ greedy_is c.args.n c.args.nodes.now.xs c.args.nodes.now.ys most_nodes c.args.odd.now c.args.count c.requires.1, e.1)
