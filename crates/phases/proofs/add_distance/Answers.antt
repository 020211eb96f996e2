-- The search has the least distance of its goal.
use Rattle.std.specs.Float.{nan, binary64}
use Rattle.std.specs.Float.Ieee.{add}
use Rattle.std.proofs.Common.{◌<◌, length, ap, ◌∙◌, arith}
use Rattle.graph_arrays.specs.Arrays.{edges_in}
use Rattle.repair_spec.specs.Distance.{infinity}
use Rattle.lists.proofs.Elements.{get_d_inside}
use Rattle.repair_search.proofs.Searching.{goal_same}
use Rattle.phases.proofs.add_distance.Goals as goal

pub returns-clause-added : goal.returns-clause-added
returns-clause-added c =
    let es = edges_in c.args.m c.args.edges.now in
    let ds = c.search_from-count.new.self.dist in
    let E = c.requires.edges_held in
    let at : c.args.to < length ds = omega (arith, c.requires.from_lt_n.1, E.edges.few_nodes, c.search_from-count.ensures.distances.long) in
    let same = goal_same es c.args.from c.args.to ds c.search_from-count.ensures.distances c.args.n E.searchable.inside E.searchable.weights c.requires.from_lt_n.0 in
    ap (add binary64 c.args.sum) (get_d_inside ds c.args.to nan infinity at ∙ same)
