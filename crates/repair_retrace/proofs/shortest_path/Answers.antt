-- `repair_retrace::shortest_path` meets its contract.
use mathlib.Core.Path.{◌∙◌}
use Rattle.graph_arrays.specs.Arrays.{edges_in}
use Rattle.repair_retrace.proofs.Path.{found_shortest}
use Rattle.repair_retrace.proofs.shortest_path.Goals as goal

pub returns-clause-way : goal.returns-clause-way
returns-clause-way c =
    c.way_back-way.ensures.way ∙ found_shortest c.args.n (edges_in c.args.m c.args.edges.now) c.requires.edges_held.searchable c.args.s c.args.t c.requires.s_lt_n.0 _ c.search_from-count.ensures.distances
