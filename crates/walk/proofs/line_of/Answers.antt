-- The line turned is the definition's.
use mathlib.Core.Path.{◌∙◌}
use Rattle.file_records.specs.Meaning.{settings_of}
use Rattle.graph_arrays.specs.Arrays.{edges_in}
use Rattle.walk.proofs.Walk.{line_turned}
use Rattle.walk.proofs.line_of.Goals as goal

pub returns : goal.returns
returns c = record {
  result_after =
      c.orient_path.ensures.count_after
      ∙ line_turned (settings_of c.args.settings) c.args.n c.args.nodes.now.xs c.args.nodes.now.ys (edges_in c.args.m c.args.edges.now) _ c.hierholzer-count.ensures.line_after;
  node_list = c.orient_path.ensures.node_list;
}
