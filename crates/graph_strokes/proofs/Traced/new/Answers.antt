-- The edges are none, and everything else is zeros.
use Rattle.std.proofs.Common.{ap, replicate}
use Rattle.limits.specs.Limits.{most_nodes}
use Rattle.graph_nodes.specs.Table.{table, bucket_count}
use Rattle.graph_adjacency.specs.Lists.{Adjacency}
use Rattle.graph_strokes.specs.Step.{traced}
use Rattle.graph_strokes.proofs.Traced.new.Goals as goal

pub returns : goal.returns
returns c =
    ap (λ (g : Adjacency). traced (table (replicate most_nodes 0) (replicate most_nodes 0) (replicate most_nodes 0) (replicate bucket_count 0)) g 0 0 0) c.new.ensures
