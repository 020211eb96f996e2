-- `repair_search::Search::relax` meets its contract.
use Rattle.graph_spec.specs.Graph.{edges_at}
use Rattle.graph_arrays.specs.Arrays.{edges_in}
use Rattle.repair_search.specs.Touched.{Listed}
use Rattle.repair_search.proofs.Relaxing.{Relaxing}
use Rattle.repair_search.proofs.Search.relax.Given as goal

abbrev pub invariant-loop-k : goal.invariant-loop-k
invariant-loop-k l =
    Listed l.n l.self.dist l.self.touched l.listed × Relaxing l.n l.edges (edges_at (edges_in l.m l.edges) l.u) l.u l.d l.initial.self.dist l.initial.self.tree.values l.k l.self.dist l.self.tree.values

abbrev pub decreases-loop-k : goal.decreases-loop-k
decreases-loop-k l = l.k
