-- `repair_search::Search::search_from` meets its contract.
use Rattle.graph_arrays.specs.Arrays.{edges_in}
use Rattle.repair_search.specs.Touched.{Listed}
use Rattle.repair_search.proofs.Searching.{Progress}
use Rattle.repair_search.proofs.Search.search_from.Given as goal

abbrev pub invariant-loop-round : goal.invariant-loop-round
invariant-loop-round l = Listed l.n l.self.dist l.self.touched l.count × Progress l.n (edges_in l.m l.edges) l.s l.round l.self.dist l.self.tree.values
