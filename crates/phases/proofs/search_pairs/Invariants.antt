-- The pairs that are left give the whole sum, and the search has reached no node.
use Rattle.repair_search.specs.Touched.{Unreached}
use Rattle.graph_arrays.specs.Arrays.{edges_in}
use Rattle.repair_spec.specs.Distance.{zero_length}
use Rattle.repair_spec.specs.PairsIn.{listed}
use Rattle.phases.specs.Ends.{searched}
use Rattle.phases.proofs.Ends.{Searching}
use Rattle.phases.proofs.search_pairs.Given as goal

abbrev pub invariant-loop-i : goal.invariant-loop-i
invariant-loop-i l =
    let es = edges_in l.m l.edges in
    Unreached l.n l.search × Searching l.n es l.pairs.firsts l.pairs.seconds l.pairs.count (searched l.n es (listed l.pairs) zero_length) l.i l.sum
