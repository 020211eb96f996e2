-- `repair_retrace::apply_matching` meets its contract.
use Rattle.graph_arrays.specs.Arrays.{edges_in}
use Rattle.repair_spec.specs.PairsIn.{pairs_in}
use Rattle.repair_spec.specs.Repair.{apply_matching}
use Rattle.repair_search.specs.Touched.{Unreached}
use Rattle.repair_retrace.specs.Outcome.{so_far}
use Rattle.repair_retrace.proofs.Matching.{Applying}
use Rattle.repair_retrace.proofs.apply_matching.Given as goal

abbrev pub invariant-loop-i : goal.invariant-loop-i
invariant-loop-i l =
    let p = l.pairs in
    let whole = apply_matching l.most l.number l.n (pairs_in p.firsts p.seconds 0 p.count) (so_far (edges_in l.m l.initial.edges) l.sum) in
    Unreached l.n l.search × Applying l.most l.number l.n p.firsts p.seconds p.count whole l.edges l.i l.laid.edges l.laid.sum
