-- The bounds hold, and the pairs of the nodes that are left come after those that are written.
use Rattle.repair_greedy.specs.Bounds.{Bounds}
use Rattle.repair_greedy.proofs.Rounds.{Writing}
use Rattle.repair_greedy.proofs.nearest_pairs.Given as goal

abbrev pub invariant-loop-working : goal.invariant-loop-working
invariant-loop-working g l =
    let cost = g.C.Cost.cost l.costs in
    let w = l.working in
    Bounds cost w.nodes w.left l.lows × Writing cost l.count w.left l.nodes w.nodes l.pairs

abbrev pub decreases-loop-working : goal.decreases-loop-working
decreases-loop-working g l = l.working.left
