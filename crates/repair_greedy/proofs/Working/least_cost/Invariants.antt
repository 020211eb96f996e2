-- What was last looked at is a cost of two places, and the bounds hold.
use Rattle.std.proofs.Common.{◌^◌, ◌≤◌, take, ltb}
use Rattle.repair_spec.specs.Pairing.{nothing, closest}
use Rattle.repair_greedy.specs.Rows.{AtMost}
use Rattle.repair_greedy.specs.Bounds.{Bounds}
use Rattle.repair_greedy.proofs.Working.least_cost.Given as goal

abbrev pub invariant-loop : goal.invariant-loop
invariant-loop g l =
    let cost = g.C.Cost.cost l.costs in
    let w = l.self in
    AtMost (closest ltb cost (take w.left w.nodes) 0 nothing) l.cost × (l.cost ≤ 2 ^ 63) × Bounds cost w.nodes w.left l.lows
