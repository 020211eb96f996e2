-- The rows that are left, with what is in hand, give the nearest two of all.
use Rattle.std.proofs.Common.{◌≡◌, take, drop, ltb}
use Rattle.repair_spec.specs.Pairing.{nothing, between, closest}
use Rattle.repair_greedy.specs.Bounds.{Bounds}
use Rattle.repair_greedy.proofs.Working.find_closest.Given as goal

abbrev pub invariant-loop-i : goal.invariant-loop-i
invariant-loop-i g l =
    let cost = g.C.Cost.cost l.costs in
    let w = l.self in
    Bounds cost w.nodes w.left l.lows
    × (closest ltb cost (drop l.i (take w.left w.nodes)) l.i (between l.best.from l.best.to l.best.cost) ≡ closest ltb cost (take w.left w.nodes) 0 nothing)
