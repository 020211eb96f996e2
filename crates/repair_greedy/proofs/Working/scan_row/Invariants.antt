-- The places that are left in the row, with what is in hand, give what the row gives.
use Rattle.std.proofs.Common.{◌≡◌, ◌+◌, get_or, take, drop, ltb}
use Rattle.repair_spec.specs.Pairing.{nothing, between, closest_to}
use Rattle.repair_greedy.proofs.Working.scan_row.Given as goal

abbrev pub invariant-loop-j : goal.invariant-loop-j
invariant-loop-j g l =
    let cost = g.C.Cost.cost l.costs in
    let w = l.self.nodes in
    closest_to ltb cost (get_or w l.i 0) l.i (drop l.j (take l.self.left w)) l.j (between l.near.from l.near.to l.near.cost)
    ≡ closest_to ltb cost (get_or w l.i 0) l.i (drop (l.i + 1) (take l.self.left w)) (l.i + 1) nothing
