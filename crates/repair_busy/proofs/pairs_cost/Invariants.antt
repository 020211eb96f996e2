-- What the pairs that are left cost, added to what is in hand, is what all cost.
use Rattle.std.proofs.Common.{◌≡◌, ◌-◌}
use Rattle.repair_spec.specs.Pairing.{add_pairs, cost_of}
use Rattle.repair_spec.specs.PairsIn.{pairs_in, listed}
use Rattle.repair_greedy.specs.Costs.{entry_of}
use Rattle.repair_busy.proofs.pairs_cost.Given as goal

abbrev pub invariant-loop-k : goal.invariant-loop-k
invariant-loop-k l =
    add_pairs (entry_of l.distances) (pairs_in l.pairs.firsts l.pairs.seconds l.k (l.pairs.count - l.k)) l.cost ≡ cost_of (entry_of l.distances) (listed l.pairs)
