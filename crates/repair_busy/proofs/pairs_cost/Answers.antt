-- The steps.
use Rattle.std.specs.Float.{binary64}
use Rattle.std.proofs.Common.{arith}
use Rattle.sums.proofs.Sum.{zero_bits}
use Rattle.repair_greedy.specs.Costs.{entry_of}
use Rattle.repair_busy.proofs.Busy.{cost_start, cost_turn, cost_end}
use Rattle.repair_busy.proofs.pairs_cost.Goals as goal

pub loop-k-init : goal.loop-k-init
loop-k-init c = let p = c.args.pairs.now in cost_start (entry_of c.args.distances.now) p.firsts p.seconds p.count _ (zero_bits binary64)

pub distance_in-cost-requires : goal.distance_in-cost-requires
distance_in-cost-requires c =
    let two = c.requires.1.among.among c.loop-k.k c.loop-k-test.true in
    (two.0, two.1, c.requires.0)

pub loop-k-preserved : goal.loop-k-preserved
loop-k-preserved c =
    let p = c.args.pairs.now in cost_turn (entry_of c.args.distances.now) p.firsts p.seconds _ _ _ _ _ c.loop-k-test.true c.distance_in-cost.ensures c.loop-k.invariant

pub returns : goal.returns
returns c = let p = c.args.pairs.now in cost_end (entry_of c.args.distances.now) p.firsts p.seconds _ _ _ _ c.loop-k-test.false c.loop-k.invariant
