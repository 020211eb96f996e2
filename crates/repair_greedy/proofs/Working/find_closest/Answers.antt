-- The steps.
use Rattle.std.proofs.Common.{sym, arith}
use Rattle.repair_greedy.proofs.Rows.{rows_turn, rows_end, start_farther}
use Rattle.repair_greedy.proofs.Rounds.{found_places}
use Rattle.repair_greedy.proofs.Working.find_closest.Goals as goal

pub loop-i-init : goal.loop-i-init
loop-i-init g c =
    (c.least_cost-farther.ensures.2, start_farther _ _ 0 1 _ _ c.least_cost-farther.ensures.0 (omega arith))

pub loop-i-preserved : goal.loop-i-preserved
loop-i-preserved g c =
    let w = c.args.self.now in
    (c.with_row-best.ensures.1, rows_turn (g.C.Cost.cost c.args.costs.now) w.nodes w.left c.requires.2.long _ _ _ _ (omega arith) c.with_row-best.ensures.0 c.loop-i.invariant.1)

pub returns : goal.returns
returns g c =
    let cost = g.C.Cost.cost c.args.costs.now in
    let w = c.args.self.now in
    let inv = c.loop-i.invariant in
    let is = sym (rows_end cost w.nodes w.left c.requires.2.long c.loop-i.i _ _ (omega arith) inv.1) in
    let at = found_places cost w.nodes w.left _ _ _ c.requires.2.long is c.requires.0 in
    (is, at.0, at.1, inv.0)
