-- A row is passed over by its bound, or looked at.
use Rattle.std.proofs.Common.{arith}
use Rattle.repair_greedy.proofs.Rows.{row_taken}
use Rattle.repair_greedy.proofs.Bounds.{row_passed, row_bounds}
use Rattle.repair_greedy.proofs.Working.with_row.Goals as goal

pub returns-then-best-lows : goal.returns-then-best-lows
returns-then-best-lows g c =
    let w = c.args.self.now in
    (row_passed (g.C.Cost.cost c.args.costs.now) w.nodes w.left c.requires.2.long c.args.lows.now c.args.i _ _ _ (omega arith) c.requires.3 c.if-best-lows.true, c.requires.3)

pub returns : goal.returns
returns g c =
    let w = c.args.self.now in
    let is = c.scan_row-row.ensures.nearest in
    (row_taken _ _ _ _ _ _ _ _ _ _ is c.nearer.ensures, row_bounds (g.C.Cost.cost c.args.costs.now) w.nodes w.left c.requires.2.long c.args.lows.now c.args.i _ _ _ c.requires.3 is)
